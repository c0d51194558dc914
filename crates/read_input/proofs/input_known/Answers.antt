-- It tests what `known_by` says, in its order.
use Rattle.std.proofs.Common.{arith}
use Rattle.read_input.specs.Known.{known_short, known_enough, known_line}
use Rattle.read_input.proofs.input_known.Goals as goal

pub returns-then-input-lt-LINE : goal.returns-then-input-lt-LINE
returns-then-input-lt-LINE c = known_short _ (omega arith)

pub returns-then-input-ge-INPUT : goal.returns-then-input-ge-INPUT
returns-then-input-ge-INPUT c = known_enough _ (omega arith) (omega arith)

pub returns : goal.returns
returns c = known_line _ (omega arith) (omega arith) _ c.first_line.ensures c.is_none.result c.is_none.ensures
