-- A function slice that is too short decides (`enough_no`), and else the work slice does (`enough_half`).
use native.Mathlib.Omega.{arith}
use lib.ListN.{length}
use Rattle.reader.proofs.Laws.{enough_no, enough_half}
use Rattle.reader.proofs.enough.Goals as goal

pub returns-then-func-lt-FUNC_WORDS : goal.returns-then-func-lt-FUNC_WORDS
returns-then-func-lt-FUNC_WORDS c = enough_no (length c.args.work.now) c.if-func-lt-FUNC_WORDS.true

pub returns : goal.returns
returns c = enough_half (length c.args.func.now) (length c.args.work.now) (omega (arith, c.if-func-lt-FUNC_WORDS.false))
