-- Two numbers and the end of the line are read, and then they are stored as the line says.
use Rattle.lifting.specs.Grammar.{two}
use Rattle.func.specs.Kinds.{const_from}
use Rattle.read_lines.specs.Stores.{up_reached, stored_one}
use Rattle.read_lines.specs.Tails.{ended_by}
use Rattle.read_heads.proofs.heads.const_line.Goals as goal

pub returns-clause-stores : goal.returns-clause-stores
returns-clause-stores c = stored_one (up_reached (ended_by two).read (λ x. const_from x.0 x.1) c.in_ok-id.ensures) c.keep_pair.ensures.func_after
