-- The ids of a text are those of the func line and then of each kind of line (`first_above`), and the tests are made in this order.
use Rattle.std.proofs.Common.{arith}
use Rattle.std.proofs.lemmas.Grind.{common_steps}
use Rattle.func.specs.Decode.{func_of}
use Rattle.check_first.specs.Lines.{first_above}
use Rattle.check_first.proofs.first_fits.Goals as goal

pub returns-then-nodes_below : goal.returns-then-nodes_below
returns-then-nodes_below c = rw (first_above (func_of c.args.func.now) c.args.first) (grind (arith, common_steps))

pub returns-else-nodes_below : goal.returns-else-nodes_below
returns-else-nodes_below c = rw (first_above (func_of c.args.func.now) c.args.first) (grind (arith, common_steps))
