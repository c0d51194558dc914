-- The node that is found is one of the text, and the region is its child (`parent_has`).
use Rattle.std.proofs.Common.{arith}
use Rattle.func.specs.Decode.{func_of}
use Rattle.walk_points.specs.Parents.{parent_has}
use Rattle.term_kinds.proofs.visits.Visits.region_exit.Goals as goal

pub child_exit-requires-clause-n_in_bounds : goal.child_exit-requires-clause-n_in_bounds
child_exit-requires-clause-n_in_bounds c = ((parent_has (func_of c.args.self.now.func.now) c.args.r c.in-Some.n (omega (arith, c.in-Some.ensures))).0, c.requires)

pub child_exit-requires-clause-fact : goal.child_exit-requires-clause-fact
child_exit-requires-clause-fact c = (parent_has (func_of c.args.self.now.func.now) c.args.r c.in-Some.n (omega (arith, c.in-Some.ensures))).1
