-- The visit from region 0 with none marked and none listed lists the roots in their order (`order_is`), and it leaves the table of ctrl lines
-- alone (`order_lines`).
use Rattle.walk_roots.proofs.Turns.{ready_first, order_is, order_few}
use Rattle.walk_roots.proofs.walk.order.Goals as goal

pub visit-requires : goal.visit-requires
visit-requires c = ready_first c.known.ensures c.requires.regions_named c.requires.regions_nonzero c.requires.indexed c.requires.regions_marked.0 c.requires.regions_marked.1

pub returns-clause-result_after : goal.returns-clause-result_after
returns-clause-result_after c = order_is c.visit.ensures.roots_visited c.requires.regions_marked.0

pub returns-clause-upper_bound : goal.returns-clause-upper_bound
returns-clause-upper_bound c = order_few c.visit.ensures.roots_visited
