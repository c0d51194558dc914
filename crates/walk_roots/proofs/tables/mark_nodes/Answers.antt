-- The loop's invariant: the children of the nodes from the i-th on are marked.
use Rattle.walk_roots.specs.Fill.{nodes_done}
use Rattle.walk_roots.proofs.tables.mark_nodes.Goals as goal

pub returns-clause-regions_marked : goal.returns-clause-regions_marked
returns-clause-regions_marked c = nodes_done c.loop-i.invariant c.loop-i-test.false
