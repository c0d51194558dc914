-- The loop's invariant: the children of the nodes from the i-th on are in the table. Nodes go from the last to the first, so that a
-- region's first parent stays.
use Rattle.walk_points.proofs.Fill.{Filling}
use Rattle.walk_points.proofs.parents.parents.Given as goal

abbrev pub invariant-loop-i : goal.invariant-loop-i
invariant-loop-i l = Filling l.func l.initial.work l.i l.work
