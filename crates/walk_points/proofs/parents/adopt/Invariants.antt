-- The loop's invariant: the children from the i-th on name the node, and no word outside the table is written. Each child is a region, so
-- that its word lies within the table.
use Rattle.walk_points.proofs.Fill.{Adopting}
use Rattle.walk_points.proofs.parents.adopt.Given as goal

abbrev pub invariant-loop-i : goal.invariant-loop-i
invariant-loop-i l = Adopting l.func l.n l.initial.work l.i l.work
