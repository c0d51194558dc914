-- The loop's invariant: the points of the roots before the i-th stand.
use Rattle.walk_points.proofs.Roots.{Rooting}
use Rattle.walk_points.proofs.walk_roots.Given as goal

abbrev pub invariant-loop-i : goal.invariant-loop-i
invariant-loop-i l = Rooting l.func l.initial.work l.n l.i l.work l.at
