-- The loop's invariant: the children from the i-th on name the node, and no word outside the table is written. Each child is a region, so
-- that its word lies within the table.
use native.Mathlib.Omega.{arith}
use Rattle.walk_points.proofs.Fill.{adopt_number}
use Rattle.walk_points.proofs.parents.adopt.Goals as goal

pub overflow_add-work : goal.overflow_add-work
overflow_add-work c = omega (arith, adopt_number c.loop-i.invariant)

pub overflow_cast-work : goal.overflow_cast-work
overflow_cast-work c = omega (arith, adopt_number c.loop-i.invariant)
