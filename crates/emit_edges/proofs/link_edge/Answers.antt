-- Three stores into three tables that do not meet, in the order of `link_at`: the old head becomes the next edge, then the origin, then the new
-- head.
use native.Mathlib.Omega.{arith}
use lib.ListN.{length-set}
use Rattle.emit_edges.proofs.link_edge.Goals as goal

pub bounds-work-e-2 : goal.bounds-work-e-2
bounds-work-e-2 c = simp length-set (omega arith)

pub bounds-work-q-2 : goal.bounds-work-q-2
bounds-work-q-2 c = simp length-set (omega arith)
