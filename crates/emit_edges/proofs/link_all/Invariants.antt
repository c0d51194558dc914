-- The loop's invariant: the edges of the positions from the i-th on are linked, and the tables of the blocks stand. The measure is i; all edges
-- together fit their table (`passing_room`).
use Rattle.emit_edges.proofs.Linking.{Passing}
use Rattle.emit_edges.proofs.link_all.Given as goal

abbrev pub invariant-loop-i : goal.invariant-loop-i
invariant-loop-i l = Passing l.func l.initial.work l.m l.work l.e l.i
