-- The loop's invariant: the edges from the k-th on are linked. The measure is k.
use Rattle.emit_edges.proofs.Linking.{Linking}
use Rattle.emit_edges.proofs.link_term.Given as goal

abbrev pub invariant-loop-k : goal.invariant-loop-k
invariant-loop-k l = Linking l.func l.initial.work l.w l.i l.e l.work l.at l.k
