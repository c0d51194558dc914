-- The loop's invariant: the children of the nodes from the i-th on are marked.
use Rattle.walk_roots.specs.Fill.{NodesFilled}
use Rattle.walk_roots.proofs.tables.mark_nodes.Given as goal

abbrev pub invariant-loop-i : goal.invariant-loop-i
invariant-loop-i l = NodesFilled l.func l.initial.work l.i l.work
