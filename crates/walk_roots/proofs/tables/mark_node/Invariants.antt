-- The loop's invariant: the children from the i-th on are marked, and no word outside their table is written.
use Rattle.walk_roots.specs.Fill.{Marking}
use Rattle.walk_roots.proofs.tables.mark_node.Given as goal

abbrev pub invariant-loop-i : goal.invariant-loop-i
invariant-loop-i l = Marking l.func l.n l.initial.work l.i l.work
