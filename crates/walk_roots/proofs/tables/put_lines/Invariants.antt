-- The loop's invariant: the table is that of the lines from the i-th on, and `once` says whether no region has two of them.
use Rattle.walk_roots.specs.Fill.{Filling}
use Rattle.walk_roots.proofs.tables.put_lines.Given as goal

abbrev pub invariant-loop-i : goal.invariant-loop-i
invariant-loop-i l = Filling l.func l.initial.work l.i l.work l.once
