-- The loop's invariant: the table is that of the regions below r.
use mathlib.Core.Path.{◌≡◌}
use Rattle.check_marks.specs.Marks.{parent_table}
use Rattle.check_cycles.proofs.adopt_all.Given as goal

abbrev pub invariant-loop-r : goal.invariant-loop-r
invariant-loop-r l = l.work ≡ parent_table l.func.words.now l.r l.initial.work
