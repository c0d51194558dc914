-- The loop's invariant: the lines of the instructions before the place `from` are put, and those of the words from there on are left. The measure
-- is how many words are left, which falls since an instruction has words.
use Prim.Native.Nat.{◌≤◌, ◌-◌}
use lib.ListN.{length, drop}
use Rattle.lifting.specs.Words.{list_from}
use Rattle.print_bytes.specs.Prints.{Printing}
use Rattle.print_bytes.specs.Shown.{list_bytes}
use Rattle.print_list.proofs.list.Given as goal

abbrev pub invariant-loop-from : goal.invariant-loop-from
invariant-loop-from l = (l.from ≤ length l.words) × Printing l.initial.lines (list_bytes (list_from l.words)) l.lines (list_bytes (list_from (drop l.from l.words)))

abbrev pub decreases-loop-from : goal.decreases-loop-from
decreases-loop-from l = length l.words - l.from
