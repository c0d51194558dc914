-- The first k targets are put, and the others are left.
use lib.ListN.{drop}
use Rattle.func.specs.Decode.{func_of}
use Rattle.terminators.specs.At.{visited_block}
use Rattle.print_bytes.specs.Prints.{Printing}
use Rattle.print_lines.specs.Lines.{points_bytes}
use Rattle.print_labels.proofs.put_targets.Given as goal

abbrev pub invariant-loop-k : goal.invariant-loop-k
invariant-loop-k l = let ls = (visited_block (func_of l.shown.visits.func.now) l.i).term.targets in
    Printing l.initial.out (points_bytes ls) l.out (points_bytes (drop l.k ls))
