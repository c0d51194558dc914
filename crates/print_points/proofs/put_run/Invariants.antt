-- The points before position j are put, and the run from j on is left.
use Rattle.func.specs.Decode.{func_of}
use Rattle.print_bytes.specs.Prints.{Printing}
use Rattle.print_lines.specs.Lines.{points_bytes}
use Rattle.print_lines.specs.Positions.{run_at}
use Rattle.print_points.proofs.put_run.Given as goal

abbrev pub invariant-loop-j : goal.invariant-loop-j
invariant-loop-j l = let F = func_of l.shown.visits.func.now in
    Printing l.initial.out (points_bytes (run_at F l.i)) l.out (points_bytes (run_at F l.j))
