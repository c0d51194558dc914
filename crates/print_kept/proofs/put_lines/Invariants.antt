-- What the first i positions bring is put.
use Rattle.func.specs.Decode.{func_of}
use Rattle.lifting_blocks.specs.Flat.{up_to}
use Rattle.print_bytes.specs.Prints.{Prints}
use Rattle.print_lines.specs.Positions.{line_at}
use Rattle.print_kept.proofs.put_lines.Given as goal

abbrev pub invariant-loop-i : goal.invariant-loop-i
invariant-loop-i l = Prints l.initial.lines (up_to (line_at (func_of l.shown.visits.func.now)) l.i) l.lines
