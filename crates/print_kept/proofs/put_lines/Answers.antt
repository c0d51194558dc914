-- What the first i positions bring is put, and what all of them bring is the lines of the function (`lines_are`).
use mathlib.Core.Path.{◌≡◌, sym, ap, ◌∙◌}
use native.Mathlib.Numerals.{add-one}
use Rattle.std.proofs.Common.{arith, rules}
use lib.ListN.{length}
use Rattle.lifting.specs.Walk.{walk_of}
use Rattle.func.specs.Decode.{func_of}
use Rattle.terminators.specs.Plain.{visited_plain}
use Rattle.lifting_blocks.specs.Flat.{up_to}
use Rattle.print_bytes.specs.Prints.{prints_end, prints_none, prints_more, prints_same}
use Rattle.print_lines.specs.Positions.{line_at, lines_are}
use Rattle.print_kept.proofs.put_lines.Goals as goal

pub loop-i-init : goal.loop-i-init
unfolding up_to
loop-i-init c = prints_none (omega arith)

pub loop-i-preserved : goal.loop-i-preserved
unfolding up_to
loop-i-preserved c =
    let f = line_at (func_of c.args.shown.now.visits.func.now) in
    prints_same (prints_more c.loop-i.invariant c.put_position.ensures) (ap (up_to f) (sym (add-one c.loop-i.i)))

pub returns : goal.returns
returns c =
    let F = func_of c.args.shown.now.visits.func.now in
    let all : c.loop-i.i ≡ length (walk_of F) = omega (arith, c.loop-i-test.false, (visited_plain c.args.shown.now.visits.visited).count) in
    prints_end (prints_same c.loop-i.invariant (ap (up_to (line_at F)) all ∙ sym (lines_are F (visited_plain c.args.shown.now.visits.visited).walkable.shaped))) (omega arith) (search rules)
