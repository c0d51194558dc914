-- The first k targets are put, and the others are left; each is a point with a number below 512 (`target_small`).
use mathlib.Core.Path.{ap, ◌∙◌}
use Prim.Native.Nat.{ℕ, ◌<◌}
use native.Mathlib.Omega.{arith}
use lib.ListN.{length}
use Rattle.func.specs.Decode.{func_of}
use Rattle.walk_points.specs.Numbers.{point_of}
use Rattle.terminators.specs.At.{visited_block}
use Rattle.terminators.specs.Plain.{visited_plain}
use Rattle.print_bytes.specs.Prints.{printing_start, printing_more, printing_done, prints_same}
use Rattle.print_lines.specs.Lines.{point_bytes, points_bytes}
use Rattle.print_points.specs.Shows.{target_small, points_next, points_end_law}
use Rattle.print_labels.proofs.put_targets.Goals as goal

pub loop-k-init : goal.loop-k-init
loop-k-init c = printing_start (points_bytes (visited_block (func_of c.args.shown.now.visits.func.now) c.args.i).term.targets) (omega arith)

pub target-requires : goal.target-requires
target-requires c = record { i_in_bounds = c.requires; k_in_bounds = omega (arith, c.target_count-n.ensures, c.loop-k-test.true) }

pub put_point-requires : goal.put_point-requires
put_point-requires c =
    let low = target_small (visited_plain c.args.shown.now.visits.visited) c.args.i c.requires c.loop-k.k (omega (arith, c.target_count-n.ensures, c.loop-k-test.true)) in
    omega (arith, c.target.ensures, low.low)

pub loop-k-preserved : goal.loop-k-preserved
loop-k-preserved c =
    let l = (visited_block (func_of c.args.shown.now.visits.func.now) c.args.i).term.targets in
    let h : c.loop-k.k < length l = omega (arith, c.target_count-n.ensures, c.loop-k-test.true) in
    let here =
    prints_same c.put_point.ensures
    (ap (λ (x : ℕ). point_bytes (point_of x)) c.target.ensures ∙ (target_small (visited_plain c.args.shown.now.visits.visited) c.args.i c.requires c.loop-k.k h).same) in
    printing_more c.loop-k.invariant here (points_next l c.loop-k.k h)

pub returns : goal.returns
returns c =
    printing_done c.loop-k.invariant
    (points_end_law (visited_block (func_of c.args.shown.now.visits.func.now) c.args.i).term.targets c.loop-k.k (omega (arith, c.target_count-n.ensures, c.loop-k-test.false)))
