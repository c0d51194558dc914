-- The first k merge labels, which come before the targets, are put, and the others are left; each is a point with a number below 512
-- (`merge_small`).
use mathlib.Core.Path.{ap, ◌∙◌}
use Prim.Native.Nat.{ℕ, ◌<◌}
use native.Mathlib.Omega.{arith}
use lib.ListN.{length, length-append, get_or-append}
use Rattle.lifting.specs.Points.{region_entry}
use Rattle.lifting.specs.Absorb.{merge_labels}
use Rattle.func.specs.Decode.{func_of}
use Rattle.walk_points.specs.Numbers.{point_number, point_of}
use Rattle.terminators.specs.At.{visited_block}
use Rattle.terminators.specs.Plain.{visited_plain}
use Rattle.print_bytes.specs.Prints.{printing_start, printing_more, printing_done, prints_same}
use Rattle.print_lines.specs.Lines.{point_bytes, points_bytes}
use Rattle.print_points.specs.Shows.{merge_small, points_next, points_end_law}
use Rattle.print_labels.proofs.put_merge.Goals as goal

pub loop-k-init : goal.loop-k-init
loop-k-init c = printing_start (points_bytes (merge_labels (visited_block (func_of c.args.shown.now.visits.func.now) c.args.i).term.merge)) (omega arith)

pub label-requires : goal.label-requires
label-requires c =
    let t = (visited_block (func_of c.args.shown.now.visits.func.now) c.args.i).term in
    record { i_in_bounds = c.requires; k_in_bounds = omega (arith, c.merge_count-n.ensures, c.loop-k-test.true, length-append (merge_labels t.merge) t.targets) }

pub put_point-requires : goal.put_point-requires
put_point-requires c =
    let t = (visited_block (func_of c.args.shown.now.visits.func.now) c.args.i).term in
    let h : c.loop-k.k < length (merge_labels t.merge) = omega (arith, c.merge_count-n.ensures, c.loop-k-test.true) in
    let e = c.label.ensures ∙ ap point_number (get_or-append (merge_labels t.merge) t.targets (region_entry 0) c.loop-k.k h) in
    omega (arith, e, (merge_small (visited_plain c.args.shown.now.visits.visited) c.args.i c.requires c.loop-k.k h).low)

pub loop-k-preserved : goal.loop-k-preserved
loop-k-preserved c =
    let t = (visited_block (func_of c.args.shown.now.visits.func.now) c.args.i).term in
    let l = merge_labels t.merge in
    let h : c.loop-k.k < length l = omega (arith, c.merge_count-n.ensures, c.loop-k-test.true) in
    let e = c.label.ensures ∙ ap point_number (get_or-append l t.targets (region_entry 0) c.loop-k.k h) in
    let here =
    prints_same c.put_point.ensures (ap (λ (x : ℕ). point_bytes (point_of x)) e ∙ (merge_small (visited_plain c.args.shown.now.visits.visited) c.args.i c.requires c.loop-k.k h).same) in
    printing_more c.loop-k.invariant here (points_next l c.loop-k.k h)

pub returns : goal.returns
returns c =
    printing_done c.loop-k.invariant
    (points_end_law (merge_labels (visited_block (func_of c.args.shown.now.visits.func.now) c.args.i).term.merge) c.loop-k.k (omega (arith, c.merge_count-n.ensures, c.loop-k-test.false)))
