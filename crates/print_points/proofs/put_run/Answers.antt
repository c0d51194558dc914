-- The points before position j are put, and the run from j on is left: what the point at j begins, and where it absorbs the next one the run from
-- there on (`run_next`).
use mathlib.Core.Path.{refl, sym, ap, ◌∙◌}
use mathlib.Core.Bool.{Bool, cond}
use mathlib.Core.List.{[], ◌++◌}
use Prim.Native.Nat.{ℕ, ◌+◌}
use native.Mathlib.Omega.{arith}
use Rattle.lifting.specs.Walk.{walk_of}
use Rattle.lifting.specs.Absorb.{use_count}
use Rattle.func.specs.Decode.{func_of}
use Rattle.walk_points.specs.Numbers.{point_of}
use Rattle.terminators.specs.At.{point_at}
use Rattle.terminators.specs.Visited.{point_small}
use Rattle.terminators.specs.Plain.{visited_plain}
use Rattle.print_bytes.specs.Prints.{printing_start, printing_more, printing_done, prints_same}
use Rattle.print_lines.specs.Lines.{point_bytes, points_bytes}
use Rattle.print_lines.specs.Positions.{run_at, run_next, run_end}
use Rattle.print_points.specs.Shows.{by_number}
use Rattle.print_points.proofs.put_run.Goals as goal

pub loop-j-init : goal.loop-j-init
loop-j-init c = printing_start (points_bytes (run_at (func_of c.args.shown.now.visits.func.now) c.args.i)) (omega arith)

pub loop-j-preserved : goal.loop-j-preserved
loop-j-preserved c =
    let F = func_of c.args.shown.now.visits.func.now in
    let here =
    prints_same c.put_point.ensures
    (ap (λ (x : ℕ). point_bytes (point_of x)) c.point.ensures.0 ∙ (by_number (point_at F c.loop-j.j) (point_small (visited_plain c.args.shown.now.visits.visited) c.loop-j.j c.loop-j-test.true)).same) in
    let left =
    ap points_bytes (run_next (use_count (walk_of F)) (walk_of F) c.loop-j.j (omega (arith, (visited_plain c.args.shown.now.visits.visited).count)))
    ∙ ap (λ (t : Bool). point_bytes (point_at F c.loop-j.j) ++ points_bytes (cond t (run_at F (c.loop-j.j + 1)) [])) (sym c.absorbs.ensures ∙ c.if-not-absorbs.false) in
    printing_more c.loop-j.invariant here left

pub returns-then-not-absorbs : goal.returns-then-not-absorbs
returns-then-not-absorbs c =
    let F = func_of c.args.shown.now.visits.func.now in
    let here =
    prints_same c.put_point.ensures
    (ap (λ (x : ℕ). point_bytes (point_of x)) c.point.ensures.0 ∙ (by_number (point_at F c.loop-j.j) (point_small (visited_plain c.args.shown.now.visits.visited) c.loop-j.j c.loop-j-test.true)).same) in
    let left =
    ap points_bytes (run_next (use_count (walk_of F)) (walk_of F) c.loop-j.j (omega (arith, (visited_plain c.args.shown.now.visits.visited).count)))
    ∙ ap (λ (t : Bool). point_bytes (point_at F c.loop-j.j) ++ points_bytes (cond t (run_at F (c.loop-j.j + 1)) [])) (sym c.absorbs.ensures ∙ c.if-not-absorbs.true) in
    printing_done (printing_more c.loop-j.invariant here left) refl

pub returns-after-loop-j : goal.returns-after-loop-j
returns-after-loop-j c =
    printing_done c.loop-j.invariant
    (ap points_bytes (run_end (use_count (walk_of (func_of c.args.shown.now.visits.func.now))) (walk_of (func_of c.args.shown.now.visits.func.now)) c.loop-j.j (omega (arith, (visited_plain c.args.shown.now.visits.visited).count))))
