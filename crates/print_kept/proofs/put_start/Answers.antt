-- The pieces are put one behind the other, and the run from a position on is the chain of its point (`chain_run`).
use mathlib.Core.Path.{sym, ap, ◌∙◌}
use Prim.Native.Nat.{ℕ}
use native.Mathlib.Omega.{arith}
use Rattle.func.specs.Decode.{func_of}
use Rattle.terminators.specs.Plain.{visited_plain}
use Rattle.walk_points.specs.Numbers.{point_of}
use Rattle.terminators.specs.At.{point_at}
use Rattle.terminators.specs.Visited.{point_small}
use Rattle.print_bytes.specs.Prints.{prints_more, prints_same}
use Rattle.print_lines.specs.Lines.{point_bytes, points_bytes, start_bytes}
use Rattle.print_lines.specs.Positions.{chain_run}
use Rattle.print_points.specs.Shows.{by_number}
use Rattle.print_kept.proofs.put_start.Goals as goal

pub returns : goal.returns
unfolding start_bytes
returns c =
    let F = func_of c.args.shown.now.visits.func.now in
    let here =
    prints_same c.put_point.ensures
    (ap (λ (x : ℕ). point_bytes (point_of x)) c.point.ensures.0 ∙ (by_number (point_at F c.args.i) (point_small (visited_plain c.args.shown.now.visits.visited) c.args.i c.requires)).same) in
    let run = prints_same c.put_run.ensures (ap points_bytes (sym (chain_run F (visited_plain c.args.shown.now.visits.visited).walkable.shaped c.args.i (omega (arith, (visited_plain c.args.shown.now.visits.visited).count, c.requires))))) in
    prints_more c.put_bytes.ensures (prints_more here (prints_more c.put_bytes-2.ensures run))
