-- The word of position i is the number of its point, below 512, and that point's head is the first edge of the chain into it (`chain_rest_first`).
use mathlib.Core.Path.{ap, ◌∙◌}
use Prim.Native.Nat.{ℕ, ◌+◌}
use native.Mathlib.Omega.{arith}
use lib.ListN.{get_or}
use Rattle.func.specs.Decode.{func_of}
use Rattle.work.specs.Layout.{heads_at}
use Rattle.walk_points.specs.Numbers.{point_low}
use Rattle.terminators.specs.At.{point_at}
use Rattle.terminators.specs.Visited.{point_small, point_word}
use Rattle.terminators.specs.Plain.{visited_plain}
use Rattle.emit_edge_ends.specs.Links.{chain_rest_first}
use Rattle.emit_phis.proofs.pairs.first_into.Goals as goal

pub first-requires : goal.first-requires
first-requires c =
    let q = point_at (func_of c.args.visits.now.func.now) c.args.i in
    omega (arith, c.number.ensures, point_word (visited_plain c.args.visits.now.visited) c.args.i c.requires.i_in_bounds, point_low q (point_small (visited_plain c.args.visits.now.visited) c.args.i c.requires.i_in_bounds))

pub returns : goal.returns
returns c =
    let q = point_at (func_of c.args.visits.now.func.now) c.args.i in
    chain_rest_first c.requires.linked q (point_small (visited_plain c.args.visits.now.visited) c.args.i c.requires.i_in_bounds)
    (c.first.ensures.value ∙ ap (λ (x : ℕ). get_or c.args.visits.now.work.now (heads_at + x) 0) (c.number.ensures ∙ point_word (visited_plain c.args.visits.now.visited) c.args.i c.requires.i_in_bounds))
