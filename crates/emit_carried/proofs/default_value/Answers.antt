-- Only a loop's entry has values for edges without any, its node's behind the condition (`init_value`); at each other point there are none
-- (`default_here`).
use mathlib.Core.Path.{refl, sym, ap, ◌∙◌}
use Rattle.std.proofs.Common.{◌≡◌, List, ℕ, ◌<◌, get_or}
use Rattle.lifting.specs.Ast.{const}
use Rattle.func.specs.Decode.{func_of}
use Rattle.terminators.specs.declared.Point.{Point}
use Rattle.terminators.specs.declared.Point.TheVariants.{RegionEntry, RegionExit, NodeEntry, NodeExit}
use Rattle.terminators.specs.At.{point_at, visited_block}
use Rattle.terminators.specs.Kinds.{as_point}
use Rattle.terminators.specs.Visited.{Visited}
use native.Mathlib.Omega.{arith}
use Rattle.terminators.specs.Plain.{visited_plain}
use Rattle.emit_lists.specs.Edges.{default_here, init_in, init_low, init_value}
use Rattle.emit_carried.proofs.default_value.Goals as goal

-- no point but a node's entry has such values
no_default : {w u : List ℕ} {m : ℕ} (k : Visited w u m) (i : ℕ) (h : i < m) (j : ℕ) (x : Point) → ((n : ℕ) → ¬ (x ≡ NodeEntry n)) → as_point x ≡ point_at (func_of w) i
    → const 0 ≡ get_or (visited_block (func_of w) i).defaults j (const 0)
no_default k i h j (RegionEntry r) n e = default_here k i h j e refl
no_default k i h j (RegionExit r) n e = default_here k i h j e refl
no_default k i h j (NodeEntry r) n e = absurd (n r refl)
no_default k i h j (NodeExit r) n e = default_here k i h j e refl

pub overflow_add-j : goal.overflow_add-j
overflow_add-j c =
    let e = ap as_point (sym c.in-NodeEntry.is) ∙ c.point.ensures in
    omega (arith, init_low (visited_plain c.args.visits.now.visited) c.args.i c.requires.i_in_bounds c.args.j c.requires.j_in_bounds e)

pub node_value-requires : goal.node_value-requires
node_value-requires c =
    let e = ap as_point (sym c.in-NodeEntry.is) ∙ c.point.ensures in
    record { n_in_bounds = (init_in (visited_plain c.args.visits.now.visited) c.args.i c.requires.i_in_bounds c.args.j c.requires.j_in_bounds e).0; i_in_bounds = (init_in (visited_plain c.args.visits.now.visited) c.args.i c.requires.i_in_bounds c.args.j c.requires.j_in_bounds e).1 }

pub returns-in-NodeEntry : goal.returns-in-NodeEntry
returns-in-NodeEntry c =
    let e = ap as_point (sym c.in-NodeEntry.is) ∙ c.point.ensures in
    init_value (visited_plain c.args.visits.now.visited) c.args.i c.requires.i_in_bounds c.args.j c.requires.j_in_bounds e c.node_value.ensures

pub returns-in_default : goal.returns-in_default
returns-in_default c = no_default (visited_plain c.args.visits.now.visited) c.args.i c.requires.i_in_bounds c.args.j _ c.in_default.not-NodeEntry c.point.ensures
