-- The kind of the point tells what its phis set: inputs of the root, inputs of the loop's body or outputs of the node (`key_here`). Regions,
-- nodes and their lists are few, so that the numbers fit 32 bits.
use mathlib.Core.Path.{sym, ap, ◌∙◌}
use Prim.Native.Nat.{ℕ}
use native.Mathlib.Omega.{arith}
use Rattle.lifting.specs.Ast.{region_input}
use Rattle.func.proofs.Tables.{item_low, node_outs, region_ins}
use Rattle.walk_points.specs.Walk.{few_nodes}
use Rattle.terminators.specs.Kinds.{as_point}
use Rattle.terminators.specs.Plain.{visited_plain}
use Rattle.emit_lists.specs.Edges.{body_in, entry_region_in, input_in, output_in}
use Rattle.emit_phis.proofs.Steps.{key_here}
use Rattle.emit_phis.proofs.keys.phi_value.Goals as goal

pub overflow_cast-result : goal.overflow_cast-result
overflow_cast-result c =
    let x = entry_region_in (visited_plain c.args.visits.now.visited) c.args.i c.requires.i_in_bounds c.args.j c.requires.j_in_bounds (ap as_point (sym c.in-RegionEntry.is) ∙ c.point.ensures) in
    omega (arith, x.0, (visited_plain c.args.visits.now.visited).walkable.named.few)

pub overflow_cast-result-in-RegionEntry : goal.overflow_cast-result-in-RegionEntry
overflow_cast-result-in-RegionEntry c =
    let x = entry_region_in (visited_plain c.args.visits.now.visited) c.args.i c.requires.i_in_bounds c.args.j c.requires.j_in_bounds (ap as_point (sym c.in-RegionEntry.is) ∙ c.point.ensures) in
    omega (arith, item_low (region_ins (visited_plain c.args.visits.now.visited).tables _ x.0) c.args.j x.1)

pub node_child-requires : goal.node_child-requires
node_child-requires c = record { n_in_bounds = (body_in (visited_plain c.args.visits.now.visited) c.args.i c.requires.i_in_bounds c.args.j c.requires.j_in_bounds (ap as_point (sym c.in-NodeEntry.is) ∙ c.point.ensures)).0; i_in_bounds = (body_in (visited_plain c.args.visits.now.visited) c.args.i c.requires.i_in_bounds c.args.j c.requires.j_in_bounds (ap as_point (sym c.in-NodeEntry.is) ∙ c.point.ensures)).1 }

pub overflow_cast-result-in-NodeEntry : goal.overflow_cast-result-in-NodeEntry
overflow_cast-result-in-NodeEntry c =
    let x = input_in (visited_plain c.args.visits.now.visited) c.args.i c.requires.i_in_bounds c.args.j c.requires.j_in_bounds (ap as_point (sym c.in-NodeEntry.is) ∙ c.point.ensures) c.node_child.ensures in
    omega (arith, x.0, (visited_plain c.args.visits.now.visited).walkable.named.few)

pub overflow_cast-result-in-NodeEntry-2 : goal.overflow_cast-result-in-NodeEntry-2
overflow_cast-result-in-NodeEntry-2 c =
    let x = input_in (visited_plain c.args.visits.now.visited) c.args.i c.requires.i_in_bounds c.args.j c.requires.j_in_bounds (ap as_point (sym c.in-NodeEntry.is) ∙ c.point.ensures) c.node_child.ensures in
    omega (arith, item_low (region_ins (visited_plain c.args.visits.now.visited).tables _ x.0) c.args.j x.1)

pub overflow_cast-result-in-NodeExit : goal.overflow_cast-result-in-NodeExit
overflow_cast-result-in-NodeExit c =
    let x = output_in (visited_plain c.args.visits.now.visited) c.args.i c.requires.i_in_bounds c.args.j c.requires.j_in_bounds (ap as_point (sym c.in-NodeExit.is) ∙ c.point.ensures) in
    omega (arith, x.0, few_nodes (visited_plain c.args.visits.now.visited).tables)

pub overflow_cast-result-in-NodeExit-2 : goal.overflow_cast-result-in-NodeExit-2
overflow_cast-result-in-NodeExit-2 c =
    let x = output_in (visited_plain c.args.visits.now.visited) c.args.i c.requires.i_in_bounds c.args.j c.requires.j_in_bounds (ap as_point (sym c.in-NodeExit.is) ∙ c.point.ensures) in
    omega (arith, item_low (node_outs (visited_plain c.args.visits.now.visited).tables _ x.0) c.args.j x.1)

pub returns-in-RegionEntry : goal.returns-in-RegionEntry
returns-in-RegionEntry c = key_here (visited_plain c.args.visits.now.visited) c.args.i c.requires.i_in_bounds c.args.j c.requires.j_in_bounds (ap as_point (sym c.in-RegionEntry.is) ∙ c.point.ensures)

pub returns-in-RegionExit : goal.returns-in-RegionExit
returns-in-RegionExit c = key_here (visited_plain c.args.visits.now.visited) c.args.i c.requires.i_in_bounds c.args.j c.requires.j_in_bounds (ap as_point (sym c.in-RegionExit.is) ∙ c.point.ensures)

pub returns-in-NodeEntry : goal.returns-in-NodeEntry
returns-in-NodeEntry c =
    ap (λ (b : ℕ). region_input b c.args.j) c.node_child.ensures
    ∙ key_here (visited_plain c.args.visits.now.visited) c.args.i c.requires.i_in_bounds c.args.j c.requires.j_in_bounds (ap as_point (sym c.in-NodeEntry.is) ∙ c.point.ensures)

pub returns-in-NodeExit : goal.returns-in-NodeExit
returns-in-NodeExit c = key_here (visited_plain c.args.visits.now.visited) c.args.i c.requires.i_in_bounds c.args.j c.requires.j_in_bounds (ap as_point (sym c.in-NodeExit.is) ∙ c.point.ensures)
