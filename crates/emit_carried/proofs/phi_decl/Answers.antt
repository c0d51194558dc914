-- The kind of the point tells whose declarations its phis have: a root's inputs (`entry_decl`), those of a loop's body (`input_decl`), a node's
-- outputs, or none (`decl_here`).
use mathlib.Core.Path.{refl, sym, ap, ◌∙◌}
use Rattle.terminators.specs.Kinds.{as_point}
use Rattle.terminators.specs.Plain.{visited_plain}
use Rattle.emit_lists.specs.Edges.{body_in, decl_here, entry_decl, entry_region_in, input_decl, input_in, output_in}
use Rattle.emit_carried.proofs.phi_decl.Goals as goal

pub region_in-requires : goal.region_in-requires
region_in-requires c =
    let e = ap as_point (sym c.in-RegionEntry.is) ∙ c.point.ensures in
    record { r_in_bounds = (entry_region_in (visited_plain c.args.visits.now.visited) c.args.i c.requires.i_in_bounds c.args.j c.requires.j_in_bounds e).0; i_in_bounds = (entry_region_in (visited_plain c.args.visits.now.visited) c.args.i c.requires.i_in_bounds c.args.j c.requires.j_in_bounds e).1 }

pub node_child-requires : goal.node_child-requires
node_child-requires c =
    let e = ap as_point (sym c.in-NodeEntry.is) ∙ c.point.ensures in
    record { n_in_bounds = (body_in (visited_plain c.args.visits.now.visited) c.args.i c.requires.i_in_bounds c.args.j c.requires.j_in_bounds e).0; i_in_bounds = (body_in (visited_plain c.args.visits.now.visited) c.args.i c.requires.i_in_bounds c.args.j c.requires.j_in_bounds e).1 }

pub region_in-requires-in-NodeEntry : goal.region_in-requires-in-NodeEntry
region_in-requires-in-NodeEntry c =
    let e = ap as_point (sym c.in-NodeEntry.is) ∙ c.point.ensures in
    record { r_in_bounds = (input_in (visited_plain c.args.visits.now.visited) c.args.i c.requires.i_in_bounds c.args.j c.requires.j_in_bounds e c.node_child.ensures).0; i_in_bounds = (input_in (visited_plain c.args.visits.now.visited) c.args.i c.requires.i_in_bounds c.args.j c.requires.j_in_bounds e c.node_child.ensures).1 }

pub node_out-requires : goal.node_out-requires
node_out-requires c =
    let e = ap as_point (sym c.in-NodeExit.is) ∙ c.point.ensures in
    record { n_in_bounds = (output_in (visited_plain c.args.visits.now.visited) c.args.i c.requires.i_in_bounds c.args.j c.requires.j_in_bounds e).0; i_in_bounds = (output_in (visited_plain c.args.visits.now.visited) c.args.i c.requires.i_in_bounds c.args.j c.requires.j_in_bounds e).1 }

pub returns-in-RegionEntry : goal.returns-in-RegionEntry
returns-in-RegionEntry c =
    let e = ap as_point (sym c.in-RegionEntry.is) ∙ c.point.ensures in
    entry_decl (visited_plain c.args.visits.now.visited) c.args.i c.requires.i_in_bounds c.args.j c.requires.j_in_bounds e c.region_in.ensures

pub returns-in-RegionExit : goal.returns-in-RegionExit
returns-in-RegionExit c =
    let e = ap as_point (sym c.in-RegionExit.is) ∙ c.point.ensures in
    decl_here (visited_plain c.args.visits.now.visited) c.args.i c.requires.i_in_bounds c.args.j e refl

pub returns-in-NodeEntry : goal.returns-in-NodeEntry
returns-in-NodeEntry c =
    let e = ap as_point (sym c.in-NodeEntry.is) ∙ c.point.ensures in
    input_decl (visited_plain c.args.visits.now.visited) c.args.i c.requires.i_in_bounds c.args.j c.requires.j_in_bounds e c.node_child.ensures c.region_in-in-NodeEntry.ensures

pub returns-in-NodeExit : goal.returns-in-NodeExit
returns-in-NodeExit c =
    let e = ap as_point (sym c.in-NodeExit.is) ∙ c.point.ensures in
    decl_here (visited_plain c.args.visits.now.visited) c.args.i c.requires.i_in_bounds c.args.j e c.node_out.ensures
