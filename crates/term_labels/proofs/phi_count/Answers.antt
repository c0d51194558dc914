-- The kind of the point tells its phis (`keys_law`): a root's inputs at its entry, those of a loop's body at the loop's entry, a node's outputs at
-- its exit (`out_keys_law`), and none at a region's exit.
use Rattle.std.proofs.Common.{ap, sym, ◌∙◌, arith}
use Rattle.lifting.specs.Parts.{node_of, outs_of}
use Rattle.func.specs.Decode.{func_of}
use Rattle.terminators.specs.Kinds.{as_point}
use Rattle.terminators.specs.Laws.{keys_law, of_text, out_keys_law}
use Rattle.terminators.specs.Plain.{visited_plain}
use Rattle.term_labels.proofs.phi_count.Goals as goal

pub entry_phis-requires-clause-r_in_bounds : goal.entry_phis-requires-clause-r_in_bounds
entry_phis-requires-clause-r_in_bounds c =
    let l = of_text (visited_plain c.args.visits.now.visited) c.args.i c.requires (ap as_point (sym c.in-RegionEntry.is) ∙ c.point.ensures) in
    (l, omega (arith, l, (visited_plain c.args.visits.now.visited).walkable.named.few), omega (arith, (visited_plain c.args.visits.now.visited).size))

pub in_phis-requires-clause-n_in_bounds : goal.in_phis-requires-clause-n_in_bounds
in_phis-requires-clause-n_in_bounds c = of_text (visited_plain c.args.visits.now.visited) c.args.i c.requires (ap as_point (sym c.in-NodeEntry.is) ∙ c.point.ensures)

pub node_out_count-requires : goal.node_out_count-requires
node_out_count-requires c = record { n_in_bounds = of_text (visited_plain c.args.visits.now.visited) c.args.i c.requires (ap as_point (sym c.in-NodeExit.is) ∙ c.point.ensures) }

pub returns-in-RegionEntry : goal.returns-in-RegionEntry
returns-in-RegionEntry c = c.entry_phis.ensures ∙ keys_law (visited_plain c.args.visits.now.visited) c.args.i c.requires (ap as_point (sym c.in-RegionEntry.is) ∙ c.point.ensures)

pub returns-in-RegionExit : goal.returns-in-RegionExit
returns-in-RegionExit c = keys_law (visited_plain c.args.visits.now.visited) c.args.i c.requires (ap as_point (sym c.in-RegionExit.is) ∙ c.point.ensures)

pub returns-in-NodeEntry : goal.returns-in-NodeEntry
returns-in-NodeEntry c = c.in_phis.ensures ∙ keys_law (visited_plain c.args.visits.now.visited) c.args.i c.requires (ap as_point (sym c.in-NodeEntry.is) ∙ c.point.ensures)

pub returns-in-NodeExit : goal.returns-in-NodeExit
returns-in-NodeExit c =
    c.node_out_count.ensures
    ∙ sym (out_keys_law c.in-NodeExit.n (outs_of (node_of (func_of c.args.visits.now.func.now) c.in-NodeExit.n)))
    ∙ keys_law (visited_plain c.args.visits.now.visited) c.args.i c.requires (ap as_point (sym c.in-NodeExit.is) ∙ c.point.ensures)
