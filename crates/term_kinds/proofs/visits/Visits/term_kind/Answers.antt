-- The region or the node of the point is one of the text (`of_text`), and its way out is that of the block (`way_of`).
use Rattle.std.proofs.Common.{sym, ap, ◌∙◌}
use Rattle.terminators.specs.Kinds.{as_point}
use Rattle.terminators.specs.Laws.{of_text, way_of}
use Rattle.terminators.specs.Plain.{visited_plain}
use Rattle.term_kinds.proofs.visits.Visits.term_kind.Goals as goal

pub region_exit-requires : goal.region_exit-requires
region_exit-requires c = of_text (visited_plain c.args.self.now.visited) c.args.i c.requires (ap as_point (sym c.in-RegionExit.is) ∙ c.point.ensures)

pub node_entry-requires : goal.node_entry-requires
node_entry-requires c = of_text (visited_plain c.args.self.now.visited) c.args.i c.requires (ap as_point (sym c.in-NodeEntry.is) ∙ c.point.ensures)

pub returns-in-RegionExit : goal.returns-in-RegionExit
returns-in-RegionExit c =
    way_of (visited_plain c.args.self.now.visited) c.args.i c.requires (ap as_point (sym c.in-RegionExit.is) ∙ c.point.ensures) c.region_exit.ensures

pub returns-in-NodeEntry : goal.returns-in-NodeEntry
returns-in-NodeEntry c =
    way_of (visited_plain c.args.self.now.visited) c.args.i c.requires (ap as_point (sym c.in-NodeEntry.is) ∙ c.point.ensures) c.node_entry.ensures
