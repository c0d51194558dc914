-- The kind of the point says of what its phis are inputs or outputs, and so their word (`word_of`), which lies within the table of ids.
use mathlib.Core.Path.{refl, sym, ap, ◌∙◌}
use native.Mathlib.Omega.{arith}
use Rattle.terminators.specs.Kinds.{as_point}
use Rattle.terminators.specs.Laws.{of_text}
use Rattle.terminators.specs.Plain.{visited_plain}
use Rattle.emit_id_runs.specs.Giving.{word_of}
use Rattle.emit_id_runs.proofs.phi_word.Goals as goal

pub overflow_add-result : goal.overflow_add-result
overflow_add-result c = omega (arith, (word_of (visited_plain c.args.visits.now.visited) c.args.i c.requires (ap as_point (sym c.in-RegionEntry.is) ∙ c.point.ensures) refl).1)

pub first_child-requires : goal.first_child-requires
first_child-requires c = record { n_in_bounds = of_text (visited_plain c.args.visits.now.visited) c.args.i c.requires (ap as_point (sym c.in-NodeEntry.is) ∙ c.point.ensures) }

pub overflow_add-result-in-NodeExit : goal.overflow_add-result-in-NodeExit
overflow_add-result-in-NodeExit c = omega (arith, (word_of (visited_plain c.args.visits.now.visited) c.args.i c.requires (ap as_point (sym c.in-NodeExit.is) ∙ c.point.ensures) refl).1)

pub returns-in-RegionEntry : goal.returns-in-RegionEntry
returns-in-RegionEntry c = record { value = (word_of (visited_plain c.args.visits.now.visited) c.args.i c.requires (ap as_point (sym c.in-RegionEntry.is) ∙ c.point.ensures) refl).0; upper_bound = (word_of (visited_plain c.args.visits.now.visited) c.args.i c.requires (ap as_point (sym c.in-RegionEntry.is) ∙ c.point.ensures) refl).1 }

pub returns-in-NodeExit : goal.returns-in-NodeExit
returns-in-NodeExit c = record { value = (word_of (visited_plain c.args.visits.now.visited) c.args.i c.requires (ap as_point (sym c.in-NodeExit.is) ∙ c.point.ensures) refl).0; upper_bound = (word_of (visited_plain c.args.visits.now.visited) c.args.i c.requires (ap as_point (sym c.in-NodeExit.is) ∙ c.point.ensures) refl).1 }
