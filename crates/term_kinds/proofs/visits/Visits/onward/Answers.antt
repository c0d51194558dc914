-- From such a point the walk goes on to the point that it visits next (`straight_on`).
use Rattle.std.proofs.Common.{◌≡◌, ℕ, ◌+◌, get_or, ap, ◌∙◌, arith}
use Rattle.work.specs.Layout.{points_at}
use Rattle.terminators.specs.Laws.{straight_on}
use Rattle.terminators.specs.Plain.{visited_plain}
use Rattle.term_kinds.proofs.visits.Visits.onward.Goals as goal

pub returns : goal.returns
returns c =
    let e : points_at + (c.args.i + 1) ≡ points_at + c.args.i + 1 = omega arith in
    straight_on (visited_plain c.args.self.now.visited) c.args.i c.requires.i_in_bounds c.requires.i_value (c.number.ensures ∙ ap (λ (x : ℕ). get_or c.args.self.now.work.now x 0) e)
