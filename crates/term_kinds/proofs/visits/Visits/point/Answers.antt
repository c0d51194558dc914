-- The word of a position is the number of its point (`point_read`).
use Rattle.std.proofs.Common.{sym, ap, ◌∙◌}
use Rattle.walk_points.specs.Numbers.{point_of}
use Rattle.terminators.specs.Visited.{point_read}
use Rattle.terminators.specs.Plain.{visited_plain}
use Rattle.term_kinds.proofs.visits.Visits.point.Goals as goal

pub returns : goal.returns
returns c = c.from.ensures ∙ ap point_of c.number.ensures ∙ sym (point_read (visited_plain c.args.self.now.visited) c.args.i c.requires)
