-- The nodes are of the text, so that their points have numbers; each number is a point's (`number_back`).
use Rattle.std.proofs.Common.{refl, sym}
use Rattle.walk_points.specs.Numbers.{number_back}
use Rattle.terminators.specs.Laws.{low_node}
use Rattle.terminators.specs.Labels.{fits_as, target_one}
use Rattle.term_parts.proofs.target_at.Goals as goal

pub number-requires-in-Join : goal.number-requires-in-Join
number-requires-in-Join c = low_node c.requires.known.tables (fits_as c.requires.known c.in-Join.is).0

pub number-requires-in-Repeat : goal.number-requires-in-Repeat
number-requires-in-Repeat c = low_node c.requires.known.tables (fits_as c.requires.known c.in-Repeat.is).0

pub either-requires-clause-small : goal.either-requires-clause-small
either-requires-clause-small c = let l = low_node c.requires.known.tables (fits_as c.requires.known c.in-Test.is).0 in (l, l)

pub returns-in-Straight : goal.returns-in-Straight
returns-in-Straight c = target_one c.requires.known c.args.k c.requires.k_in_bounds c.in-Straight.is refl (sym (number_back c.in-Straight.q))
