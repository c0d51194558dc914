-- A way out names a node and a region of the text, whose points have numbers.
use Rattle.terminators.specs.Laws.{low_node}
use Rattle.terminators.specs.Labels.{fits_as, low_region}
use Rattle.term_parts.proofs.merge.Goals as goal

pub number-requires : goal.number-requires
number-requires c = low_node c.requires.known.tables (fits_as c.requires.known c.in-Select.is)

pub either-requires-clause-small : goal.either-requires-clause-small
either-requires-clause-small c = let f = fits_as c.requires.known c.in-Loop.is in (low_node c.requires.known.tables f.0, low_region c.requires.known f.1)
