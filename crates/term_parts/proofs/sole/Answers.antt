-- The nodes are of the text, so that their points have numbers; each number is a point's (`sole_to`).
use Rattle.func.specs.Decode.{func_of}
use Rattle.terminators.specs.Laws.{low_node}
use Rattle.terminators.specs.Labels.{fits_as, sole_to}
use Rattle.term_parts.proofs.sole.Goals as goal

pub number-requires : goal.number-requires
number-requires c = low_node c.requires.tables (fits_as c.requires c.in-Join.is).0

pub number-requires-in-Repeat : goal.number-requires-in-Repeat
number-requires-in-Repeat c = low_node c.requires.tables (fits_as c.requires c.in-Repeat.is).0

pub returns-in-Straight : goal.returns-in-Straight
returns-in-Straight c = sole_to (func_of c.args.func.now) c.in-Straight.is
