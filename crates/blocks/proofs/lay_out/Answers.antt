-- What the walk promises of its points is what the passes ask (`visited_walked`), and each pass writes its own tables alone (`lay_words`).
use Rattle.blocks.specs.Words.{lay_words}
use Rattle.blocks.proofs.lay_out.Goals as goal

pub returns-clause-lay_words : goal.returns-clause-lay_words
returns-clause-lay_words c = lay_words c.walk-m.ensures.walk_words c.count_uses.ensures.aside c.absorb.ensures.aside c.absorb.ensures.beyond c.absorb.ensures.counted_2 c.absorb.ensures.absorb_words c.absorb.ensures.visited_2.count c.absorb.ensures.visited_2.few
