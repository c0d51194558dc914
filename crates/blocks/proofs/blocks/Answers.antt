-- What is cleared again is the walk's own words alone, so that the tables of points, uses, blocks and ctrl lines still stand (`visited_still`)
-- and every word of the slice is told (`block_words`).
use mathlib.Core.Path.{◌∙◌}
use Rattle.blocks.specs.Words.{visited_still, block_words, walkable_stands}
use Rattle.blocks.proofs.blocks.Goals as goal

pub lay_out-m-requires-clause-walkable : goal.lay_out-m-requires-clause-walkable
lay_out-m-requires-clause-walkable c = walkable_stands c.requires.stands c.requires.regions_nonzero

pub returns : goal.returns
returns c = record { visited = visited_still c.lay_out-m.ensures.visited c.lay_out-m.ensures.lay_words c.clear.ensures.cleared c.clear-2.ensures.cleared (c.clear-2.ensures.work_len_unchanged ∙ c.clear.ensures.work_len_unchanged); block_words = block_words c.lay_out-m.ensures.visited c.lay_out-m.ensures.lay_words c.clear.ensures.cleared c.clear-2.ensures.cleared; work_len_unchanged = c.clear-2.ensures.work_len_unchanged ∙ c.clear.ensures.work_len_unchanged ∙ c.lay_out-m.ensures.work_len_unchanged }
