-- A function without regions has no points, and any work slice is the layout of none; of any other what the passes leave is the layout
-- (`laid_blocks`).
use mathlib.Core.Path.{refl}
use native.Mathlib.Omega.{arith}
use Rattle.blocks.specs.Laid.{laid_blocks, laid_imported}
use Rattle.emit_list.specs.Laws.{no_regions}
use Rattle.emitter.proofs.lay.Goals as goal

pub returns-then-region_total-eq0 : goal.returns-then-region_total-eq0
returns-then-region_total-eq0 c = record { laid = laid_imported c.requires.stands.tables c.requires.work_need_in_bounds (no_regions _ (omega arith)); work_len_unchanged = refl }

pub returns : goal.returns
returns c = record { laid = laid_blocks c.blocks-2.ensures.visited c.blocks-2.ensures.block_words; work_len_unchanged = c.blocks-2.ensures.work_len_unchanged }
