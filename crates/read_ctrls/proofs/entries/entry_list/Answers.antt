-- The loop stands before an entry or the bracket, and what is still to be stored and judged from there is what was from the start.
use mathlib.Core.Path.{refl, ◌∙◌}
use Rattle.read_lines.specs.Stores.{list_on_first, along_end, along_more, along_wrong}
use Rattle.read_ctrls.specs.Tails.{entries_listing}
use Rattle.read_ctrls.proofs.Laws.{stores_no}
use Rattle.read_ctrls.proofs.entries.entry_list.Goals as goal

pub loop-d-init : goal.loop-d-init
loop-d-init c = (list_on_first, refl)

pub returns-in-Some : goal.returns-in-Some
returns-in-Some c = record { stores = along_end entries_listing c.loop-d.invariant.0 c.in-Some.ensures; func_len_unchanged = c.loop-d.invariant.0.along.len; work_len_unchanged = c.loop-d.invariant.1 }

pub returns-in_err-f : goal.returns-in_err-f
returns-in_err-f c = record { stores = stores_no _ _ _ c.from_residual.ensures (along_wrong entries_listing c.loop-d.invariant.0 c.in_default.ensures c.in_err-f.ensures.stores); func_len_unchanged = c.entry.ensures.func_len_unchanged ∙ c.loop-d.invariant.0.along.len; work_len_unchanged = c.entry.ensures.work_len_unchanged ∙ c.loop-d.invariant.1 }

pub loop-d-preserved : goal.loop-d-preserved
loop-d-preserved c =
    (along_more entries_listing c.loop-d.invariant.0 c.in_ok-f.ensures.stores c.entry.ensures.func_len_unchanged, c.entry.ensures.work_len_unchanged ∙ c.loop-d.invariant.1)
