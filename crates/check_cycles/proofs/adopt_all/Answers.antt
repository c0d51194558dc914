-- The loop's invariant: the table is that of the regions below r.
use mathlib.Core.Path.{ap, ◌∙◌}
use Prim.Native.Nat.{◌+◌}
use Rattle.check_marks.specs.Test.{kids}
use Rattle.check_marks.specs.Marks.{mark_all, table_first, table_next}
use Rattle.check_cycles.proofs.adopt_all.Goals as goal

pub loop-r-init : goal.loop-r-init
loop-r-init c = table_first c.args.func.now.words.now c.args.work.now

pub loop-r-preserved : goal.loop-r-preserved
loop-r-preserved c = c.adopt.ensures.work_after ∙ ap (mark_all (kids c.args.func.now.words.now c.loop-r.r) (c.loop-r.r + 1)) c.loop-r.invariant ∙ table_next c.args.func.now.words.now c.args.work.now c.loop-r.r
