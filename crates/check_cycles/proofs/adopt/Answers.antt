-- The loop's invariant: to mark the children of all nodes is to mark those of the nodes from the i-th on, over what is marked by now.
use mathlib.Core.Path.{sym, ◌∙◌}
use Prim.Native.Nat.{◌+◌, ◌/◌}
use native.Mathlib.Omega.{arith}
use Rattle.func.specs.Layout.{regions}
use Rattle.func.specs.Tables.{word}
use Rattle.check_cycles.proofs.Laws.{adopt_first, adopt_turn, adopt_done}
use Rattle.check_cycles.proofs.adopt.Goals as goal

pub loop-i-init : goal.loop-i-init
loop-i-init c = adopt_first c.args.func.now.words.now (c.args.r + 1) c.args.r c.row_count-n.result (word regions c.args.func.now.words.now c.args.r 1 / 4096 + 0) c.args.work.now c.row_count-n.ensures (omega arith)

pub loop-i-preserved : goal.loop-i-preserved
loop-i-preserved c =
    let q = word regions c.args.func.now.words.now c.args.r 1 / 4096 in
    adopt_turn c.args.func.now.words.now (c.args.r + 1) (q + c.loop-i.i) (q + (c.loop-i.i + 1)) c.loop-i.i c.row_count-n.result c.row_element-x.result c.row_at.result c.row_count.result c.loop-i.work _ c.loop-i.invariant (omega arith) (omega arith) c.row_element-x.ensures c.row_at.ensures c.row_count.ensures
    c.mark_run.ensures.work_after

pub returns-clause-work_after : goal.returns-clause-work_after
returns-clause-work_after c = sym (c.loop-i.invariant ∙ adopt_done c.args.func.now.words.now (c.args.r + 1) (word regions c.args.func.now.words.now c.args.r 1 / 4096 + c.loop-i.i) c.loop-i.i c.row_count-n.result c.loop-i.work (omega arith))
