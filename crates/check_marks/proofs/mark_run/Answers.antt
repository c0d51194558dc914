-- The loop's invariant: to mark all numbers is to mark those from the i-th on, over what is marked by now.
use mathlib.Core.Path.{sym, ap, ◌∙◌}
use Prim.Native.Nat.{◌+◌}
use native.Mathlib.Omega.{arith}
use Rattle.func_pools.specs.Pools.{pool_number}
use Rattle.check_marks.specs.Marks.{mark_all, mark_turn, mark_done, numbers_done}
use Rattle.check_marks.proofs.mark_run.Goals as goal

pub loop-i-preserved : goal.loop-i-preserved
loop-i-preserved c =
    c.loop-i.invariant
    ∙ mark_turn (pool_number c.args.k) c.args.func.now (c.args.at + c.loop-i.i) (c.args.at + (c.loop-i.i + 1)) c.loop-i.i c.args.n c.row_ref-x.result c.loop-i.work (omega arith) (omega arith) c.row_ref-x.ensures c.args.v

pub returns-clause-work_after : goal.returns-clause-work_after
returns-clause-work_after c =
    sym
    (c.loop-i.invariant
    ∙ ap (λ z. mark_all z c.args.v c.loop-i.work) (numbers_done (pool_number c.args.k) c.args.func.now (c.args.at + c.loop-i.i) c.loop-i.i c.args.n (omega arith))
    ∙ mark_done c.args.v c.loop-i.work)
