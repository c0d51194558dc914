-- The loop's invariant: the numbers are all fresh if those from the i-th on are, over what is marked by now.
use mathlib.Core.Path.{refl, sym, ap, ◌∙◌}
use Prim.Native.Nat.{◌+◌}
use native.Mathlib.Omega.{arith}
use Rattle.func_pools.specs.Pools.{pool_number}
use Rattle.check_marks.specs.Marks.{fresh_marks, fresh_stop, fresh_turn, fresh_done, numbers_done}
use Rattle.check_once.proofs.all_fresh.Goals as goal

pub returns-then-work-x-eq1-clause-value : goal.returns-then-work-x-eq1-clause-value
returns-then-work-x-eq1-clause-value c =
    sym (c.loop-i.invariant ∙ fresh_stop (pool_number c.args.k) c.args.func.now c.loop-i.i (c.loop-i.i + 1) c.loop-i.i c.args.n c.row_ref-x.result c.loop-i.work (omega arith) refl c.row_ref-x.ensures c.if-work-x-eq1.true)

pub loop-i-preserved : goal.loop-i-preserved
loop-i-preserved c =
    c.loop-i.invariant ∙ fresh_turn (pool_number c.args.k) c.args.func.now c.loop-i.i (c.loop-i.i + 1) c.loop-i.i c.args.n c.row_ref-x.result c.loop-i.work (omega arith) refl c.row_ref-x.ensures c.if-work-x-eq1.false

pub returns-clause-value : goal.returns-clause-value
returns-clause-value c =
    sym (c.loop-i.invariant ∙ ap (λ z. fresh_marks z c.loop-i.work) (numbers_done (pool_number c.args.k) c.args.func.now c.loop-i.i c.loop-i.i c.args.n (omega arith)) ∙ fresh_done c.loop-i.work)
