-- The loop's invariant: the climbs from the regions below r came back to none, and their stamps stand.
use native.Mathlib.Omega.{arith}
use Rattle.check_cycles.proofs.Laws.{around_own, around_hit, around_next, around_done}
use Rattle.check_cycles.proofs.none_around.Goals as goal

pub climbs_back-requires-clause-stamped : goal.climbs_back-requires-clause-stamped
climbs_back-requires-clause-stamped c = around_own c.args.n c.loop-r.r c.args.work.now c.loop-r.work c.loop-r.invariant

pub returns-then-climbs_back-clause-value : goal.returns-then-climbs_back-clause-value
returns-then-climbs_back-clause-value c = around_hit c.args.n c.loop-r.r c.args.work.now c.loop-r.work c.loop-r.invariant c.climbs_back.result c.climbs_back.new.work c.climbs_back.ensures.climbed c.if-climbs_back.true

pub loop-r-preserved : goal.loop-r-preserved
loop-r-preserved c = around_next c.args.n c.loop-r.r c.args.work.now c.loop-r.work c.loop-r.invariant c.climbs_back.result c.climbs_back.new.work c.climbs_back.ensures.climbed c.if-climbs_back.false

pub returns-clause-value : goal.returns-clause-value
returns-clause-value c = around_done c.args.n c.loop-r.r c.args.work.now c.loop-r.work c.loop-r.invariant (omega arith)
