-- The loop's invariant: the points of the roots before the i-th stand.
use Rattle.walk_points.proofs.Roots.{rooting_call, rooting_next, rooting_done}
use Rattle.walk_points.proofs.walk_roots.Goals as goal

pub walk_region-at-requires : goal.walk_region-at-requires
walk_region-at-requires c = record { points_ready = (rooting_call c.loop-i.invariant c.loop-i-test.true c.root.ensures).0; r_in_bounds = (rooting_call c.loop-i.invariant c.loop-i-test.true c.root.ensures).1 }

pub loop-i-preserved : goal.loop-i-preserved
loop-i-preserved c = rooting_next c.loop-i.invariant c.loop-i-test.true c.root.ensures c.walk_region-at.ensures.value c.walk_region-at.ensures.work_after

pub returns-clause-walked : goal.returns-clause-walked
returns-clause-walked c = rooting_done c.loop-i.invariant c.loop-i-test.false
