-- The loop of each has appended the points of what it has gone through, between the entry and the exit.
use Rattle.std.proofs.Common.{arith}
use Rattle.walk_points.specs.Below.{region_words_law, node_words_law}
use Rattle.walk_points.proofs.Laws.{walking_first, walking_call, walking_next, walking_done, region_room, node_room, region_holds, node_holds, node_exit_law}
use Rattle.walk_points.proofs.+walk_node_walk_region.Goals as goal

pub walk_node-overflow_mul-n : goal.walk_node-overflow_mul-n
walk_node-overflow_mul-n t c = omega (arith, node_room c.requires.points_ready c.requires.n_in_bounds)

pub walk_node-overflow_add-n : goal.walk_node-overflow_add-n
walk_node-overflow_add-n t c = omega (arith, node_room c.requires.points_ready c.requires.n_in_bounds)

pub walk_node-put-at-requires : goal.walk_node-put-at-requires
walk_node-put-at-requires t c = omega (arith, node_room c.requires.points_ready c.requires.n_in_bounds)

pub walk_node-loop-i-init : goal.walk_node-loop-i-init
walk_node-loop-i-init t c = (c.requires.n_in_bounds, walking_first c.requires.points_ready (node_words_law _ _) c.put-at.ensures.work_len_unchanged c.put-at.ensures.value c.node_child_count-i-end.ensures)

pub walk_node-walk_region-at-requires : goal.walk_node-walk_region-at-requires
walk_node-walk_region-at-requires t c =
    let d = walking_call c.loop-i.invariant.1 c.loop-i-test.true c.node_child.ensures in
    (omega (arith, c.decreases, d.0), (d.1, node_holds c.loop-i.invariant c.loop-i-test.true c.node_child.ensures))

pub walk_node-loop-i-preserved : goal.walk_node-loop-i-preserved
walk_node-loop-i-preserved t c =
    (c.loop-i.invariant.0, walking_next c.loop-i.invariant.1 c.loop-i-test.true c.node_child.ensures c.walk_region-at.ensures.value c.walk_region-at.ensures.work_after)

pub walk_node-overflow_mul-n-2 : goal.walk_node-overflow_mul-n-2
walk_node-overflow_mul-n-2 t c = omega (arith, node_exit_law c.loop-i.invariant c.loop-i-test.false)

pub walk_node-overflow_add-n-2 : goal.walk_node-overflow_add-n-2
walk_node-overflow_add-n-2 t c = omega (arith, node_exit_law c.loop-i.invariant c.loop-i-test.false)

pub walk_node-overflow_add-n-3 : goal.walk_node-overflow_add-n-3
walk_node-overflow_add-n-3 t c = omega (arith, node_exit_law c.loop-i.invariant c.loop-i-test.false)

pub walk_node-put-requires : goal.walk_node-put-requires
walk_node-put-requires t c = omega (arith, node_exit_law c.loop-i.invariant c.loop-i-test.false)

pub walk_node-returns-clause-work_after : goal.walk_node-returns-clause-work_after
walk_node-returns-clause-work_after t c =
    let d = walking_done c.loop-i.invariant.1 c.loop-i-test.false c.args.work.now c.put-at.ensures.work_after c.put.ensures.value c.put.ensures.work_after in
    d.1

pub walk_region-put-at-requires : goal.walk_region-put-at-requires
walk_region-put-at-requires t c = omega (arith, region_room c.requires.points_ready c.requires.r_in_bounds)

pub walk_region-loop-i-init : goal.walk_region-loop-i-init
walk_region-loop-i-init t c = (c.requires.r_in_bounds, walking_first c.requires.points_ready (region_words_law _ c.requires.points_ready.walkable.shaped _) c.put-at.ensures.work_len_unchanged c.put-at.ensures.value c.region_node_count-i-end.ensures)

pub walk_region-walk_node-at-requires : goal.walk_region-walk_node-at-requires
walk_region-walk_node-at-requires t c =
    let d = walking_call c.loop-i.invariant.1 c.loop-i-test.true c.region_node.ensures in
    (omega (arith, c.decreases, d.0), (d.1, region_holds c.loop-i.invariant c.loop-i-test.true c.region_node.ensures))

pub walk_region-loop-i-preserved : goal.walk_region-loop-i-preserved
walk_region-loop-i-preserved t c =
    (c.loop-i.invariant.0, walking_next c.loop-i.invariant.1 c.loop-i-test.true c.region_node.ensures c.walk_node-at.ensures.value c.walk_node-at.ensures.work_after)

pub walk_region-returns-clause-work_after : goal.walk_region-returns-clause-work_after
walk_region-returns-clause-work_after t c =
    let d = walking_done c.loop-i.invariant.1 c.loop-i-test.false c.args.work.now c.put-at.ensures.work_after c.put.ensures.value c.put.ensures.work_after in
    d.1
