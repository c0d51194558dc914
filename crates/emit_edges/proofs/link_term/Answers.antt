-- The loop's invariant: the edges from the k-th on are linked. The measure is k.
use native.Mathlib.Omega.{arith}
use Rattle.emit_edges.proofs.Linking.{linking_done, linking_first, linking_next}
use Rattle.emit_edges.proofs.link_term.Goals as goal

pub edge_count-k-requires : goal.edge_count-k-requires
edge_count-k-requires c = c.requires.known

pub loop-k-init : goal.loop-k-init
loop-k-init c = linking_first c.requires.known c.requires.aimed c.requires.i_bound.0 c.requires.i_bound.1 c.requires.i_bound.2 c.edge_count-k.ensures

pub edge_target-requires : goal.edge_target-requires
edge_target-requires c = record { known = c.loop-k.invariant.known; aimed = c.loop-k.invariant.aimed; k_in_bounds = omega (arith, c.loop-k.invariant.below, c.loop-k-test.true) }

pub link_edge-requires : goal.link_edge-requires
link_edge-requires c = omega (arith, c.edge_target.ensures.upper_bound, c.loop-k.invariant.low, c.loop-k.invariant.below, c.loop-k.invariant.room, c.loop-k.invariant.count, c.loop-k.invariant.size, c.loop-k.invariant.same, c.loop-k-test.true)

pub overflow_add-at : goal.overflow_add-at
overflow_add-at c = omega (arith, c.loop-k.invariant.count, c.loop-k.invariant.room)

pub loop-k-preserved : goal.loop-k-preserved
loop-k-preserved c =
    linking_next c.loop-k.invariant c.loop-k-test.true
    c.edge_target.ensures.value c.link_edge.ensures.work_after c.link_edge.ensures.work_len_unchanged

pub shape_of-work : goal.shape_of-work
shape_of-work c = c.loop-k.invariant.same

pub returns : goal.returns
returns c =
    let d = linking_done c.loop-k.invariant c.loop-k-test.false in
    record { work_after = d.0; value = d.1; work_len_unchanged = c.loop-k.invariant.same }
