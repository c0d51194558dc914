-- The loop's invariant: the labels before the j-th are counted; no more labels are counted so far than there
-- are in all, so that a count can grow by one (`label_room`).
use Rattle.block_uses.proofs.Counting.{label_next, label_room}
use Rattle.block_uses.proofs.count_labels.Goals as goal

pub bump-requires : goal.bump-requires
bump-requires c = record { q_bound = (label_room c.loop-j.invariant c.loop-j-test.true c.label-q.ensures).0; q_bound_2 = (label_room c.loop-j.invariant c.loop-j-test.true c.label-q.ensures).1 }

pub loop-j-preserved : goal.loop-j-preserved
loop-j-preserved c =
    label_next c.loop-j.invariant
    c.loop-j-test.true c.label-q.ensures
    c.bump.ensures.work_after c.bump.ensures.work_len_unchanged
