-- The loop's invariant: the labels of the positions before the i-th are counted.
use Rattle.block_uses.proofs.Counting.{count_next}
use Rattle.block_uses.proofs.count_all.Goals as goal

pub loop-i-preserved : goal.loop-i-preserved
loop-i-preserved c = count_next c.loop-i.invariant c.loop-i-test.true c.count_labels.ensures.tallied_2 c.count_labels.ensures.aside c.count_labels.ensures.work_len_unchanged
