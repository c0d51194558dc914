-- The loop's invariant: the words of the positions before the i-th stand, and `joined` says whether the one before absorbs the next.
use Rattle.block_absorbs.proofs.AbsorbPass.{absorbing_next}
use Rattle.block_absorbs.proofs.absorb.Goals as goal

pub loop-i-preserved : goal.loop-i-preserved
loop-i-preserved c =
    absorbing_next c.loop-i.invariant
    c.loop-i-test.true
    c.status-s.result c.absorbs_next-joined.result
    c.status-s.ensures c.absorbs_next-joined.ensures
    c.put.ensures.work_after c.put.ensures.work_len_unchanged
