-- The loop's invariant: the labels before the j-th are counted; no more labels are counted so far than there
-- are in all, so that a count can grow by one (`label_room`).
use Rattle.block_uses.proofs.Counting.{Labelling}
use Rattle.block_uses.proofs.count_labels.Given as goal

abbrev pub invariant-loop-j : goal.invariant-loop-j
invariant-loop-j l = Labelling l.func l.initial.work l.m l.i l.j-end l.j l.work
