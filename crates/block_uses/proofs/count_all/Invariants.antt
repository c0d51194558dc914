-- The loop's invariant: the labels of the positions before the i-th are counted.
use Rattle.block_uses.proofs.Counting.{Counting}
use Rattle.block_uses.proofs.count_all.Given as goal

abbrev pub invariant-loop-i : goal.invariant-loop-i
invariant-loop-i l = Counting l.func l.initial.work l.m l.i l.work
