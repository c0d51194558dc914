-- The loop's invariant: the words of the positions before the i-th stand, and `joined` says whether the one before absorbs the next.
use Rattle.block_absorbs.proofs.AbsorbPass.{AbsorbPass}
use Rattle.block_absorbs.proofs.absorb.Given as goal

abbrev pub invariant-loop-i : goal.invariant-loop-i
invariant-loop-i l = AbsorbPass l.func l.initial.work l.m l.i l.joined l.work
