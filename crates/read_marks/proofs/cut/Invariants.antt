-- From the place that is reached, with what is matched there, the cut is the one from the start.
use Rattle.std.proofs.Common.{◌≡◌, drop}
use Rattle.read_marks.specs.Cut.{cut_of}
use Rattle.read_marks.proofs.cut.Given as goal

abbrev pub invariant-loop-at : goal.invariant-loop-at
invariant-loop-at l = cut_of l.at l.seen (drop l.at l.batch) ≡ cut_of l.from l.matched (drop l.from l.batch)
