-- At each call fewer regions have no mark. The loop's invariant: the targets from the i-th on are visited, and what is left of the walk is the
-- walk along the others.
use Rattle.std.proofs.Common.{length}
use Rattle.func.specs.Decode.{func_of}
use Rattle.walk_roots.specs.Visit.{unseen}
use Rattle.walk_roots.proofs.Turns.{Turn}
use Rattle.walk_roots.proofs.walk.+visit.Given as goal

abbrev pub decreases-visit : goal.decreases-visit
decreases-visit l = unseen l.work.now (length (func_of l.func.now).regions)

abbrev pub invariant-loop-i : goal.invariant-loop-i
invariant-loop-i l = Turn l.func l.r l.n l.initial.work l.i l.work l.at
