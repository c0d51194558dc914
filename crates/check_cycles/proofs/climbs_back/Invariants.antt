-- The loop's invariant: the climb is at a region to which each region that it stamped leads. The measure is how many regions have no stamp; a
-- root ends the climb (`climb_root`), and else the stamp tells whose it is (`climb_end`).
use mathlib.Core.Path.{◌≡◌}
use lib.ListN.{length}
use Rattle.check_cycles.specs.Stamps.{parent, free}
use Rattle.check_cycles.proofs.Laws.{Climb}
use Rattle.check_cycles.proofs.climbs_back.Given as goal

abbrev pub invariant-loop-work : goal.invariant-loop-work
invariant-loop-work l = (length l.work ≡ length l.initial.work) × Climb (parent l.initial.work) l.n l.r l.at l.work

abbrev pub decreases-loop-work : goal.decreases-loop-work
decreases-loop-work l = free l.work l.n
