-- The loop's invariant: the climbs from the regions below r came back to none, and their stamps stand.
use Rattle.check_cycles.specs.Stamps.{parent, Stamped}
use Rattle.check_cycles.proofs.none_around.Given as goal

abbrev pub invariant-loop-r : goal.invariant-loop-r
invariant-loop-r l = Stamped (parent l.initial.work) l.n l.r l.work
