-- The loop's invariant: to mark all numbers is to mark those from the i-th on, over what is marked by now.
use mathlib.Core.Path.{◌≡◌}
use Prim.Native.Nat.{◌+◌, ◌-◌}
use Rattle.func_pools.specs.Pools.{pool_number}
use Rattle.check_marks.specs.Test.{pool_numbers}
use Rattle.check_marks.specs.Marks.{mark_all}
use Rattle.check_marks.proofs.mark_run.Given as goal

abbrev pub invariant-loop-i : goal.invariant-loop-i
invariant-loop-i l = mark_all (pool_numbers (pool_number l.k) l.func l.at l.n) l.v l.initial.work ≡ mark_all (pool_numbers (pool_number l.k) l.func (l.at + l.i) (l.n - l.i)) l.v l.work
