-- The loop's invariant: the numbers are all fresh if those from the i-th on are, over what is marked by now.
use mathlib.Core.Path.{◌≡◌}
use Prim.Native.Nat.{◌-◌}
use Rattle.func_pools.specs.Pools.{pool_number}
use Rattle.check_marks.specs.Test.{pool_numbers}
use Rattle.check_marks.specs.Marks.{fresh_marks}
use Rattle.check_once.proofs.all_fresh.Given as goal

abbrev pub invariant-loop-i : goal.invariant-loop-i
invariant-loop-i l = fresh_marks (pool_numbers (pool_number l.k) l.func 0 l.n) l.initial.work ≡ fresh_marks (pool_numbers (pool_number l.k) l.func l.i (l.n - l.i)) l.work
