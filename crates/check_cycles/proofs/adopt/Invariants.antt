-- The loop's invariant: to mark the children of all nodes is to mark those of the nodes from the i-th on, over what is marked by now.
use mathlib.Core.Path.{◌≡◌}
use Prim.Native.Nat.{◌+◌, ◌-◌, ◌/◌}
use Rattle.general_laws.specs.Lists.{gather}
use Rattle.func.specs.Layout.{node_refs, regions}
use Rattle.func.specs.Tables.{word}
use Rattle.check_marks.specs.Test.{pool_numbers, child_refs_in, kids}
use Rattle.check_marks.specs.Marks.{mark_all}
use Rattle.check_cycles.proofs.adopt.Given as goal

abbrev pub invariant-loop-i : goal.invariant-loop-i
invariant-loop-i l = mark_all (kids l.func.words.now l.r) l.v l.initial.work ≡ mark_all (gather (child_refs_in l.func.words.now) (pool_numbers node_refs l.func.words.now (word regions l.func.words.now l.r 1 / 4096 + l.i) (l.n - l.i))) l.v l.work
