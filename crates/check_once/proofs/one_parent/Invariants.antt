-- The loops' invariant: the children are all fresh if those that are left are, over what is marked by now.
use mathlib.Core.Path.{◌≡◌}
use mathlib.Core.Bool.{true}
use mathlib.Core.List.{◌++◌}
use Prim.Native.Nat.{◌+◌, ◌-◌, ◌/◌}
use Rattle.general_laws.specs.Lists.{gather, tabulate}
use Rattle.func.specs.Layout.{child_refs, nodes}
use Rattle.func.specs.Tables.{word}
use Rattle.check_marks.specs.Test.{pool_numbers, refs, child_refs_in}
use Rattle.check_marks.specs.Marks.{fresh_marks}
use Rattle.check_once.proofs.one_parent.Given as goal

abbrev pub invariant-children : goal.invariant-children
invariant-children l =
    (l.once ≡ l.initial.once)
    × (fresh_marks (gather (child_refs_in l.func.words.now) (tabulate (λ k. k) l.n (l.total - l.n))) l.initial.work
    ≡ fresh_marks (pool_numbers child_refs l.func.words.now (word nodes l.func.words.now l.n 5 / 4096 + l.i) (l.m - l.i) ++ gather (child_refs_in l.func.words.now) (tabulate (λ k. k) (l.n + 1) (l.total - (l.n + 1)))) l.work)

abbrev pub invariant-nodes : goal.invariant-nodes
invariant-nodes l = (l.once ≡ true) × (fresh_marks (refs child_refs l.func.words.now) l.initial.work ≡ fresh_marks (gather (child_refs_in l.func.words.now) (tabulate (λ k. k) l.n (l.total - l.n))) l.work)
