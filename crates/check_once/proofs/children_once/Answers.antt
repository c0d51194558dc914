-- Region 0 is marked first, so that it is no child, and the rest is whether the others are fresh (`child_is`).
use mathlib.Core.Path.{refl, sym, ◌∙◌}
use Prim.Native.Nat.{◌≤◌}
use native.Mathlib.Omega.{arith}
use Rattle.func.specs.Layout.{child_refs, regions}
use Rattle.func.specs.Store.{count}
use Rattle.check_once.proofs.Laws.{fresh_refs_zero, child_is}
use Rattle.check_once.proofs.children_once.Goals as goal

pub returns-clause-value : goal.returns-clause-value
returns-clause-value c =
    let counts : count child_refs c.args.func.now.words.now ≤ count regions c.args.func.now.words.now = omega (arith, c.if-n-c.false, c.count-c.ensures, c.count-n.ensures) in
    child_is c.args.func.now.words.now c.count-n.result c.count-c.result c.count.result c.count-n.ensures c.count-c.ensures c.count.ensures c.one_parent.result (sym c.child_fit.ensures ∙ c.if-not-child_fit.false)
    (c.one_parent.ensures.value
    ∙ fresh_refs_zero child_refs regions c.args.func.now.words.now (count child_refs c.args.func.now.words.now) c.args.func.now.safe.child_refs_law counts refl c.clear.new.work
    (omega (arith, c.args.func.now.safe.region_room, c.requires, c.clear.ensures.work_len_unchanged))
    (omega (arith, c.requires, c.clear.ensures.work_len_unchanged))
    (λ x h. c.clear.ensures.cleared.blank x (omega arith) (omega (arith, c.count-n.ensures))))
