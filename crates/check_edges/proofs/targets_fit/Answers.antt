-- With more targets than there is room for nothing is asked; else each from this line's first on is (`all_tabulated`).
use Rattle.std.proofs.Common.{rules, tests, arith, sym, ap, ◌∙◌, ◌-◌, ◌≤◌, Bool, true, ℕ, cond, le-leb}
use Rattle.general_laws.specs.Lists.{every, tabulate}
use Rattle.general_laws.specs.Ranges.{all_tabulated}
use Rattle.lifting.specs.Limits.{max_targets}
use Rattle.func.specs.Layout.{targets}
use Rattle.func.specs.Store.{count}
use Rattle.check_edges.specs.Edges.{target_entered, targets_fit}
use Rattle.check_edges.proofs.targets_fit.Goals as goal

pub returns-else-n-gt-MAX_TARGETS : goal.returns-else-n-gt-MAX_TARGETS
unfolding targets_fit
returns-else-n-gt-MAX_TARGETS c =
    let w = c.args.func.now in
    let p = target_entered w c.args.work.now c.args.line in
    let few : count targets w ≤ max_targets = omega (arith, c.if-n-gt-MAX_TARGETS.false, c.count-n.ensures) in
    all_tabulated p (λ i. i) c.all.ensures.ran (ap (λ (n : ℕ). n - c.args.from) c.count-n.ensures) (λ x b q k. search (rules, tests))
    ∙ ap (λ (b : Bool). cond b (every p (tabulate (λ i. i) c.args.from (count targets w - c.args.from))) true) (sym (le-leb (count targets w) max_targets few))
