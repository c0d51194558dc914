-- The rule is asked of each entry of its pool (`all_of`).
use Rattle.std.proofs.Common.{rules, tests, sym, ap, ◌∙◌, ℕ, []}
use Rattle.general_laws.specs.Ranges.{all_of}
use Rattle.func.specs.Store.{count, view}
use Rattle.check_rules.specs.Test.{pool_for, rule_test, all_test}
use Rattle.check_rules.proofs.Laws.{rule_length}
use Rattle.check_rules.proofs.all_hold.Goals as goal

pub returns : goal.returns
unfolding all_test
returns c =
    let w = c.args.func.now.words.now in
    let n = c.count-n.ensures ∙ ap (λ (k : ℕ). count k w) c.pool.ensures ∙ sym (rule_length c.args.func.now.ready c.args.rule) in
    all_of (rule_test w c.args.rule) (view (pool_for c.args.rule) w) [] c.all.ensures.ran n (λ x b q k. search (rules, tests))
