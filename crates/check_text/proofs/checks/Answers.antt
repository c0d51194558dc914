-- The function that refusals 7 and 13 are asked of is the one in the slice.
use Rattle.std.proofs.Common.{rules, List, ℕ, ap, ◌∙◌}
use Rattle.lifting.specs.Control.{control_fits, targets_differ}
use Rattle.func.specs.Decode.{func_of}
use Rattle.check_text.specs.Test.{checks_test}
use Rattle.check_text.proofs.checks.Goals as goal

pub returns-then-not-control-clause-value : goal.returns-then-not-control-clause-value
unfolding checks_test
returns-then-not-control-clause-value c =
    let h = c.control.ensures.0 ∙ ap (λ (w : List ℕ). control_fits (func_of w)) c.new-function.ensures in
    search rules

pub returns-then-not-targets_differ-clause-value : goal.returns-then-not-targets_differ-clause-value
unfolding checks_test
returns-then-not-targets_differ-clause-value c =
    let h = c.control.ensures.0 ∙ ap (λ (w : List ℕ). control_fits (func_of w)) c.new-function.ensures in
    let k = c.targets_differ.ensures ∙ ap (λ (w : List ℕ). targets_differ (func_of w)) c.new-function.ensures in
    search rules

pub returns-clause-value : goal.returns-clause-value
unfolding checks_test
returns-clause-value c =
    let h = c.control.ensures.0 ∙ ap (λ (w : List ℕ). control_fits (func_of w)) c.new-function.ensures in
    let k = c.targets_differ.ensures ∙ ap (λ (w : List ℕ). targets_differ (func_of w)) c.new-function.ensures in
    search rules
