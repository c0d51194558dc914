-- Of a case that has ended nothing stays.
use Rattle.std.proofs.Common.{ℕ, refl, sym, ap, ◌∙◌, arith}
use Rattle.read_cases.specs.Held.{len_after, len_ended, len_stays}
use Rattle.read_cases.proofs.rested.Goals as goal

pub returns-then-state-eq4-clause-rested : goal.returns-then-state-eq4-clause-rested
returns-then-state-eq4-clause-rested c =
    let s = c.args.state in
    (sym (ap (λ (m : ℕ). len_after m s.len) c.if-state-eq4.true ∙ len_ended s.len), refl, refl, refl, omega arith)

pub returns-clause-rested : goal.returns-clause-rested
returns-clause-rested c =
    let s = c.args.state in
    (sym (len_stays s.matched s.len c.if-state-eq4.false), refl, refl, refl, omega arith)
