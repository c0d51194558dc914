use Rattle.std.proofs.Common.{◌∙◌, arith}
use Rattle.read_marks.proofs.Laws.{cut_here, cut_on, cut_end}
use Rattle.read_marks.proofs.cut.Goals as goal

pub returns-then-seen-eq4-clause-matched_value : goal.returns-then-seen-eq4-clause-matched_value
returns-then-seen-eq4-clause-matched_value c =
    cut_here _ _ _ (omega arith) _ c.matched_after-seen.ensures c.if-seen-eq4.true ∙ c.loop-at.invariant

pub loop-at-preserved : goal.loop-at-preserved
loop-at-preserved c = cut_on _ _ _ (omega arith) _ c.matched_after-seen.ensures c.if-seen-eq4.false ∙ c.loop-at.invariant

pub returns-clause-matched_value : goal.returns-clause-matched_value
returns-clause-matched_value c = cut_end _ _ _ (omega arith) ∙ c.loop-at.invariant
