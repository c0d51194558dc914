-- Refusal 8 leaves everything alone (`too_short`); else the text is judged, the work slice is cleared, and after a refusal the function slice
-- (`answered`).
use mathlib.Core.Path.{sym, ap, ◌∙◌}
use Prim.Native.Nat.{ℕ}
use lib.ListN.{length, replicate}
use borrow.Author.Tests.{not-true, not-false}
use Rattle.reader.specs.Same.{answered, enough_both, too_short}
use Rattle.reader.proofs.parse.Goals as goal

pub returns-then-not-enough : goal.returns-then-not-enough
returns-then-not-enough c = record { func_after = (too_short c.args.text.now c.args.func.now c.args.work.now (sym c.enough.ensures ∙ not-true _ c.if-not-enough.true-raw)).0; func_after_2 = (too_short c.args.text.now c.args.func.now c.args.work.now (sym c.enough.ensures ∙ not-true _ c.if-not-enough.true-raw)).1.0; work_after = (too_short c.args.text.now c.args.func.now c.args.work.now (sym c.enough.ensures ∙ not-true _ c.if-not-enough.true-raw)).1.1 }

pub judge-r-requires : goal.judge-r-requires
judge-r-requires c = enough_both (length c.args.func.now) (length c.args.work.now) (sym c.enough.ensures ∙ not-false _ c.if-not-enough.false-raw)

pub returns : goal.returns
returns c =
    let s = enough_both (length c.args.func.now) (length c.args.work.now) (sym c.enough.ensures ∙ not-false _ c.if-not-enough.false-raw) in
    record {
      func_after = (answered c.args.text.now c.args.func.now c.args.work.now s.0 c.judge-r.result c.judge-r.new.func c.leave.new.func c.clear_all.new.words c.judge-r.ensures.judges c.judge-r.ensures.func_len_unchanged c.leave.ensures
          (c.clear_all.ensures ∙ ap (λ (n : ℕ). replicate n 0) c.judge-r.ensures.work_len_unchanged)).0;
      func_after_2 = (answered c.args.text.now c.args.func.now c.args.work.now s.0 c.judge-r.result c.judge-r.new.func c.leave.new.func c.clear_all.new.words c.judge-r.ensures.judges c.judge-r.ensures.func_len_unchanged c.leave.ensures
          (c.clear_all.ensures ∙ ap (λ (n : ℕ). replicate n 0) c.judge-r.ensures.work_len_unchanged)).1.0;
      work_after = (answered c.args.text.now c.args.func.now c.args.work.now s.0 c.judge-r.result c.judge-r.new.func c.leave.new.func c.clear_all.new.words c.judge-r.ensures.judges c.judge-r.ensures.func_len_unchanged c.leave.ensures
          (c.clear_all.ensures ∙ ap (λ (n : ℕ). replicate n 0) c.judge-r.ensures.work_len_unchanged)).1.1;
    }
