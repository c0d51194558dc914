-- Slices that are too short are refused by 8, and keep their words; any other answer asks that both end as zeros, and they are cleared once it is there.
use mathlib.Core.Path.{sym, ap, ◌∙◌}
use Prim.Native.Nat.{ℕ}
use lib.ListN.{length, replicate}
use borrow.Author.Tests.{not-false, not-true}
use Rattle.lifting.specs.Answer.{Answer, out_after, scratch_after}
use Rattle.reader.specs.Same.{enough_both, short}
use Rattle.refusals.specs.Numbers.{refusal_number}
use Rattle.results.specs.declared.Unlifted.{Unlifted}
use Rattle.emit_output.specs.Emit.{outcome, refuses}
use Rattle.lifter.specs.Entry.{early, wanted_denied}
use Rattle.lifter.proofs.lift_function.Goals as goal

pub returns-then-not-enough : goal.returns-then-not-enough
returns-then-not-enough c =
    let e = sym (short c.args.text.now (length c.args.func.now) (length c.args.work.now) (sym c.enough.ensures ∙ not-true _ c.if-not-enough.true-raw)) in
    let k = early c.args.text.now c.args.first (length c.args.func.now) (length c.args.work.now) (length c.args.out.now) _ e in
    record { told = ap (λ (x : Unlifted). refuses (refusal_number x.refusal)) c.from.ensures ∙ ap outcome k; func_slice = ap (λ (x : Answer). scratch_after x c.args.func.now) k; work_slice = ap (λ (x : Answer). scratch_after x c.args.work.now) k; out_slice = ap (λ (x : Answer). out_after x c.args.out.now) k; wanted = λ z. ap (λ (x : Unlifted). x.wanted) c.from.ensures ∙ wanted_denied c.args.text.now c.args.first (length c.args.func.now) (length c.args.work.now) (length c.args.out.now) _ e }

pub lift-r-requires : goal.lift-r-requires
lift-r-requires c = enough_both (length c.args.func.now) (length c.args.work.now) (sym c.enough.ensures ∙ not-false _ c.if-not-enough.false-raw)

pub returns : goal.returns
returns c = record { told = c.lift-r.ensures.gives.told; func_slice = c.clear_all.ensures ∙ ap (λ (n : ℕ). replicate n 0) c.lift-r.ensures.func_len_unchanged ∙ sym (c.lift-r.ensures.ends_clear c.args.func.now); work_slice = c.clear_all-2.ensures ∙ ap (λ (n : ℕ). replicate n 0) c.lift-r.ensures.work_len_unchanged ∙ sym (c.lift-r.ensures.ends_clear c.args.work.now); out_slice = c.lift-r.ensures.gives.words; wanted = c.lift-r.ensures.wanted }
