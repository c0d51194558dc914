-- A text that the reader denies is refused with its number; of any other the function stands in its slice (`stands_judged`), and the answer is the one
-- of those tables (`tabled`).
use mathlib.Core.Path.{◌≡◌, sym, ap, subst, ◌∙◌}
use mathlib.Core.List.{List}
use Prim.Native.Nat.{ℕ}
use lib.ListN.{length}
use Rattle.std.specs.Prelude.{Result, Ok, Err}
use Rattle.std.specs.Result.{IsErrAnd}
use Rattle.refusals.specs.declared.Refusal.{Refusal}
use Rattle.refusals.specs.Numbers.{refusal_number}
use Rattle.lifting.specs.Answer.{Answer, lifted, out_after, parsed, refused}
use Rattle.lifting.specs.Instructions.{list_of}
use Rattle.lifting.specs.Words.{words}
use Rattle.func.specs.Decode.{func_of}
use Rattle.results.specs.declared.Lifted.{Lifted}
use Rattle.results.specs.declared.Unlifted.{Unlifted}
use Rattle.results.specs.Told.{no_list}
use Rattle.check_text.specs.Same.{Stands}
use Rattle.reader.specs.Same.{parsed_judged, stands_judged}
use Rattle.emit_output.specs.Emit.{Gives, Wants, gives_same, outcome, refuses}
use Rattle.lifter.specs.Entry.{EndsClear, clear_refused, clear_tables, early, tabled, wanted_denied, wanted_tabled}
use Rattle.lifter.proofs.lift.Goals as goal

pub new-requires : goal.new-requires
new-requires c = (stands_judged c.args.text.now c.args.func.now (length c.args.work.now) c.requires.0 c.in_ok-judge.ensures.judges).tables

pub emit-requires-clause-stands : goal.emit-requires-clause-stands
emit-requires-clause-stands c = subst (λ (w : List ℕ). Stands (func_of w) w) (sym c.new.ensures) (stands_judged c.args.text.now c.args.func.now (length c.args.work.now) c.requires.0 c.in_ok-judge.ensures.judges)

-- the answer that the `?` makes of a refusal
module _ (r : Refusal) where
  gives_refusal : {A : Answer} (x : Result Lifted Unlifted) (out : List ℕ) → IsErrAnd x (λ e. e ≡ no_list r) → refused (refusal_number r) ≡ A → Gives A x out out
  gives_refusal (Ok l) out h k = absurd h
  gives_refusal (Err e) out h k = record { told = ap (λ (z : Unlifted). refuses (refusal_number z.refusal)) h ∙ ap outcome k; words = ap (λ (z : Answer). out_after z out) k }

  wants_refusal : {n : ℕ} (x : Result Lifted Unlifted) → IsErrAnd x (λ e. e ≡ no_list r) → 0 ≡ n → Wants n x
  wants_refusal (Ok l) h k = tt
  wants_refusal (Err e) h k = λ z. ap (λ (y : Unlifted). y.wanted) h ∙ k

pub returns-in_err-judge-clause-gives : goal.returns-in_err-judge-clause-gives
returns-in_err-judge-clause-gives c =
    let j = c.in_err-judge.ensures.judges in
    gives_refusal c.in_err-judge.field-0.0 c.from_residual.result c.args.out.now c.from_residual.ensures.1
    (early c.args.text.now c.args.first (length c.args.func.now) (length c.args.work.now) (length c.args.out.now) _ (sym j.0))

pub returns-in_err-judge-clause-ends_clear : goal.returns-in_err-judge-clause-ends_clear
returns-in_err-judge-clause-ends_clear c =
    let r = c.in_err-judge.field-0.0 in
    let j = c.in_err-judge.ensures.judges in
    subst EndsClear (early c.args.text.now c.args.first (length c.args.func.now) (length c.args.work.now) (length c.args.out.now) _ (sym j.0)) (clear_refused (refusal_number r) j.1)

pub returns-in_err-judge-clause-wanted : goal.returns-in_err-judge-clause-wanted
returns-in_err-judge-clause-wanted c =
    let j = c.in_err-judge.ensures.judges in
    wants_refusal c.in_err-judge.field-0.0 c.from_residual.result c.from_residual.ensures.1
    (wanted_denied c.args.text.now c.args.first (length c.args.func.now) (length c.args.work.now) (length c.args.out.now) _ (sym j.0))

pub returns-clause-gives : goal.returns-clause-gives
returns-clause-gives c =
    let e = parsed_judged c.args.text.now c.args.func.now (length c.args.work.now) c.requires.0 c.in_ok-judge.ensures.judges in
    gives_same c.emit.ensures.gives (ap (λ (w : List ℕ). lifted (parsed (func_of w)) c.args.first (length c.args.out.now)) c.new.ensures ∙ tabled c.args.text.now c.args.first (length c.args.func.now) (length c.args.work.now) (length c.args.out.now) (func_of c.judge.new.func) e)

pub returns-clause-ends_clear : goal.returns-clause-ends_clear
returns-clause-ends_clear c =
    let e = parsed_judged c.args.text.now c.args.func.now (length c.args.work.now) c.requires.0 c.in_ok-judge.ensures.judges in
    subst EndsClear (tabled c.args.text.now c.args.first (length c.args.func.now) (length c.args.work.now) (length c.args.out.now) (func_of c.judge.new.func) e)
    (clear_tables (func_of c.judge.new.func) c.args.first (length c.args.out.now))

pub returns-clause-wanted : goal.returns-clause-wanted
returns-clause-wanted c =
    let e = parsed_judged c.args.text.now c.args.func.now (length c.args.work.now) c.requires.0 c.in_ok-judge.ensures.judges in
    subst (λ (n : ℕ). Wants n c.emit.result) (wanted_tabled c.args.text.now c.args.first (length c.args.func.now) (length c.args.work.now) (length c.args.out.now) (func_of c.judge.new.func) e) (subst (λ (w : List ℕ). Wants (length (words (list_of (func_of w) c.args.first))) c.emit.result) c.new.ensures c.emit.ensures.wanted)
