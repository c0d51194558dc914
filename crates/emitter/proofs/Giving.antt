-- Refusal 9, as the code finds it. Assumes nothing.
--     gives_ids                                          what is told and what stands in the output slice
--     ids_low, ids_high, ids_over, ids_held              refusal 9 by its three tests
use mathlib.Core.Path.{◌≡◌, refl, sym, ap, ◌∙◌}
use mathlib.Core.Bool.{Bool, true, false, ◌&&◌}
use mathlib.Core.List.{List}
use Prim.Native.Nat.{ℕ, suc}
use lib.Dec.{leb, ltb}
use Rattle.refusals.specs.declared.Refusal.TheVariants.{Ids}
use Rattle.refusals.specs.Numbers.{refusal_number}
use Rattle.general_laws.specs.Lists.{every}
use Rattle.lifting.specs.Ast.{Func}
use Rattle.lifting.specs.Parts.{ids}
use Rattle.lifting.specs.Limits.{highest_id}
use Rattle.lifting.specs.Walk.{walk_of}
use Rattle.lifting.specs.Absorb.{kept}
use Rattle.lifting.specs.Ids.{next_id}
use Rattle.lifting.specs.Answer.{ids_fit, lifted, parsed, refused}
use Rattle.check_first.specs.Fit.{ids_fit_law}
use Rattle.std.specs.Prelude.{Err}
use Rattle.results.specs.declared.Unlifted.{Unlifted}
use Rattle.results.specs.Told.{no_list}
use Rattle.emit_output.specs.Emit.{Gives, by_ids, gives_same, refuses}

module _ (F : Func) (first n : ℕ) (out : List ℕ) where
  pub gives_ids : ids_fit F first ≡ false → {r : Unlifted} → r ≡ no_list Ids → Gives (lifted (parsed F) first n) (Err r) out out
  gives_ids e is = gives_same {a = refused (refusal_number Ids)} (record { told = ap (λ (x : Unlifted). refuses (refusal_number x.refusal)) is; words = refl }) (sym (by_ids F first n e))

and_false : (a b : Bool) → a ≡ false → (a && b) ≡ false
and_false a b e = ap (λ (t : Bool). t && b) e

and_later : (a b : Bool) → b ≡ false → (a && b) ≡ false
and_later true b e = e
and_later false b e = refl

and_both : (a b : Bool) → a ≡ true → b ≡ true → (a && b) ≡ true
and_both a b e f = ap (λ (t : Bool). t && b) e ∙ f

module _ (F : Func) (first : ℕ) where
  abbrev above : Bool
  above = ltb 0 first && every (λ x. ltb x first) (ids F)

  abbrev next : ℕ
  next = next_id F first (walk_of F) (kept (walk_of F))

  pub ids_low : above ≡ false → ids_fit F first ≡ false
  ids_low e = ids_fit_law F first ∙ and_false above _ e

  pub ids_high : leb first highest_id ≡ false → ids_fit F first ≡ false
  ids_high e = ids_fit_law F first ∙ and_later above _ (and_false (leb first highest_id) _ e)

  pub ids_over : leb next (suc highest_id) ≡ false → ids_fit F first ≡ false
  ids_over e = ids_fit_law F first ∙ and_later above _ (and_later (leb first highest_id) _ e)

  pub ids_held : above ≡ true → leb first highest_id ≡ true → leb next (suc highest_id) ≡ true → ids_fit F first ≡ true
  ids_held e h l = ids_fit_law F first ∙ and_both above _ e (and_both (leb first highest_id) _ h l)
