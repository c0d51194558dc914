-- Whatever holds of each refusal and of each function that passes holds of what is parsed. Assumes nothing.
use Rattle.std.specs.Prelude.{◌≡◌, refl, Bool, true, false, ◌&&◌, List, ◌⊎◌, ℕ, ◌<◌, length}
use Rattle.std.proofs.Common.{inl, inr, arith}
use Rattle.std.proofs.Math.Option.{Option, none, some}
use Rattle.std.proofs.Math.Dec.{leb}
use Rattle.lifting.specs.Ast.{Func}
use Rattle.lifting.specs.Grammar.{read}
use Rattle.lifting.specs.Limits.{max_bytes, func_words, work_words, within_limits}
use Rattle.lifting.specs.References.{references_hold}
use Rattle.lifting.specs.Tree.{is_tree}
use Rattle.lifting.specs.Counts.{counts_agree}
use Rattle.lifting.specs.Control.{control_fits, targets_differ}
use Rattle.lifting.specs.Answer.{Parsed, checked, denied, formed, parse, parsed}

-- by a test, in either case
pub by_test : {A : Type 0} (P : A → Type 0) (b : Bool) (x y : A) → (b ≡ false → P x) → (b ≡ true → P y) → P (elim b [ false ↦ x | true ↦ y ])
by_test P false x y f t = f refl
by_test P true x y f t = t refl

-- the refusals by the text and the scratch slices alone: 1 to 8 and 13
abbrev pub Denial : ℕ → Type 0
Denial n = (n < 9) ⊎ (n ≡ 13)

pub denial_other : (n : ℕ) → Denial n → ¬ (n ≡ 11)
denial_other n (inl h) e = omega arith
denial_other n (inr h) e = omega arith

module _ (P : Parsed → Type 0) (no : (n : ℕ) → Denial n → P (denied n))
    (all : (F : Func) → within_limits F ≡ true → references_hold F ≡ true → is_tree F ≡ true → counts_agree F ≡ true → control_fits F ≡ true → targets_differ F ≡ true → P (parsed F)) where
  by_checks : (F : Func) → P (checked F)
  unfolding checked
  by_checks F =
      by_test P (within_limits F) (denied 3) _ (λ e. no 3 (inl (omega arith))) (λ limits.
      by_test P (references_hold F) (denied 4) _ (λ e. no 4 (inl (omega arith))) (λ references.
      by_test P (is_tree F) (denied 5) _ (λ e. no 5 (inl (omega arith))) (λ tree.
      by_test P (counts_agree F) (denied 6) _ (λ e. no 6 (inl (omega arith))) (λ counts.
      by_test P (control_fits F) (denied 7) _ (λ e. no 7 (inl (omega arith))) (λ control.
      by_test P (targets_differ F) (denied 13) (parsed F) (λ e. no 13 (inr refl)) (λ differ. all F limits references tree counts control differ))))))

  by_form : (o : Option Func) → P (formed o)
  unfolding formed
  by_form none = no 2 (inl (omega arith))
  by_form (some F) = by_checks F

  pub by_parse : (text : List ℕ) (func work : ℕ) → P (parse text func work)
  unfolding parse
  by_parse text func work =
      by_test P (leb func_words func && leb work_words work) (denied 8) _ (λ e. no 8 (inl (omega arith))) (λ s.
      by_test P (leb (length text) max_bytes) (denied 1) _ (λ e. no 1 (inl (omega arith))) (λ b. by_form (read text)))
