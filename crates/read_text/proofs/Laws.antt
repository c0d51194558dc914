-- What the proofs of this crate cite. Assumes nothing.
--     lines_next, ..      what is told of a later cursor, in the text of the first
--     body_no, ..         an answer that is known to be nothing, as `?` gives it back
use mathlib.Core.Path.{◌≡◌, subst, sym, ap}
use mathlib.Core.Bool.{Bool}
use mathlib.Core.List.{List}
use mathlib.Core.Option.{none}
use Prim.Native.Nat.{ℕ}
use lib.ListN.{length, drop}
use Rattle.std.specs.Prelude as code
use Rattle.lifting.specs.Codec.{Whole}
use Rattle.lifting.specs.Grammar.{Regions, const_lines, read}
use Rattle.read_cursor.specs.Read.{TextEnded}
use Rattle.read_cursor.specs.declared.Cursor.{Cursor}
use Rattle.read_lines.specs.Lines.{LinesPassed, PassedOn}
use Rattle.read_ctrls.specs.declared.CtrlsFit.{CtrlsFit}
use Rattle.read_ctrls.specs.Whole.{CtrlsAre}
use Rattle.read_text.specs.Whole.{BodyIs, TailIs, TextIs}

-- the same text is as long
pub text_kept : (c d : Cursor) → d.text ≡ c.text → length d.text.now ≡ length c.text.now
text_kept c d e = ap (λ z. length z.now) e

module _ (from c : Cursor) (t : c.text ≡ from.text) where
  pub lines_next : {A B S : Type 0} {W : Whole (List A × B)} {D : Whole B} {k : A → S → S} {w v : S} {d : Cursor} → PassedOn W D k c w d v → LinesPassed W D k from.text.now c.at w d.at v
  lines_next {W = W} {D} {k} {w} {v} {d} p = subst (λ (z : List ℕ). LinesPassed W D k z c.at w d.at v) (ap (λ z. z.now) t) p.passed

  pub none_next : {A : Type 0} (W : Whole A) → W.read (drop c.at c.text.now) ≡ none → W.read (drop c.at from.text.now) ≡ none
  none_next W e = subst (λ (z : List ℕ). W.read (drop c.at z) ≡ none) (ap (λ z. z.now) t) e

  pub ctrls_next : (r : code.Option CtrlsFit) (w m v : List ℕ) → CtrlsAre r c.text.now c.at w m v → CtrlsAre r from.text.now c.at w m v
  ctrls_next r w m v p = subst (λ (z : List ℕ). CtrlsAre r z c.at w m v) (ap (λ z. z.now) t) p

  pub body_next : (W : Whole Regions) (r : code.Option CtrlsFit) (w m v : List ℕ) → BodyIs W r c.text.now c.at w m v → BodyIs W r from.text.now c.at w m v
  body_next W r w m v p = subst (λ (z : List ℕ). BodyIs W r z c.at w m v) (ap (λ z. z.now) t) p

  pub tail_next : (r : code.Option CtrlsFit) (w m v : List ℕ) → TailIs r c.text.now c.at w m v → TailIs r from.text.now c.at w m v
  tail_next r w m v p = subst (λ (z : List ℕ). TailIs r z c.at w m v) (ap (λ z. z.now) t) p

  pub ended_next : {b q : Bool} → b ≡ q → TextEnded b c.text.now c.at → TextEnded q from.text.now c.at
  ended_next {b} {q} e p = subst (λ (q : Bool). TextEnded q from.text.now c.at) e (subst (λ (z : List ℕ). TextEnded b z c.at) (ap (λ z. z.now) t) p)

module _ {found : code.Option CtrlsFit} (text : List ℕ) (w m v : List ℕ) (e : found ≡ code.None) where
  pub body_no : (W : Whole Regions) (from : ℕ) → W.read (drop from text) ≡ none → BodyIs W found text from w m v
  body_no W from p = subst (λ (r : code.Option CtrlsFit). BodyIs W r text from w m v) (sym e) p

  pub tail_no : (from : ℕ) → const_lines.read (drop from text) ≡ none → TailIs found text from w m v
  tail_no from p = subst (λ (r : code.Option CtrlsFit). TailIs r text from w m v) (sym e) p

  pub text_no : read text ≡ none → TextIs found text w m v
  text_no p = subst (λ (r : code.Option CtrlsFit). TextIs r text w m v) (sym e) p
