-- A value, by the part between its brackets. Assumes nothing.
--     part-..      the part alone: its words, and nothing behind them
--     value-..     the space, the bracket, and the part that the bracket opens
use mathlib.Core.Path.{◌≡◌, refl, sym, ap, ◌∙◌}
use mathlib.Core.List.{List, ◌∷◌}
use mathlib.Core.Bool.{Bool, true, false}
use mathlib.Core.Option.{Option, none, some, none-ne-some}
use Prim.Native.Nat.{ℕ, ◌+◌, ◌-◌, ◌≤◌}
use native.Mathlib.Omega.{arith}
use lib.ListN.{length, take, drop, length-take, length-drop, length-append}
use lib.Seq.{drop-drop, length-take-le}
use Rattle.lifting.specs.Bytes.{bytes}
use Rattle.lifting.specs.Digits.{Reading}
use Rattle.lifting.specs.Codec.{then, seq, view_as, same, alt}
use Rattle.lifting.specs.Whole.{read_whole}
use Rattle.lifting.specs.Grammar.{ValueForm, value_form, value_codec}
use Rattle.read_cursor.specs.Read.{Took, Denied, literal, TextEnded}
use Rattle.read_values.specs.Answers.{form_of}
use Rattle.read_forms.specs.Form.{form_span, span_sound, form_first, form_at}
use Rattle.read_values.specs.Formed.{formed_by}
use Rattle.read_values.specs.Part.{value_parts, value_part, value_by_part, value_by_part_law}
use Rattle.func.specs.Kinds.{as_value}
use Rattle.func.specs.declared.Val.{Val}
use Rattle.func.specs.declared.Val.TheVariants.{Const, Input, Output, Result}
use Rattle.read_cursor.specs.Laws.{strip_is, strip_not}
use Rattle.read_cursor.specs.Answers.{Reached, Missed}
use Rattle.read_cursor.specs.declared.Cursor.{Cursor}

-- the part: no words of a value, the words alone, or the words and more
module _ {part : List ℕ} where
  pub part_none : Denied value_parts.read part 0 → read_whole value_part part ≡ none
  unfolding read_whole value_part seq same view_as
  part_none p = rw p.is

  module _ {x : ValueForm} {at : ℕ} (p : Took value_parts.read part 0 x at) {q : Bool} where
    pub part_whole : q ≡ true → TextEnded q part at → read_whole value_part part ≡ some x
    unfolding read_whole value_part seq same view_as
    part_whole e h = let g : TextEnded true part at = rw e at h in rw (p.is, g)

    pub part_more : q ≡ false → TextEnded q part at → read_whole value_part part ≡ none
    unfolding read_whole value_part seq same view_as
    part_more e h = let g : TextEnded false part at = rw e at h in rw (p.is, g)

-- the form of a value is the value
value_form_law : (t r : List ℕ) (v : Val) → value_form.read t ≡ some (form_of v, r) → value_codec.read t ≡ some (as_value v, r)
unfolding value_codec same view_as
value_form_law t r (Const n) e = rw e
value_form_law t r (Input n i) e = rw e
value_form_law t r (Output n i) e = rw e
value_form_law t r (Result n) e = rw e

form_missed : (t : List ℕ) → value_form.read t ≡ none → value_codec.read t ≡ none
unfolding value_codec same view_as
form_missed t e = rw e

-- no space and bracket
pub value_off : {text : List ℕ} {at : ℕ} → Denied (literal (bytes " (")) text at → Denied value_codec.read text at
unfolding value_by_part formed_by
value_off {text} {at} p =
    record { is = form_missed (drop at text) (value_by_part_law (drop at text) ∙ rw (strip_not (bytes " (") p)); moves = tt }

-- the part stands behind them up to its bracket, within the text
pub record Inside (text : List ℕ) (at start : ℕ) (part : List ℕ) (x : ValueForm) : Type 0 where
  pub is : value_form.read (drop at text) ≡ some (x, drop (start + length part + 1) text)
  pub fits : start + length part + 1 ≤ length text

module _ {text : List ℕ} {at start : ℕ} (p : Took (literal (bytes " (")) text at tt start) {part : List ℕ} (e : part ≡ form_at text (start - 1)) where
  abbrev behind : List ℕ
  behind = drop start text

  by_part : value_form.read (drop at text) ≡ then (form_span 0 0 behind) (λ m. then (read_whole value_part (take m behind)) (λ x. some (x, drop (m + 1) behind)))
  unfolding value_by_part formed_by
  by_part = value_by_part_law (drop at text) ∙ rw (strip_is (bytes " (") p)

  part_is : part ≡ form_first behind (form_span 0 0 behind)
  unfolding form_at
  part_is =
      let z : start - 1 + 1 ≡ start = omega (arith, p.moves.moved) in
      e ∙ ap (λ (k : ℕ). form_first (drop k text) (form_span 0 0 (drop k text))) z

  pub value_inside : {x : ValueForm} → read_whole value_part part ≡ some x → Inside text at start part x
  unfolding read_whole value_part value_parts seq same view_as alt
  value_inside {x} h = go (form_span 0 0 behind) refl part_is
    where
      go : (o : Option ℕ) → form_span 0 0 behind ≡ o → part ≡ form_first behind o → Inside text at start part x
      go none s g = absurd (none-ne-some _ (sym (ap (read_whole value_part) g) ∙ h))
      go (some m) s g =
          let l : length behind ≡ length (take m behind) + length (41 ∷ drop (m + 1) behind) =
          ap length (span_sound behind m s) ∙ length-append (take m behind) (41 ∷ drop (m + 1) behind) in
          let i : m + 1 ≤ length behind = omega (arith, l, length-take m behind, length-drop (m + 1) behind) in
          let j : length part ≡ m = ap length g ∙ length-take-le m behind (omega arith) in
          let k : start + (m + 1) ≡ start + length part + 1 = omega arith in
          record { is = by_part ∙ rw (s, ← g, h, drop-drop, k); fits = omega (arith, length-drop start text, p.moves.fits) }

  pub value_on : (v : Val) → read_whole value_part part ≡ some (form_of v) → Took value_codec.read text at (as_value v) (start + length part + 1)
  value_on v h =
      let i = value_inside h in
      record { is = value_form_law (drop at text) (drop (start + length part + 1) text) v i.is; moves = record { moved = omega (arith, p.moves.moved); fits = i.fits } }

  pub value_not : read_whole value_part part ≡ none → Denied value_codec.read text at
  value_not h = record { is = form_missed (drop at text) (by_part ∙ go (form_span 0 0 behind) part_is); moves = tt }
    where
      go : (o : Option ℕ) → part ≡ form_first behind o
          → ◌≡◌ {A = Reading ValueForm} (then o (λ m. then (read_whole value_part (take m behind)) (λ x. some (x, drop (m + 1) behind)))) none
      go none g = refl
      go (some m) g = rw (← g, h)

-- the same, from one cursor to the next
pub value_missed : {from : Cursor} → Missed (literal (bytes " (")) from → Missed value_codec.read from
value_missed p = record { denied = value_off p.denied }

module _ {from c : Cursor} (p : Reached (literal (bytes " (")) from tt c) {part : List ℕ} (e : part ≡ form_at c.text.now (c.at - 1)) where
  part_here : part ≡ form_at from.text.now (c.at - 1)
  part_here = e ∙ ap (λ t. form_at t.now (c.at - 1)) p.same_text

  pub value_unread : read_whole value_part part ≡ none → Missed value_codec.read from
  value_unread h = record { denied = value_not p.took part_here h }

  pub value_reached : (v : Val) → read_whole value_part part ≡ some (form_of v) → Reached value_codec.read from (as_value v) (record { text = c.text; at = c.at + length part + 1 })
  value_reached v h = record { took = value_on p.took part_here v h; same_text = p.same_text }
