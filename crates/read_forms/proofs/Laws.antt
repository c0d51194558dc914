-- A form, over plain variables.
--     open-..               of which the loop has passed some bytes
--     deeper-.., closes-..  how deep a byte leads, and whether it closes the form
use mathlib.Core.Path.{◌≡◌, sym, ap, ◌∙◌}
use mathlib.Core.List.{List, []}
use mathlib.Core.Bool.{true, false}
use mathlib.Core.Option.{some}
use Prim.Native.Nat.{ℕ, ◌+◌, ◌-◌, ◌≤◌, ◌<◌}
use native.Mathlib.Omega.{arith}
use lib.Dec.{eqb}
use lib.ListN.{length, get_or, take, drop, drop_of_length-le}
use borrow.Author.Tests.{eq-eqb, ne_eqb}
use Rattle.read_cursor.specs.Laws.{text_here}
use Rattle.read_forms.specs.Form.{deeper, closes, form_span, form_first, form_at}

-- a form: the loop stands at place i, with d brackets open
pub record Open (text : List ℕ) (at d i : ℕ) : Type 0 where
  pub from : at < i
  pub fits : i ≤ length text
  pub depth : d ≤ i
  pub same : form_span 0 0 (drop (at + 1) text) ≡ form_span (i - (at + 1)) d (drop i text)

pub open_past : (text : List ℕ) (at : ℕ) → length text ≤ at → [] ≡ form_at text at
unfolding form_at form_span
open_past text at h =
    let k : length text ≤ at + 1 = omega arith in
    sym (ap (λ (l : List ℕ). form_first l (form_span 0 0 l)) (drop_of_length-le text k))

pub open_first : {text : List ℕ} {at : ℕ} → at < length text → Open text at 0 (at + 1)
open_first {text} {at} h =
    let z : 0 ≡ at + 1 - (at + 1) = omega arith in
    record { from = omega arith; fits = omega arith; depth = omega arith; same = ap (λ (n : ℕ). form_span n 0 (drop (at + 1) text)) z }

module _ {text : List ℕ} {at d i : ℕ} (o : Open text at d i) where
  pub open_close : i < length text → closes (get_or text i 0) d ≡ true → take (i - (at + 1)) (drop (at + 1) text) ≡ form_at text at
  unfolding form_at form_span
  open_close h e =
      let q : form_span 0 0 (drop (at + 1) text) ≡ some (i - (at + 1)) = o.same ∙ ap (form_span (i - (at + 1)) d) (text_here text i h) ∙ rw (e, form_span) in
      sym (ap (form_first (drop (at + 1) text)) q)

  pub open_next : i < length text → closes (get_or text i 0) d ≡ false → {k : ℕ} → k ≡ deeper (get_or text i 0) d → k ≤ d + 1 → Open text at k (i + 1)
  unfolding form_span
  open_next h e {k} f l =
      let a = o.from in
      let b = o.depth in
      let z : i - (at + 1) + 1 ≡ i + 1 - (at + 1) = omega arith in
      record {
        from = omega arith;
        fits = omega arith;
        depth = omega arith;
        same =
            o.same
            ∙ ap (form_span (i - (at + 1)) d) (text_here text i h)
            ∙ rw (e, form_span) (ap (λ (n : ℕ). form_span n (deeper (get_or text i 0) d) (drop (i + 1) text)) z ∙ ap (λ (n : ℕ). form_span (i + 1 - (at + 1)) n (drop (i + 1) text)) (sym f));
      }

  pub open_end : length text ≤ i → [] ≡ form_at text at
  unfolding form_at form_span
  open_end h = sym (ap (form_first (drop (at + 1) text)) (o.same ∙ ap (form_span (i - (at + 1)) d) (drop_of_length-le text h)))

-- how deep a byte leads, and whether it closes the form
pub deeper_open : (b d : ℕ) → b ≡ 40 → d + 1 ≡ deeper b d
unfolding deeper
deeper_open b d e = rw (eq-eqb b 40 e, deeper)

pub deeper_close : (b d k : ℕ) → (b ≡ 40 → ⊥) → b ≡ 41 → k ≡ d - 1 → k ≡ deeper b d
unfolding deeper
deeper_close b d k n e f = f ∙ rw (ne_eqb b 40 n, deeper) (rw (eq-eqb b 41 e))

pub deeper_other : (b d : ℕ) → (b ≡ 40 → ⊥) → (b ≡ 41 → ⊥) → d ≡ deeper b d
unfolding deeper
deeper_other b d n e = rw (ne_eqb b 40 n, deeper) (rw (ne_eqb b 41 e))

pub closes_yes : (b d : ℕ) → b ≡ 41 → eqb d 0 ≡ closes b d
unfolding closes
closes_yes b d e = rw (eq-eqb b 41 e, closes)

pub closes_no : (b d : ℕ) → (b ≡ 41 → ⊥) → false ≡ closes b d
unfolding closes
closes_no b d e = rw (ne_eqb b 41 e, closes)
