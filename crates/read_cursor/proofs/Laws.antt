-- A number, over plain variables.
--     digit_..       the code's test of a digit is the definitions'
--     number_..      at its first byte
--     digits_..      of which the loop has read some digits
use mathlib.Core.Path.{◌≡◌, sym, ap, ◌∙◌}
use mathlib.Core.List.{List, []}
use mathlib.Core.Bool.{Bool, true, false}
use mathlib.Core.Option.{some}
use Prim.Native.Nat.{ℕ, ◌+◌, ◌-◌, ◌*◌, ◌≤◌, ◌<◌}
use native.Mathlib.Omega.{arith}
use lib.Dec.{leb}
use lib.ListN.{length, get_or, drop, drop_of_length-le}
use borrow.Author.Tests.{le-ltb, lt-ltb, leb-true}
use Rattle.std.proofs.Common.{refl, subst, ◌&&◌}
use Rattle.std.specs.Char.{is_ascii_digit}
use Rattle.lifting.specs.Digits.{word_bound, digit, number, number_from}
use Rattle.read_cursor.specs.Laws.{text_here}
use Rattle.read_cursor.specs.Read.{Onward, Took, Denied}

-- a digit
digit_test : (b : ℕ) → is_ascii_digit b ≡ digit b
digit_test b = go (leb 48 b) (leb b 57)
  where
    go : (p q : Bool) → (p && q) ≡ elim p [ true ↦ q | false ↦ false ]
    go true q = refl
    go false q = refl

pub digit_as : (b : ℕ) {q p : Bool} → q ≡ is_ascii_digit b → q ≡ p → digit b ≡ p
digit_as b e h = sym (digit_test b) ∙ sym e ∙ h

pub digit_range : (b : ℕ) → digit b ≡ true → (48 ≤ b) × (b ≤ 57)
digit_range b e = go (leb 48 b) refl (leb b 57) refl e
  where
    go : (p : Bool) → leb 48 b ≡ p → (q : Bool) → leb b 57 ≡ q → elim p as (λ x. Bool) [ true ↦ q | false ↦ false ] ≡ true → (48 ≤ b) × (b ≤ 57)
    go true h true k e = (leb-true 48 b h, leb-true b 57 k)
    go true h false k e = absurd (let z : true ≡ false = sym e in cc)
    go false h q k e = absurd (let z : true ≡ false = sym e in cc)

-- a number, at its first byte
module _ {text : List ℕ} {at : ℕ} where
  pub number_past : length text ≤ at → Denied number text at
  unfolding number
  number_past h = record { is = ap number (drop_of_length-le text h); moves = tt }

  pub number_none : {b : ℕ} → at < length text → b ≡ get_or text at 0 → digit b ≡ false → Denied number text at
  unfolding number
  number_none h e d = let f = sym (ap digit e) ∙ d in record { is = ap number (text_here text at h) ∙ rw (f, number); moves = tt }

  pub number_zero : at < length text → get_or text at 0 ≡ 48 → Took number text at 0 (at + 1)
  unfolding number
  number_zero h e =
      record { is = ap number (text_here text at h) ∙ rw e; moves = record { moved = omega arith; fits = omega arith } }

-- more digits: the loop stands before place i, and the digits so far have the value n
pub record Digits (text : List ℕ) (at n i : ℕ) : Type 0 where
  pub moved : at < i
  pub fits : i ≤ length text
  pub same : number (drop at text) ≡ number_from n (drop i text)

pub digits_first : {text : List ℕ} {at n b : ℕ} → at < length text → b ≡ get_or text at 0 → digit b ≡ true → (b ≡ 48 → ⊥) → n ≡ b - 48
    → Digits text at n (at + 1)
unfolding number
digits_first {text} {at} {n} {b} h i d z e =
    let f = sym (ap digit i) ∙ d in
    let p : 48 < get_or text at 0 = omega (arith, digit_range b d) in
    record {
      moved = omega arith;
      fits = omega arith;
      same = ap number (text_here text at h) ∙ rw (f, number) (rw (lt-ltb 48 (get_or text at 0) p) (ap (λ (v : ℕ). number_from v (drop (at + 1) text)) (ap (λ (v : ℕ). v - 48) (sym i) ∙ sym e)));
    }

module _ {text : List ℕ} {at n i : ℕ} (a : Digits text at n i) where
  goes_on_law : Onward text at i
  goes_on_law = record { moved = a.moved; fits = a.fits }

  pub digits_stop : i < length text → digit (get_or text i 0) ≡ false → Took number text at n i
  unfolding number_from
  digits_stop h d =
      record { is = a.same ∙ ap (number_from n) (text_here text i h) ∙ rw (d, number_from) (ap (λ (l : List ℕ). some (n, l)) (sym (text_here text i h))); moves = goes_on_law }

  stop_end : length text ≤ i → Took number text at n i
  unfolding number_from
  stop_end h = let e : drop i text ≡ [] = drop_of_length-le text h in
      record { is = a.same ∙ ap (number_from n) e ∙ ap (λ (l : List ℕ). some (n, l)) (sym e); moves = goes_on_law }

  pub digits_end : length text ≤ i → Took number text at n (length text)
  digits_end h = let e : i ≡ length text = omega (arith, a.fits) in subst (λ (k : ℕ). Took number text at n k) e (stop_end h)

  module _ (h : i < length text) (d : digit (get_or text i 0) ≡ true) where
    pub digits_over : word_bound ≤ n * 10 + (get_or text i 0 - 48) → Denied number text at
    unfolding number_from
    digits_over b =
        record { is = a.same ∙ ap (number_from n) (text_here text i h) ∙ rw (d, number_from) (rw (le-ltb (n * 10 + (get_or text i 0 - 48)) word_bound b)); moves = tt }

    pub digits_next : {m : ℕ} → m ≡ n * 10 + (get_or text i 0 - 48) → m < word_bound → Digits text at m (i + 1)
    unfolding number_from
    digits_next e b =
        let o : n * 10 + (get_or text i 0 - 48) < word_bound = omega arith in
        record {
          moved = omega (arith, a.moved);
          fits = omega arith;
          same =
              a.same
              ∙ ap (number_from n) (text_here text i h)
              ∙ rw (d, number_from) (rw (lt-ltb (n * 10 + (get_or text i 0 - 48)) word_bound o) (ap (λ (v : ℕ). number_from v (drop (i + 1) text)) (sym e)));
        }
