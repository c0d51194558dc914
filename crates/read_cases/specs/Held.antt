-- What is held of a batch after the bytes that were read: those of the text that has not ended, of which a text longer than its room keeps the
-- first ones, and how much of its line `%%` they end with. It goes by single bytes, so that it is the same in whatever pieces they come.
-- Assumes nothing.
--     held_after       after more bytes
--     held_pieces     one piece after another
--     held_cut        up to the end of a text, as it is cut off and kept
use Rattle.std.specs.Prelude.{◌≡◌, refl, Bool, true, cond, eqb, length, set, drop}
use Rattle.std.proofs.Common.{sym, ◌∙◌, ⊎_elim, drop_of_length-le, length-drop, take-append-drop, length-take-le, drop-drop}
use Rattle.std.proofs.Math.Path.{ap}
use Rattle.std.proofs.Math.Bool.{false}
use mathlib.Core.List.{List, [], ◌∷◌, ◌++◌}
use Prim.Native.Nat.{ℕ, suc, ◌+◌, ◌-◌, ◌≤◌, ◌<◌, min}
use native.Mathlib.Omega.{arith}
use Rattle.std.proofs.Math.ListN.{take, length-set}
use Rattle.std.proofs.Math.Seq.{paste, length-sets}
use Rattle.std.proofs.lemmas.List.Edits.{sets, sets-eq}
use borrow.Author.Tests.{eqb-true, eqb-false, ne_eqb}
use Rattle.general_laws.specs.Part.{sets_out, sets_sets}
use Rattle.print_bytes.specs.Put.{le_or}
use Rattle.read_marks.specs.Cut.{matched_after, cut_of, cut_more, fitting_bytes}
use Rattle.read_cases.specs.declared.State.{State}

-- the room for a text, how many of its bytes are held, and how many bytes of "\n%%\n" they end with
pub record HeldCase : Type 0 where
  pub text : List ℕ
  pub len : ℕ
  pub matched : ℕ

abbrev pub held_case : List ℕ → ℕ → ℕ → HeldCase
held_case text len matched = record { text = text; len = len; matched = matched }

abbrev pub held_of : List ℕ → State → HeldCase
held_of text s = held_case text s.len s.matched

-- what was taken of the bytes read, from one place to another
abbrev pub taken_part : ℕ → ℕ → List ℕ → List ℕ
taken_part from end bytes = take (end - from) (drop from bytes)

-- the counts are within a buffer and a text of these lengths
pub record CountsWithin (buffer text : ℕ) (s : State) : Type 0 where
  pub len : s.len ≤ text
  pub from : s.from ≤ s.till
  pub till : s.till ≤ buffer

-- a text that has ended is held no longer
unfoldable pub len_after : ℕ → ℕ → ℕ
len_after matched len = cond (eqb matched 4) 0 len

abbrev pub byte_after : HeldCase → ℕ → HeldCase
byte_after s b =
    let m = matched_after s.matched b in
    held_case (set s.text s.len b) (len_after m (min (s.len + 1) (length s.text))) m

unfoldable pub held_after : HeldCase → List ℕ → HeldCase
held_after s [] = s
held_after s (b ∷ t) = held_after (byte_after s b) t

pub held_pieces : (a b : List ℕ) (s : HeldCase) → held_after s (a ++ b) ≡ held_after (held_after s a) b
unfolding held_after
held_pieces [] b s = refl
held_pieces (x ∷ a) b s = held_pieces a b (byte_after s x)

-- ---- a text is cut off and kept

pub len_ended : (len : ℕ) → len_after 4 len ≡ 0
unfolding len_after
len_ended len = refl

pub len_stays : (m len : ℕ) → (m ≡ 4 → ⊥) → len_after m len ≡ len
unfolding len_after
len_stays m len other = ap (λ (t : Bool). cond t 0 len) (ne_eqb m 4 other)

pub len_low : (m len : ℕ) → len_after m len ≤ len
unfolding len_after
len_low m len = go (eqb m 4)
  where
    go : (t : Bool) → cond t 0 len ≤ len
    go true = omega arith
    go false = omega arith

-- what is held after a part, with so much matched then
abbrev pub kept_with : HeldCase → List ℕ → ℕ → HeldCase
kept_with s part m =
    held_case (sets s.text s.len part) (len_after m (s.len + fitting_bytes s.text s.len part)) m

-- the part up to the end of a text, and what follows it
abbrev Cut : ℕ → List ℕ → HeldCase → Type 0
Cut at t s =
    let p = cut_of at s.matched t in
    held_after s t ≡ held_after (kept_with s (take (p.0 - at) t) p.1) (drop (p.0 - at) t)

pub cut_low : (t : List ℕ) (at m : ℕ) → at ≤ (cut_of at m t).0
unfolding cut_of
cut_low [] at m = omega arith
cut_low (b ∷ t) at m = go (cut_low t (at + 1) (matched_after m b)) (eqb (matched_after m b) 4)
  where
    go : at + 1 ≤ (cut_of (at + 1) (matched_after m b) t).0 → (q : Bool)
        → at ≤ (elim q as (λ x. ℕ × ℕ) [ true ↦ (at + 1, 4) | false ↦ cut_of (at + 1) (matched_after m b) t ]).0
    go ih true = omega arith
    go ih false = omega arith

-- the place behind a byte, where there may be no room
run_on : (text vs : List ℕ) (len b : ℕ) → len ≤ length text → sets (set text len b) (min (len + 1) (length text)) vs ≡ sets (set text len b) (suc len) vs
run_on text vs len b h =
    let l = length-set text len b in
    ⊎_elim (λ k. let e : min (len + 1) (length text) ≡ suc len = omega arith in ap (λ (n : ℕ). sets (set text len b) n vs) e)
    (λ k. sets_out vs (set text len b) (min (len + 1) (length text)) (omega arith) ∙ sym (sets_out vs (set text len b) (suc len) (omega arith)))
    (le_or (len + 1) (length text))

one_fits : (text : List ℕ) (len b : ℕ) → len ≤ length text → min (len + 1) (length text) ≡ len + fitting_bytes text len (b ∷ [])
unfolding fitting_bytes
one_fits text len b h = omega arith

more_numbers : (len size q n : ℕ) → len ≤ size → n ≡ min (len + 1) size → n + min q (size - n) ≡ len + min (suc q) (size - len)
more_numbers len size q n h e =
    ⊎_elim (λ k. let f : n ≡ len + 1 = omega arith in omega arith) (λ k. let f : n ≡ len = omega arith in omega arith) (le_or (len + 1) size)

more_fits : (text : List ℕ) (len b : ℕ) (vs : List ℕ) → len ≤ length text
    → min (len + 1) (length text) + fitting_bytes (set text len b) (min (len + 1) (length text)) vs ≡ len + fitting_bytes text len (b ∷ vs)
unfolding fitting_bytes
more_fits text len b vs h =
    let n = min (len + 1) (length text) in
    ap (λ (x : ℕ). n + min (length vs) (x - n)) (length-set text len b) ∙ more_numbers len (length text) (length vs) n h refl

abbrev rest : ℕ → ℕ → List ℕ → HeldCase → ℕ × ℕ → HeldCase
rest at b t s p = held_after (kept_with s (take (p.0 - at) (b ∷ t)) p.1) (drop (p.0 - at) (b ∷ t))

module _ (b : ℕ) (t : List ℕ) (at : ℕ) (text : List ℕ) (len m : ℕ) (h : len ≤ length text) where
  abbrev k : ℕ
  k = matched_after m b

  abbrev n : ℕ
  n = min (len + 1) (length text)

  -- the text ends here
  cut_here : k ≡ 4 → cut_of at m (b ∷ t) ≡ (at + 1, 4) → Cut at (b ∷ t) (held_case text len m)
  unfolding held_after
  cut_here four e =
      let one : at + 1 - at ≡ 1 = omega arith in
      ap (λ (x : ℕ). held_after (held_case (set text len b) (len_after x n) x) t) four
      ∙ ap (λ (x : ℕ). held_after (held_case (set text len b) (len_after 4 x) 4) t) (one_fits text len b h)
      ∙ ap (λ (x : ℕ). held_after (kept_with (held_case text len m) (take x (b ∷ t)) 4) (drop x (b ∷ t))) (sym one)
      ∙ ap (rest at b t (held_case text len m)) (sym e)

  -- it doesn't
  cut_on : (k ≡ 4 → ⊥) → Cut (at + 1) t (held_case (set text len b) n k) → Cut at (b ∷ t) (held_case text len m)
  unfolding held_after
  cut_on other ih =
      let p = cut_of (at + 1) k t in
      let x = p.0 - (at + 1) in
      let low = cut_low t (at + 1) k in
      let far : suc x ≡ p.0 - at = omega arith in
      ap (λ (y : ℕ). held_after (held_case (set text len b) y k) t) (len_stays k n other)
      ∙ ih
      ∙ ap (λ (l : List ℕ). held_after (held_case l (len_after p.1 (n + fitting_bytes (set text len b) n (take x t))) p.1) (drop x t)) (run_on text (take x t) len b h)
      ∙ ap (λ (y : ℕ). held_after (held_case (sets text len (b ∷ take x t)) (len_after p.1 y) p.1) (drop x t)) (more_fits text len b (take x t) h)
      ∙ ap (λ (y : ℕ). held_after (kept_with (held_case text len m) (take y (b ∷ t)) p.1) (drop y (b ∷ t))) far
      ∙ ap (rest at b t (held_case text len m)) (sym (cut_more at m b t other))

  -- by the byte: what follows one that ends no text
  cut_byte : ((u : List ℕ) (x y : ℕ) → x ≤ length u → (y ≡ 4 → ⊥) → Cut (at + 1) t (held_case u x y)) → Cut at (b ∷ t) (held_case text len m)
  cut_byte ih = go (eqb k 4) refl
    where
      go : (q : Bool) → eqb k 4 ≡ q → Cut at (b ∷ t) (held_case text len m)
      go true e = cut_here (eqb-true k 4 e) (unfold cut_of in rw (e, cut_of))
      go false e = let other = eqb-false k 4 e in cut_on other (ih (set text len b) n k (omega (arith, length-set text len b)) other)

cut_rest : (t : List ℕ) (at : ℕ) (text : List ℕ) (len m : ℕ) → len ≤ length text → (m ≡ 4 → ⊥) → Cut at t (held_case text len m)
unfolding held_after cut_of fitting_bytes
cut_rest [] at text len m h other =
    let none : at - at ≡ 0 = omega arith in
    let fit : len ≡ len + min 0 (length text - len) = omega arith in
    ap (λ (x : ℕ). held_case text x m) (fit ∙ sym (len_stays m _ other))
    ∙ ap (λ (x : ℕ). held_after (kept_with (held_case text len m) (take x []) m) (drop x [])) (sym none)
cut_rest (b ∷ t) at text len m h other = cut_byte b t at text len m h (cut_rest t (at + 1))

cut_all : (t : List ℕ) (at : ℕ) (text : List ℕ) (len m : ℕ) → len ≤ length text → 0 < length t → Cut at t (held_case text len m)
cut_all [] at text len m h some = absurd (omega arith)
cut_all (b ∷ t) at text len m h some = cut_byte b t at text len m h (cut_rest t (at + 1))

-- the bytes of a part that fit, behind the first ones
pub paste_sets : (text part : List ℕ) (len : ℕ) → len ≤ length text → paste text len part (fitting_bytes text len part) ≡ sets text len part
unfolding fitting_bytes
paste_sets text part len h =
    let n = min (length part) (length text - len) in
    let a = take n part in
    let l : length a ≡ n = length-take-le n part (omega arith) in
    ap (λ (x : ℕ). take len text ++ a ++ drop (len + x) text) (sym l)
    ∙ sym (sets-eq a text len (omega arith))
    ∙ ⊎_elim (λ k. let e : length part ≤ n = omega arith in ap (sets (sets text len a) (len + length a)) (sym (drop_of_length-le part e)))
    (λ k. sym (sets_out (drop n part) (sets text len a) (len + length a) (omega (arith, length-sets text len a))))
    (le_or (length part) (length text - len))
    ∙ sets_sets text a (drop n part) len
    ∙ ap (sets text len) (take-append-drop n part)

-- a part of the bytes read is cut off and kept: what is held then, with the bytes that follow, is what is held after all of them
pub held_cut : (bytes text : List ℕ) (at len m end next : ℕ) → at < length bytes → len ≤ length text → (end, next) ≡ cut_of at m (drop at bytes)
    → held_after (held_case text len m) (drop at bytes)
    ≡ held_after (held_case (paste text len (take (end - at) (drop at bytes)) (fitting_bytes text len (take (end - at) (drop at bytes))))
    (len_after next (len + fitting_bytes text len (take (end - at) (drop at bytes)))) next) (drop end bytes)
held_cut bytes text at len m end next h l e =
    let t = drop at bytes in
    let low : at ≤ end = omega (arith, cut_low t at m, ap (λ (p : ℕ × ℕ). p.0) e) in
    let part = take (end - at) t in
    let left : drop (end - at) t ≡ drop end bytes =
    drop-drop (end - at) at bytes ∙ (let f : at + (end - at) ≡ end = omega arith in ap (λ (n : ℕ). drop n bytes) f) in
    cut_all t at text len m l (omega (arith, length-drop at bytes))
    ∙ ap (λ (p : ℕ × ℕ). held_after (kept_with (held_case text len m) (take (p.0 - at) t) p.1) (drop (p.0 - at) t)) (sym e)
    ∙ ap (λ (x : List ℕ). held_after (held_case x (len_after next (len + fitting_bytes text len part)) next) (drop (end - at) t)) (sym (paste_sets text part len l))
    ∙ ap (held_after (held_case (paste text len part (fitting_bytes text len part)) (len_after next (len + fitting_bytes text len part)) next)) left
