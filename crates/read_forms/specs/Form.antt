-- A form as a part of the text: what stands between an opening bracket and the one that closes it. Assumes nothing.
--     form_at        the part between the bracket at a place and the one that closes it
--     span_sound    the part and its bracket stand there
use Rattle.std.specs.Prelude.{◌≡◌, refl, List, [], ◌∷◌, ◌++◌, Bool, true, false, ℕ, suc, ◌+◌, ◌-◌, ◌≤◌, eqb, take, drop}
use Rattle.std.proofs.Common.{ap, subst, arith, eqb-true}
use Rattle.std.proofs.lemmas.Bool.{false≢true}
use Rattle.std.proofs.Math.Option.{Option, none, some, some-injective, none-ne-some}

-- how many brackets are open after a byte
unfoldable pub deeper : ℕ → ℕ → ℕ
deeper b d = elim (eqb b 40) [ true ↦ d + 1 | false ↦ elim (eqb b 41) [ true ↦ d - 1 | false ↦ d ] ]

-- the byte closes the form
unfoldable pub closes : ℕ → ℕ → Bool
closes b d = elim (eqb b 41) [ true ↦ eqb d 0 | false ↦ false ]

-- how many bytes stand before the bracket that closes the form, after n bytes with d brackets open
unfoldable pub form_span : ℕ → ℕ → List ℕ → Option ℕ
form_span n d [] = none
form_span n d (b ∷ t) = elim (closes b d) [ true ↦ some n | false ↦ form_span (n + 1) (deeper b d) t ]

abbrev pub form_first : List ℕ → Option ℕ → List ℕ
form_first t none = []
form_first t (some n) = take n t

-- what stands between the bracket at a place and the one that closes it: nothing where none does
unfoldable pub form_at : List ℕ → ℕ → List ℕ
form_at text at = form_first (drop (at + 1) text) (form_span 0 0 (drop (at + 1) text))

closes_bracket : (b d : ℕ) → closes b d ≡ true → b ≡ 41
unfolding closes
closes_bracket b d e = go (eqb b 41) refl e
  where
    go : (q : Bool) → eqb b 41 ≡ q → elim q as (λ x. Bool) [ true ↦ eqb d 0 | false ↦ false ] ≡ true → b ≡ 41
    go true h e = eqb-true b 41 h
    go false h e = absurd (false≢true e)

-- the first m bytes, a closing bracket, and the rest
abbrev Split : List ℕ → ℕ → Type 0
Split l m = l ≡ take m l ++ (41 ∷ drop (m + 1) l)

span_from : (l : List ℕ) (n d m : ℕ) → form_span n d l ≡ some m → (n ≤ m) × Split l (m - n)
unfolding form_span
span_from [] n d m e = absurd (none-ne-some _ e)
span_from (b ∷ t) n d m e = go (span_from t (n + 1) (deeper b d) m) (closes b d) refl e
  where
    go : (form_span (n + 1) (deeper b d) t ≡ some m → (n + 1 ≤ m) × Split t (m - (n + 1))) → (q : Bool) → closes b d ≡ q
        → elim q as (λ x. Option ℕ) [ true ↦ some n | false ↦ form_span (n + 1) (deeper b d) t ] ≡ some m → (n ≤ m) × Split (b ∷ t) (m - n)
    go ih true h e =
        let i = some-injective n m e in
        let z : 0 ≡ m - n = omega arith in
        (omega arith, subst (Split (b ∷ t)) z (ap (λ (x : ℕ). x ∷ t) (closes_bracket b d h)))
    go ih false h e =
        let r = ih e in
        let k : ℕ = m - (n + 1) in
        let z : suc k ≡ m - n = omega (arith, r.0) in
        let y : suc (k + 1) ≡ suc k + 1 = omega arith in
        let s : b ∷ t ≡ b ∷ (take k t ++ (41 ∷ drop (suc (k + 1)) (b ∷ t))) = ap (λ (l : List ℕ). b ∷ l) r.1 in
        (omega (arith, r.0), subst (Split (b ∷ t)) z (rw y at s))

-- the part and its bracket stand there
pub span_sound : (l : List ℕ) (m : ℕ) → form_span 0 0 l ≡ some m → Split l m
span_sound l m e = let z : m - 0 ≡ m = omega arith in subst (Split l) z (span_from l 0 0 m e).1
