-- The two laws of numbers. Assumes nothing.
--     number_sound     what is read is what stands there, printed, and is below the bound
--     number_full      a number below the bound that is printed before anything but a digit is read
use Rattle.std.specs.Prelude.{◌≡◌, refl, List, [], ◌∷◌, ◌++◌, Bool, true, false, ℕ, zero, suc, ◌+◌, ◌-◌, ◌*◌, ◌/◌, ◌%◌, ◌^◌, ◌≤◌, ◌<◌, ltb, leb}
use Rattle.std.proofs.Common.{ap, subst, ◌∙◌, append_assoc, pow-suc, arith, ltb-true, ltb-false, leb-true, lt-ltb, le-leb}
use Rattle.std.proofs.lemmas.Bool.{false≢true}
use Rattle.std.proofs.Math.Option.{none, some, some-injective, none-ne-some}
use Rattle.lifting.specs.Digits.{word_bound, in_word, digit, digits_to, digits, Reading, number_from, number, digit_next, Stop, guard_some, digits_more}

digit_of : (d : ℕ) → d < 10 → digit (48 + d) ≡ true
digit_of d h = rw (le-leb 48 (48 + d) (omega arith), digit) (le-leb (48 + d) _ (omega arith))

digit_is : (b : ℕ) → digit b ≡ true → (48 ≤ b) × (b ≤ 57)
digit_is b e = go (leb 48 b) refl e
  where
    go : (q : Bool) → leb 48 b ≡ q → elim q as (λ x. Bool) [ true ↦ leb b 57 | false ↦ false ] ≡ true → (48 ≤ b) × (b ≤ 57)
    go true h e = (leb-true 48 b h, leb-true b _ e)
    go false h e = absurd (false≢true e)

digits_one : (d : ℕ) → d < 10 → digits d ≡ (48 + d) ∷ []
unfolding digits digits_to
digits_one d h = rw (lt-ltb d 10 h, digits_to)

-- what is read is what stands there, printed
abbrev Stands : List ℕ → ℕ × List ℕ → Type 0
Stands t x = (t ≡ digits x.0 ++ x.1) × (x.0 < word_bound)

number_from_sound : (v : ℕ) → 0 < v → v < word_bound → (t : List ℕ) (x : ℕ × List ℕ) → number_from v t ≡ some x → Stands (digits v ++ t) x
unfolding number_from
number_from_sound v p b [] x e = subst (Stands (digits v ++ [])) (some-injective _ x e) (refl, b)
number_from_sound v p b (c ∷ t) x e =
    go (λ p b. number_from_sound (v * 10 + (c - 48)) p b t x) (digit c) refl e
  where
    w : ℕ
    w = v * 10 + (c - 48)

    go : (0 < w → w < word_bound → number_from w t ≡ some x → Stands (digits w ++ t) x) → (q : Bool) → digit c ≡ q
        → elim q as (λ x. Reading ℕ) [ true ↦ elim (in_word w) [ true ↦ number_from w t | false ↦ none ] | false ↦ some (v, c ∷ t) ] ≡ some x
        → Stands (digits v ++ (c ∷ t)) x
    go ih true d e =
        let i = digit_is c d in
        let g = guard_some (in_word w) (number_from w t) x e in
        let b = ltb-true w word_bound g.0 in
        let s : 48 + (c - 48) ≡ c = omega arith in
        let m : digits w ++ t ≡ digits v ++ (c ∷ t) = rw (digits_more v (c - 48) p (omega arith) b, append_assoc, s) refl in
        rw m at (ih (omega arith) b g.1)
    go ih false d e = subst (Stands (digits v ++ (c ∷ t))) (some-injective _ x e) (refl, b)

pub number_sound : (t : List ℕ) (x : ℕ × List ℕ) → number t ≡ some x → (t ≡ digits x.0 ++ x.1) × (x.0 < word_bound)
unfolding number
number_sound [] x e = absurd (none-ne-some _ e)
number_sound (c ∷ t) x e =
    let g = guard_some (digit c) (elim (ltb 48 c) as (λ x. Reading ℕ) [ true ↦ number_from (c - 48) t | false ↦ some (0, t) ]) x e in
    go (digit_is c g.0) (ltb 48 c) refl g.1
  where
    front : digits (c - 48) ≡ (48 + (c - 48)) ∷ [] → 48 + (c - 48) ≡ c → digits (c - 48) ++ t ≡ c ∷ t
    front e s = rw (e, s) refl

    go : (48 ≤ c) × (c ≤ 57) → (q : Bool) → ltb 48 c ≡ q → elim q as (λ x. Reading ℕ) [ true ↦ number_from (c - 48) t | false ↦ some (0, t) ] ≡ some x → Stands (c ∷ t) x
    go i true h e =
        let l = ltb-true 48 c h in
        rw (front (digits_one (c - 48) (omega arith)) (omega arith)) at (number_from_sound (c - 48) (omega arith) (omega arith) t x e)
    go i false h e =
        let l = ltb-false 48 c h in
        let s : 48 ≡ c = omega arith in
        subst (Stands (c ∷ t)) (some-injective _ x e) (rw (digits_one 0 (omega arith), s) refl, omega arith)

-- a number that is printed is read
number_from_step : (v d : ℕ) (t : List ℕ) → d < 10 → v * 10 + d < word_bound → number_from v ((48 + d) ∷ t) ≡ number_from (v * 10 + d) t
unfolding number_from
number_from_step v d t h b =
    let s : 48 + d - 48 ≡ d = omega arith in
    rw (digit_of d h, number_from) (rw s (rw (lt-ltb (v * 10 + d) word_bound b) (ap (λ (k : ℕ). number_from (v * 10 + k) t) s)))

number_one : (n : ℕ) → 0 < n → n < 10 → (t : List ℕ) → number ((48 + n) ∷ t) ≡ number_from n t
unfolding number
number_one n z h t =
    rw (digit_of n h, number) (rw (lt-ltb 48 (48 + n) (omega arith)) (let s : 48 + n - 48 ≡ n = omega arith in ap (λ (k : ℕ). number_from k t) s))

number_step : (k n : ℕ) → n < 10 ^ k → 0 < n → n < word_bound → (t : List ℕ) → number (digits_to k n ++ t) ≡ number_from n t
unfolding digits_to
number_step zero n p z b t = absurd (omega arith)
number_step (suc k) n p z b t =
    go (number_step k (n / 10)) (ltb n 10) refl
  where
    go : (n / 10 < 10 ^ k → 0 < n / 10 → n / 10 < word_bound → (t : List ℕ) → number (digits_to k (n / 10) ++ t) ≡ number_from (n / 10) t) → (q : Bool) → ltb n 10 ≡ q
        → number (digits_to (suc k) n ++ t) ≡ number_from n t
    go ih true e = rw (e, digits_to) (number_one n z (ltb-true n 10 e) t)
    go ih false e =
        let l = ltb-false n 10 e in
        let w : n / 10 * 10 + n % 10 ≡ n = omega arith in
        rw (e, digits_to)
        (ap number (append_assoc (digits_to k (n / 10)) ((48 + n % 10) ∷ []) t)
        ∙ ih (omega (arith, pow-suc 10 k)) (omega arith) (omega arith) ((48 + n % 10) ∷ t)
        ∙ number_from_step (n / 10) (n % 10) t (omega arith) (omega arith)
        ∙ ap (λ (k : ℕ). number_from k t) w)

number_from_stop : (n : ℕ) (r : List ℕ) → Stop r → number_from n r ≡ some (n, r)
unfolding number_from digit_next
number_from_stop n [] h = refl
number_from_stop n (c ∷ r) h = rw (h, number_from)

pub number_full : (n : ℕ) → n < word_bound → (r : List ℕ) → Stop r → number (digits n ++ r) ≡ some (n, r)
unfolding digits digits_to number
number_full zero b r h = refl
number_full (suc n) b r h = number_step 10 (suc n) (omega arith) (omega arith) b r ∙ number_from_stop (suc n) r h
