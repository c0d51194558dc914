-- Numbers of the text, 'written in base ten without leading zeros' and fitting 32 bits: printed, and read from the front of a list of
-- bytes. Assumes nothing.
-- To believe: `word_bound`, and `digits` with `digits_to`. The reader, `number`, is held to them by the two laws of proofs/Digits.antt.
use Rattle.std.specs.Prelude.{◌≡◌, refl, List, [], ◌∷◌, ◌++◌, Bool, true, false, ℕ, zero, suc, ◌+◌, ◌-◌, ◌*◌, ◌/◌, ◌%◌, ◌^◌, ◌<◌, ltb, leb}
use Rattle.std.proofs.Common.{ap, ◌∙◌, pow-suc, arith, lt-ltb, le-ltb}
use Rattle.std.proofs.Math.Option.{Option, none, some, none-ne-some}

-- 'Numbers .. fit 32 bits': each is below this
abbrev pub word_bound : ℕ
word_bound = 4294967296

abbrev pub in_word : ℕ → Bool
in_word n = ltb n word_bound

-- a byte that is a digit
abbrev pub digit : ℕ → Bool
digit b = elim (leb 48 b) [ true ↦ leb b 57 | false ↦ false ]

-- the digits of a number below 10 ^ k
unfoldable pub digits_to : ℕ → ℕ → List ℕ
digits_to zero n = []
digits_to (suc k) n = elim (ltb n 10) [ true ↦ (48 + n) ∷ [] | false ↦ digits_to k (n / 10) ++ ((48 + n % 10) ∷ []) ]

-- the digits of a number below the bound: ten are enough
unfoldable pub digits : ℕ → List ℕ
digits n = digits_to 10 n

-- what reading from the front gives: a value and the rest of the text
abbrev pub Reading : Type 0 → Type 0
Reading A = Option (A × List ℕ)

-- a number whose digits so far have the value v
unfoldable pub number_from : ℕ → List ℕ → Reading ℕ
number_from v [] = some (v, [])
number_from v (b ∷ t) =
    elim (digit b) [
      | true ↦ elim (in_word (v * 10 + (b - 48))) [ true ↦ number_from (v * 10 + (b - 48)) t | false ↦ none ]
      | false ↦ some (v, b ∷ t)
    ]

-- a number: a 0 alone, or digits that begin with another
unfoldable pub number : List ℕ → Reading ℕ
number [] = none
number (b ∷ t) =
    elim (digit b) [ true ↦ elim (ltb 48 b) [ true ↦ number_from (b - 48) t | false ↦ some (0, t) ] | false ↦ none ]

unfoldable pub digit_next : List ℕ → Bool
digit_next [] = false
digit_next (b ∷ t) = digit b

-- a number ends here: what stands next is no digit
abbrev pub Stop : List ℕ → Type 0
Stop t = digit_next t ≡ false

-- what came through a test that refuses
pub guard_some : {A : Type 0} (q : Bool) (o : Option A) (a : A) → elim q as (λ x. Option A) [ true ↦ o | false ↦ none ] ≡ some a → (q ≡ true) × (o ≡ some a)
guard_some true o a e = (refl, e)
guard_some false o a e = absurd (none-ne-some _ e)

-- a number's digits are those of its tenth and one more
digits_to_more : (k v d : ℕ) → 0 < v → d < 10 → digits_to (suc k) (v * 10 + d) ≡ digits_to k v ++ ((48 + d) ∷ [])
unfolding digits_to
digits_to_more k v d p h =
    let q : (v * 10 + d) / 10 ≡ v = omega arith in
    let m : (v * 10 + d) % 10 ≡ d = omega arith in
    rw (le-ltb (v * 10 + d) 10 (omega arith), digits_to) (rw (q, m) refl)

digits_to_fuel : (k n : ℕ) → n < 10 ^ suc k → digits_to (suc k) n ≡ digits_to (suc (suc k)) n
unfolding digits_to
digits_to_fuel zero n h = rw (lt-ltb n 10 (omega arith), digits_to)
digits_to_fuel (suc k) n h =
    go (digits_to_fuel k (n / 10) (omega (arith, pow-suc 10 (suc k)))) (ltb n 10) refl
  where
    go : digits_to (suc k) (n / 10) ≡ digits_to (suc (suc k)) (n / 10) → (q : Bool) → ltb n 10 ≡ q → digits_to (suc (suc k)) n ≡ digits_to (suc (suc (suc k))) n
    go ih true e = rw (e, digits_to)
    go ih false e = rw (e, digits_to) (ap (λ (l : List ℕ). l ++ ((48 + n % 10) ∷ [])) ih)

pub digits_more : (v d : ℕ) → 0 < v → d < 10 → v * 10 + d < word_bound → digits (v * 10 + d) ≡ digits v ++ ((48 + d) ∷ [])
unfolding digits
digits_more v d p h b =
    digits_to_more 9 v d p h ∙ ap (λ (l : List ℕ). l ++ ((48 + d) ∷ [])) (digits_to_fuel 8 v (omega arith))
