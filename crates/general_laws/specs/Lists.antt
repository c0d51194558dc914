-- Functions on lists that the definitions share. Assumes nothing.
use Rattle.std.specs.Prelude.{◌≡◌, refl, Bool, true, false, not, ◌&&◌, List, [], ◌∷◌, ◌++◌, ℕ, zero, suc, ◌+◌}
use Rattle.std.proofs.Math.Option.{Option, none, some}
use Rattle.std.proofs.Math.Decide.{ℕ_discrete}

-- one thing or the other, by a decision
abbrev pub choose : {P A : Type 0} → Dec P → A → A → A
choose (yes p) a b = a
choose (no q) a b = b

pub choose_yes : {P A : Type 0} (d : Dec P) (a b : A) → P → choose d a b ≡ a
choose_yes (yes p) a b h = refl
choose_yes (no q) a b h = absurd (q h)

pub choose_no : {P A : Type 0} (d : Dec P) (a b : A) → ¬ P → choose d a b ≡ b
choose_no (yes p) a b h = absurd (h p)
choose_no (no q) a b h = refl

-- f k, f (k + 1), .. , n of them
abbrev pub tabulate : {A : Type 0} → (ℕ → A) → ℕ → ℕ → List A
tabulate f k zero = []
tabulate f k (suc n) = f k ∷ tabulate f (suc k) n

-- the numbers below n
abbrev pub below : ℕ → List ℕ
below n = tabulate (λ i. i) 0 n

-- the test passes at each element
abbrev pub every : {A : Type 0} → (A → Bool) → List A → Bool
every p [] = true
every p (x ∷ l) = p x && every p l

-- what each element gives, one after the other
abbrev pub gather : {A B : Type 0} → (A → List B) → List A → List B
gather f [] = []
gather f (x ∷ l) = f x ++ gather f l

-- x is an element
abbrev pub member : {A : Type 0} → ((x y : A) → Dec (x ≡ y)) → A → List A → Bool
member eq x [] = false
member eq x (y ∷ l) = choose (eq x y) true (member eq x l)

abbrev pub within : ℕ → List ℕ → Bool
within = member ℕ_discrete

-- how often x stands in a list
abbrev pub times : {A : Type 0} → ((x y : A) → Dec (x ≡ y)) → A → List A → ℕ
times eq x [] = 0
times eq x (y ∷ l) = choose (eq x y) 1 0 + times eq x l

-- no number stands twice
abbrev pub distinct : List ℕ → Bool
distinct [] = true
distinct (x ∷ l) = not (within x l) && distinct l

-- the first entry of a key
abbrev pub find : {K A : Type 0} → ((x y : K) → Dec (x ≡ y)) → K → List (K × A) → Option A
find eq k [] = none
find eq k (x ∷ l) = choose (eq k x.0) (some x.1) (find eq k l)

-- the keys of a list of entries
abbrev pub keys : {K A : Type 0} → List (K × A) → List K
keys [] = []
keys (x ∷ l) = x.0 ∷ keys l
