-- The code goes through the lines by number and the definition through the lines themselves: both are one test. Assumes nothing.
--     every_numbered     a test of each element's number is one of the element
use Rattle.std.specs.Prelude.{◌≡◌, refl, Bool, ◌&&◌, List, [], ◌∷◌, ℕ, suc, ◌+◌, ◌<◌, length, get_or}
use Rattle.std.proofs.Common.{arith}
use Rattle.general_laws.specs.Lists.{tabulate, every}

pub every_numbered : {A : Type 0} (p : ℕ → Bool) (q : A → Bool) (d : A) (xs : List A) (a : ℕ) → ((i j : ℕ) → i < length xs → j ≡ a + i → p j ≡ q (get_or xs i d))
    → every p (tabulate (λ i. i) a (length xs)) ≡ every q xs
every_numbered p q d [] a h = refl
every_numbered p q d (x ∷ xs) a h =
    λ k. h 0 a (omega arith) (omega arith) k && every_numbered p q d xs (suc a) (λ i j l e. h (suc i) j (omega arith) (omega arith)) k
