-- A list in which nothing stands twice is no longer than any list that holds all of it. Assumes nothing.
--     fewer           of any two such lists
--     fewer_below     of numbers below n
--     fits            the same, by the tests of a list
use Rattle.std.specs.Prelude.{◌≡◌, refl, true, List, [], ◌∷◌, ◌⊎◌, ℕ, suc, ◌≤◌, ◌<◌, ltb, length}
use Rattle.std.proofs.Common.{sym, subst, inl, inr, arith, ltb-true}
use Rattle.std.proofs.Math.Decide.{ℕ_discrete}
use Rattle.general_laws.specs.Lists.{choose, below, every, distinct}
use Rattle.general_laws.specs.Members.{In, here, there, in_nil, in_cases, in_tabulate, length_tabulate, All, all_in, NoDup}
use Rattle.general_laws.specs.Tests.{distinct_once, every_all}

-- the list without the first x
unfoldable pub less : ℕ → List ℕ → List ℕ
less x [] = []
less x (y ∷ l) = choose (ℕ_discrete x y) l (y ∷ less x l)

length_less : (x : ℕ) (l : List ℕ) → In x l → suc (length (less x l)) ≡ length l
unfolding less
length_less x [] i = absurd (in_nil i)
length_less x (y ∷ l) i = by_case (length_less x l) (ℕ_discrete x y) (in_cases i)
  where
    by_case : (In x l → suc (length (less x l)) ≡ length l) → (d : Dec (x ≡ y)) → (x ≡ y) ⊎ In x l → suc (length (choose d l (y ∷ less x l))) ≡ suc (length l)
    by_case h (yes e) c = refl
    by_case h (no n) (inl e) = absurd (n e)
    by_case h (no n) (inr j) = omega (arith, h j)

in_less : (x z : ℕ) (l : List ℕ) → In z l → ¬ (z ≡ x) → In z (less x l)
unfolding less
in_less x z [] i n = absurd (in_nil i)
in_less x z (y ∷ l) i n = by_case (λ j. in_less x z l j n) (ℕ_discrete x y) (in_cases i)
  where
    by_case : (In z l → In z (less x l)) → (d : Dec (x ≡ y)) → (z ≡ y) ⊎ In z l → In z (choose d l (y ∷ less x l))
    by_case h (yes e) (inl f) = absurd (n (subst (λ (u : ℕ). z ≡ u) (sym e) f))
    by_case h (yes e) (inr j) = j
    by_case h (no e) (inl f) = subst (λ (u : ℕ). In z (u ∷ less x l)) f here
    by_case h (no e) (inr j) = there (h j)

pub fewer : (k l : List ℕ) → NoDup k → ((x : ℕ) → In x k → In x l) → length k ≤ length l
fewer [] l n h = omega arith
fewer (x ∷ k) l n h =
    let i : In x l = h x here in
    let r = fewer k (less x l) n.1 (λ z j. in_less x z l (h z (there j)) (λ e. n.0 (subst (λ (u : ℕ). In u k) e j))) in
    omega (arith, length_less x l i)

pub fewer_below : (n : ℕ) (l : List ℕ) → NoDup l → All (λ i. i < n) l → length l ≤ n
fewer_below n l u h =
    let low : (x : ℕ) → In x l → x < n = all_in (λ x. x < n) l h in
    let r = fewer l (below n) u (λ x i. let b = low x i in in_tabulate (λ j. j) 0 n x (omega arith) (omega arith)) in
    omega (arith, length_tabulate (λ i. i) 0 n)

pub fits : (n : ℕ) (l : List ℕ) → every (λ x. ltb x n) l ≡ true → distinct l ≡ true → length l ≤ n
fits n l b d = fewer_below n l (distinct_once l d) (every_all (λ x. ltb x n) (λ x. x < n) (λ x t. ltb-true x n t) l b)
