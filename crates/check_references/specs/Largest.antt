-- Every number is below m: there is none, or the largest is; and two tests that agree line by line. Assumes nothing.
use Rattle.std.specs.Prelude.{◌≡◌, refl, Bool, true, false, ◌&&◌, ◌||◌, List, [], ◌∷◌, map, ℕ, zero, suc, ◌<◌, max, ltb, eqb, length}
use Rattle.std.proofs.Common.{sym, ap, ◌∙◌, arith, ltb-true, ltb-false, lt-ltb, le-ltb}
use Rattle.std.proofs.Math.Dec.{eqb-suc-zero}
use Rattle.general_laws.specs.Lists.{every}
use Rattle.func.specs.Adds.{largest}
use Rattle.func.specs.Lines.{RowsEach, none, more}
use Rattle.func.specs.Keep.{one_word}

pub every_each : {A : Type 0} {P : List ℕ → A → Type 0} (p : List ℕ → Bool) (q : A → Bool) → ((e : List ℕ) (a : A) → P e a → p e ≡ q a) → {es : List (List ℕ)} {xs : List A} → RowsEach P es xs
    → every p es ≡ every q xs
every_each p q h none = refl
every_each p q h (more {e = e} {a = a} r rs) = λ i. h e a r i && every_each p q h rs i

-- Every number is below m.
ltb_max : (a b m : ℕ) → (ltb a m && ltb b m) ≡ ltb (max a b) m
ltb_max a b m = go (ltb a m) (ltb b m) refl refl
  where
    go : (x y : Bool) → ltb a m ≡ x → ltb b m ≡ y → (ltb a m && ltb b m) ≡ ltb (max a b) m
    go true true p q = rw (p, q) (sym (lt-ltb (max a b) m (omega (arith, ltb-true a m p, ltb-true b m q))))
    go true false p q = rw (p, q) (sym (le-ltb (max a b) m (omega (arith, ltb-false b m q))))
    go false y p q = rw p (sym (le-ltb (max a b) m (omega (arith, ltb-false a m p))))

module _ {A : Type 0} (f : A → ℕ) where
  all_below : (xs : List A) (m : ℕ) → 0 < m → every (λ a. ltb (f a) m) xs ≡ ltb (largest (map (λ a. one_word (f a)) xs)) m
  all_below [] m h = sym (lt-ltb 0 m h)
  all_below (x ∷ xs) m h = ap (λ (b : Bool). ltb (f x) m && b) (all_below xs m h) ∙ ltb_max (f x) (largest (map (λ a. one_word (f a)) xs)) m

  pub below_largest : (xs : List A) (m : ℕ) → every (λ a. ltb (f a) m) xs ≡ (eqb (length xs) 0 || ltb (largest (map (λ a. one_word (f a)) xs)) m)
  below_largest [] m = refl
  below_largest (x ∷ xs) zero = rw (le-ltb (f x) 0 (omega arith), eqb-suc-zero (length xs)) (sym (le-ltb (largest (map (λ a. one_word (f a)) (x ∷ xs))) 0 (omega arith)))
  below_largest (x ∷ xs) (suc m) = rw (eqb-suc-zero (length xs)) (all_below (x ∷ xs) (suc m) (omega arith))
