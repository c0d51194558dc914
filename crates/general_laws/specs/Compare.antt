-- A choice by a comparison of two numbers. Assumes nothing.
use Rattle.std.specs.Prelude.{◌≡◌, refl, Bool, true, false, cond, ℕ, ◌≤◌, ◌<◌, ltb}
use Rattle.std.proofs.Common.{ap, ltb-true, ltb-false, lt-ltb, le-ltb}

module _ {A : Type 0} (a b : ℕ) (x y : A) where
  pub lower : a < b → cond (ltb a b) x y ≡ x
  lower h = ap (λ (t : Bool). cond t x y) (lt-ltb a b h)

  pub higher : b ≤ a → cond (ltb a b) x y ≡ y
  higher h = ap (λ (t : Bool). cond t x y) (le-ltb a b h)

  pub either : {z : A} → (a < b → z ≡ x) → (b ≤ a → z ≡ y) → z ≡ cond (ltb a b) x y
  either {z} f g = go (ltb a b) (λ e. f (ltb-true a b e)) (λ e. g (ltb-false a b e))
    where
      go : (t : Bool) → (t ≡ true → z ≡ x) → (t ≡ false → z ≡ y) → z ≡ cond t x y
      go true f g = f refl
      go false f g = g refl
