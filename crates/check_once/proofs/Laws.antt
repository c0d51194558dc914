-- What the proofs of this crate cite, over plain variables. Assumes nothing.
use mathlib.Core.Path.{◌≡◌, refl, sym, ap, ◌∙◌}
use mathlib.Core.Bool.{Bool, true, false}
use mathlib.Core.List.{List, ◌∷◌, ◌++◌}
use Prim.Native.Nat.{ℕ, zero, suc, ◌+◌, ◌-◌, ◌≤◌, ◌<◌}
use native.Mathlib.Omega.{arith}
use lib.ListN.{length, get_or, set}
use borrow.Author.Tests.{eq-eqb, lt-ltb}
use Rattle.general_laws.specs.Lists.{distinct}
use Rattle.func.specs.Layout.{child_refs, regions, ctrls}
use Rattle.func.specs.Store.{count}
use Rattle.func.specs.Tables.{word}
use Rattle.check_marks.specs.Once.{Below}
use Rattle.check_marks.specs.Test.{pool_numbers, refs, once_test, child_fit, child_test, Refs}
use Rattle.check_marks.specs.Marks.{ClearBelow, fresh_marks, fresh_clear, fresh_zero, fresh_hit, fresh_next, numbers_next, numbers_done}

-- the numbers of a pool name lines
numbers_below : (k : ℕ) (w : List ℕ) (m a n : ℕ) → ((i : ℕ) → a ≤ i → i < a + n → word k w i 0 < m) → Below m (pool_numbers k w a n)
unfolding pool_numbers
numbers_below k w m a zero h = refl
numbers_below k w m a (suc n) h = rw (lt-ltb (word k w a 0) m (h a (omega arith) (omega arith))) (numbers_below k w m (suc a) n (λ i l b. h i (omega arith) (omega arith)))

module _ (k p : ℕ) (w : List ℕ) (n : ℕ) (s : Refs k p w) (h : count k w ≤ count p w) (e : n ≡ count k w) where
  refs_below : Below (count p w) (pool_numbers k w 0 n)
  refs_below = numbers_below k w (count p w) 0 n (λ i a b. s.named (omega (arith, s.low)) i (omega arith))

  same_refs : pool_numbers k w 0 n ≡ refs k w
  same_refs = ap (pool_numbers k w 0) e

  pub fresh_refs : (u : List ℕ) → count p w ≤ length u → ClearBelow (count p w) u → fresh_marks (pool_numbers k w 0 n) u ≡ distinct (refs k w)
  fresh_refs u g c = fresh_clear (count p w) (pool_numbers k w 0 n) u refs_below g c ∙ ap distinct same_refs

  pub fresh_refs_zero : (u : List ℕ) → count p w ≤ length u → 0 < length u → ClearBelow (count p w) u → fresh_marks (pool_numbers k w 0 n) (set u 0 1) ≡ distinct (0 ∷ refs k w)
  fresh_refs_zero u g z c = fresh_zero (count p w) (pool_numbers k w 0 n) u refs_below g z c ∙ ap (λ (l : List ℕ). distinct (0 ∷ l)) same_refs

-- each line stands once
pub once_is : (k p : ℕ) (w : List ℕ) (b : Bool) → count k w ≡ count p w → b ≡ distinct (refs k w) → b ≡ once_test k p w
once_is k p w b h e = rw (eq-eqb (count k w) (count p w) h) e

module _ (w : List ℕ) (n c k : ℕ) (e : n ≡ count regions w) (f : c ≡ count child_refs w) (g : k ≡ count ctrls w) where
  fit_same : child_fit n c k ≡ child_fit (count regions w) (count child_refs w) (count ctrls w)
  fit_same = ap (λ (z : ℕ). child_fit z c k) e ∙ ap (λ (z : ℕ). child_fit (count regions w) z k) f ∙ ap (child_fit (count regions w) (count child_refs w)) g

  pub child_is : (b : Bool) → child_fit n c k ≡ true → b ≡ distinct (0 ∷ refs child_refs w) → b ≡ child_test w
  child_is b q d = rw (sym fit_same ∙ q) d

-- the loops over the nodes and their children
module _ (w : List ℕ) where
  pub children_done : (a m i : ℕ) (r u : List ℕ) → m ≤ i → fresh_marks (pool_numbers child_refs w a (m - i) ++ r) u ≡ fresh_marks r u
  children_done a m i r u h = ap (λ (l : List ℕ). fresh_marks (l ++ r) u) (numbers_done child_refs w a i m h)

  module _ (a b i m x : ℕ) (r u : List ℕ) (h : i < m) (q : b ≡ a + 1) (e : x ≡ word child_refs w a 0) where
    pub child_hit : get_or u x 0 ≡ 1 → fresh_marks (pool_numbers child_refs w a (m - i) ++ r) u ≡ false
    child_hit z =
        ap (λ (l : List ℕ). fresh_marks (l ++ r) u) (numbers_next child_refs w a b i m h q)
        ∙ fresh_hit (word child_refs w a 0) (pool_numbers child_refs w b (m - (i + 1)) ++ r) u (ap (λ (y : ℕ). get_or u y 0) (sym e) ∙ z)

    pub child_next : (get_or u x 0 ≡ 1 → ⊥) → fresh_marks (pool_numbers child_refs w a (m - i) ++ r) u ≡ fresh_marks (pool_numbers child_refs w b (m - (i + 1)) ++ r) (set u x 1)
    child_next z =
        ap (λ (l : List ℕ). fresh_marks (l ++ r) u) (numbers_next child_refs w a b i m h q)
        ∙ fresh_next (word child_refs w a 0) (pool_numbers child_refs w b (m - (i + 1)) ++ r) u (λ v. z (ap (λ (y : ℕ). get_or u y 0) e ∙ v))
        ∙ ap (λ (y : ℕ). fresh_marks (pool_numbers child_refs w b (m - (i + 1)) ++ r) (set u y 1)) (sym e)
