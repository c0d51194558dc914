-- What the proofs of this crate cite, over plain variables.
--     ins-..      a region's inputs
use mathlib.Core.Path.{◌≡◌, refl, sym, ap, ◌∙◌}
use mathlib.Core.Bool.{Bool, true, false, cond, ◌&&◌}
use mathlib.Core.List.{List}
use Prim.Native.Nat.{ℕ, ◌%◌, ◌≤◌, ◌<◌}
use native.Mathlib.Omega.{arith}
use lib.Dec.{leb, ltb}
use borrow.Author.Tests.{ltb-true, ltb-false, leb-true, leb-false, le-ltb, lt-leb}
use Rattle.lifting.specs.Limits.{max_regions}
use Rattle.func.specs.Layout.{regions}
use Rattle.func.specs.Store.{count}
use Rattle.func.specs.Tables.{word}
use Rattle.check_edges.specs.Edges.{ins_of}

-- a region's inputs
and_no : (a : Bool) → (a && false) ≡ false
and_no true = refl
and_no false = refl

module _ (w : List ℕ) (r : ℕ) where
  pub ins_many : max_regions < count regions w → 0 ≡ ins_of w r
  unfolding ins_of
  ins_many h = sym (ap (λ (b : Bool). cond (b && ltb r (count regions w)) (word regions w r 0 % 4096) 0) (lt-leb (count regions w) max_regions h))

  pub ins_other : count regions w ≤ r → 0 ≡ ins_of w r
  unfolding ins_of
  ins_other h =
      sym
      (ap (λ (b : Bool). cond (leb (count regions w) max_regions && b) (word regions w r 0 % 4096) 0) (le-ltb r (count regions w) h)
      ∙ ap (λ (b : Bool). cond b (word regions w r 0 % 4096) 0) (and_no (leb (count regions w) max_regions)))

  -- so a region with inputs is one of few, and they are few
  pub ins_low : (ins_of w r ≡ 0 → ⊥) → r < max_regions
  unfolding ins_of
  ins_low n = by_test (leb (count regions w) max_regions) (ltb r (count regions w)) refl refl
    where
      by_test : (a b : Bool) → leb (count regions w) max_regions ≡ a → ltb r (count regions w) ≡ b → r < max_regions
      by_test true true e f = omega (arith, leb-true (count regions w) max_regions e, ltb-true r (count regions w) f)
      by_test true false e f = absurd (n (sym (ins_other (ltb-false r (count regions w) f))))
      by_test false b e f = absurd (n (sym (ins_many (leb-false (count regions w) max_regions e))))
