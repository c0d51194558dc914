-- How many children there can be. Assumes nothing.
--     fit_over, fit_low      no more than regions
--     fit_forth, fit_back    where no region is child twice and the first is none: as many as leave no region without a way out
use Rattle.std.specs.Prelude.{◌≡◌, refl, Bool, true, false, not, List, [], ◌∷◌, ℕ, zero, suc, ◌+◌, ◌≤◌, ◌<◌, min, eqb, ltb, length}
use Rattle.std.proofs.Common.{sym, ◌∙◌, arith, eqb-true, eq-eqb, ne_eqb, ltb-true, ltb-false, lt-ltb, le-ltb}
use Rattle.std.proofs.Math.Decide.{ℕ_discrete}
use Rattle.general_laws.specs.Tests.{both, split}
use Rattle.general_laws.specs.Lists.{within, distinct}
use Rattle.lifting.specs.Ast.{ControlInst}
use Rattle.lifting.specs.Tree.{roots_have_ways_out}
use Rattle.general_laws.specs.Fewer.{fits}
use Rattle.check_marks.specs.Once.{Below, all_but_first, roots_back}
use Rattle.check_marks.specs.Test.{child_fit}

pub fit_over : (n c k : ℕ) → n < c → child_fit n c k ≡ false
fit_over n c k h =
    split (ℕ_discrete n 0) (λ e. rw (eq-eqb n 0 e) (ne_eqb c 0 (λ z. omega arith)))
    (λ e.
    split (ℕ_discrete k 0) (λ z. rw (ne_eqb n 0 e, eq-eqb k 0 z) (ne_eqb (c + 1) n (λ y. omega arith)))
    (λ z. rw (ne_eqb n 0 e, ne_eqb k 0 z) (le-ltb c n (omega arith))))

pub fit_low : (n c k : ℕ) → child_fit n c k ≡ true → c ≤ n
fit_low n c k h = go (ltb n c) refl
  where
    go : (b : Bool) → ltb n c ≡ b → c ≤ n
    go false q = ltb-false n c q
    go true q =
        let z : true ≡ false = sym h ∙ fit_over n c k (ltb-true n c q) in
        let y : ◌≡◌ {A = ℕ} 0 1 = cc in
        omega arith

zero_below : (n : ℕ) (xs : List ℕ) → Below (suc n) xs → Below (suc n) (0 ∷ xs)
zero_below n xs b = rw (lt-ltb 0 (suc n) (omega arith)) b

pub fit_forth : (cs : List (ℕ × ControlInst)) (n k : ℕ) (xs : List ℕ) → k ≡ min (length cs) 129 → Below n xs → distinct (0 ∷ xs) ≡ true → roots_have_ways_out cs xs n ≡ true
    → child_fit n (length xs) k ≡ true
fit_forth cs zero k xs e b d h = eq-eqb (length xs) 0 (omega (arith, fits 0 xs b (both (not (within 0 xs)) (distinct xs) d).1))
fit_forth [] (suc n) k xs e b d h =
    rw (ne_eqb (suc n) 0 (λ z. omega arith), eq-eqb k 0 (omega arith)) (eq-eqb (length xs + 1) (suc n) (omega (arith, all_but_first n xs (zero_below n xs b) d h)))
fit_forth (c ∷ cs) (suc n) k xs e b d h =
    rw (ne_eqb (suc n) 0 (λ z. omega arith), ne_eqb k 0 (λ z. omega arith)) (lt-ltb (length xs) (suc n) (omega (arith, fits (suc n) (0 ∷ xs) (zero_below n xs b) d)))

pub fit_back : (cs : List (ℕ × ControlInst)) (n k : ℕ) (xs : List ℕ) → k ≡ min (length cs) 129 → Below n xs → distinct (0 ∷ xs) ≡ true → child_fit n (length xs) k ≡ true
    → roots_have_ways_out cs xs n ≡ true
fit_back [] zero k xs e b d h = refl
fit_back (c ∷ cs) n k xs e b d h = refl
fit_back [] (suc n) k xs e b d h =
    let q : eqb (length xs + 1) (suc n) ≡ true = rw (ne_eqb (suc n) 0 (λ z. omega arith), eq-eqb k 0 (omega arith)) at h in
    roots_back n xs (zero_below n xs b) d (omega (arith, eqb-true (length xs + 1) (suc n) q))
