-- How often numbers stand in a list whose numbers are all below n: counting the list tells whether each number below n stands once, or
-- each from 1 on. Assumes nothing.
--     once, once_back     each number below n stands once in a list of n numbers, none twice, and the other way
--     all_but_first, roots_back   each number from 1 on stands in a list in which neither 0 stands nor any number twice: there are n - 1 of them
use Rattle.std.specs.Prelude.{◌≡◌, refl, Bool, true, false, not, List, [], ◌∷◌, ℕ, zero, suc, ◌+◌, ◌≤◌, ◌<◌, eqb, ltb, length}
use Rattle.std.proofs.Common.{sym, ap, ◌∙◌, not-suc-le-zero, arith, ltb-true, ltb-false, eqb-true, eq-eqb}
use Rattle.std.proofs.Math.Decide.{ℕ_discrete}
use Rattle.std.proofs.lemmas.Bool.{not-true}
use Rattle.general_laws.specs.Tests.{both, split}
use Rattle.general_laws.specs.Lists.{choose_yes, choose_no, tabulate, every, within, times, distinct}
use Rattle.lifting.specs.Tree.{stands_once}

-- all numbers of the list are below n
abbrev pub Below : ℕ → List ℕ → Type 0
Below n l = every (λ x. ltb x n) l ≡ true

pub below_parts : (n x : ℕ) (l : List ℕ) → Below n (x ∷ l) → (x < n) × Below n l
below_parts n x l b = let p = both (ltb x n) (every (λ x. ltb x n) l) b in (ltb-true x n p.0, p.1)

-- a test at each of some numbers that follow one another
pub every_tab : (p : ℕ → Bool) (a n : ℕ) → every p (tabulate (λ i. i) a n) ≡ true → (i : ℕ) → a ≤ i → i < a + n → p i ≡ true
every_tab p a zero e i l h = absurd (omega arith)
every_tab p a (suc n) e i l h =
    let q = both (p a) (every p (tabulate (λ i. i) (suc a) n)) e in
    split (ℕ_discrete i a) (λ s. ap p s ∙ q.0) (λ s. every_tab p (suc a) n q.1 i (omega arith) (omega arith))

pub tab_every : (p : ℕ → Bool) (a n : ℕ) → ((i : ℕ) → a ≤ i → i < a + n → p i ≡ true) → every p (tabulate (λ i. i) a n) ≡ true
tab_every p a zero h = refl
tab_every p a (suc n) h = rw (h a (omega arith) (omega arith)) (tab_every p (suc a) n (λ i l m. h i (omega arith) (omega arith)))

-- a test that agrees at each of some numbers
pub tab_same_test : (p q : ℕ → Bool) (a n : ℕ) → ((i : ℕ) → i < a + n → p i ≡ q i) → every p (tabulate (λ i. i) a n) ≡ every q (tabulate (λ i. i) a n)
tab_same_test p q a zero h = refl
tab_same_test p q a (suc n) h = rw (h a (omega arith), tab_same_test p q (suc a) n (λ i l. h i (omega arith)))

-- how often a number stands, one element further
times_same : (x y : ℕ) (l : List ℕ) → x ≡ y → times ℕ_discrete x (y ∷ l) ≡ suc (times ℕ_discrete x l)
times_same x y l e = omega (arith, choose_yes {A = ℕ} (ℕ_discrete x y) 1 0 e)

times_other : (x y : ℕ) (l : List ℕ) → ¬ (x ≡ y) → times ℕ_discrete x (y ∷ l) ≡ times ℕ_discrete x l
times_other x y l e = omega (arith, choose_no {A = ℕ} (ℕ_discrete x y) 1 0 e)

times_grows : (x y : ℕ) (l : List ℕ) → times ℕ_discrete x l ≤ times ℕ_discrete x (y ∷ l)
times_grows x y l = omega arith

pub within_same : (x y : ℕ) (l : List ℕ) → x ≡ y → within x (y ∷ l) ≡ true
within_same x y l e = choose_yes (ℕ_discrete x y) true (within x l) e

pub within_other : (x y : ℕ) (l : List ℕ) → ¬ (x ≡ y) → within x (y ∷ l) ≡ within x l
within_other x y l e = choose_no (ℕ_discrete x y) true (within x l) e

in_times : (x : ℕ) (l : List ℕ) → within x l ≡ true → 1 ≤ times ℕ_discrete x l
in_times x [] h = let n : ◌≡◌ {A = ℕ} 0 1 = cc in omega arith
in_times x (y ∷ l) h =
    split (ℕ_discrete x y) (λ e. omega (arith, times_same x y l e))
    (λ e. omega (arith, times_other x y l e, in_times x l (sym (within_other x y l e) ∙ h)))

out_times : (x : ℕ) (l : List ℕ) → within x l ≡ false → times ℕ_discrete x l ≡ 0
out_times x [] h = refl
out_times x (y ∷ l) h =
    split (ℕ_discrete x y) (λ e. let z : true ≡ false = sym (within_same x y l e) ∙ h in let n : ◌≡◌ {A = ℕ} 0 1 = cc in omega arith)
    (λ e. times_other x y l e ∙ out_times x l (sym (within_other x y l e) ∙ h))

times_in : (x : ℕ) (l : List ℕ) → 1 ≤ times ℕ_discrete x l → within x l ≡ true
times_in x l h = go (within x l) refl
  where
    go : (b : Bool) → within x l ≡ b → b ≡ true
    go true e = refl
    go false e = absurd (omega (arith, out_times x l e))

times_out : (x : ℕ) (l : List ℕ) → times ℕ_discrete x l ≡ 0 → not (within x l) ≡ true
times_out x l h = go (within x l) refl
  where
    go : (b : Bool) → within x l ≡ b → not b ≡ true
    go false e = refl
    go true e = absurd (omega (arith, in_times x l e))

-- none stands twice
apart : (l : List ℕ) → distinct l ≡ true → (x : ℕ) → times ℕ_discrete x l ≤ 1
apart [] d x = omega arith
apart (y ∷ l) d x =
    let q = both (not (within y l)) (distinct l) d in
    split (ℕ_discrete x y) (λ e. omega (arith, times_same x y l e, ap (λ (z : ℕ). times ℕ_discrete z l) e, out_times y l (not-true (within y l) q.0)))
    (λ e. omega (arith, times_other x y l e, apart l q.1 x))

apart_back : (l : List ℕ) → ((x : ℕ) → times ℕ_discrete x l ≤ 1) → distinct l ≡ true
apart_back [] h = refl
apart_back (y ∷ l) h = rw (times_out y l (omega (arith, h y, times_same y y l refl))) (apart_back l (λ x. omega (arith, h x, times_grows x y l)))

-- a number that is not below n does not stand there
absent : (n : ℕ) (l : List ℕ) → Below n l → (x : ℕ) → n ≤ x → times ℕ_discrete x l ≡ 0
absent n [] b x h = refl
absent n (y ∷ l) b x h = times_other x y l (λ e. omega (arith, (below_parts n y l b).0)) ∙ absent n l (below_parts n y l b).1 x h

-- how often all numbers below n stand, together
abbrev tally : ℕ → List ℕ → ℕ
tally zero l = 0
tally (suc n) l = times ℕ_discrete n l + tally n l

tally_none : (n : ℕ) → tally n [] ≡ 0
tally_none zero = refl
tally_none (suc n) = omega (arith, tally_none n)

tally_out : (n x : ℕ) (l : List ℕ) → n ≤ x → tally n (x ∷ l) ≡ tally n l
tally_out zero x l h = refl
tally_out (suc n) x l h = omega (arith, times_other n x l (λ e. omega arith), tally_out n x l (omega arith))

tally_in : (n x : ℕ) (l : List ℕ) → x < n → tally n (x ∷ l) ≡ suc (tally n l)
tally_in zero x l h = absurd (not-suc-le-zero h)
tally_in (suc n) x l h =
    split (ℕ_discrete n x) (λ e. omega (arith, times_same n x l e, tally_out n x l (omega arith)))
    (λ e. omega (arith, times_other n x l e, tally_in n x l (omega arith)))

tally_length : (n : ℕ) (l : List ℕ) → Below n l → tally n l ≡ length l
tally_length n [] b = tally_none n
tally_length n (x ∷ l) b = tally_in n x l (below_parts n x l b).0 ∙ ap suc (tally_length n l (below_parts n x l b).1)

tally_ones : (n : ℕ) (l : List ℕ) → ((i : ℕ) → i < n → times ℕ_discrete i l ≡ 1) → tally n l ≡ n
tally_ones zero l h = refl
tally_ones (suc n) l h = omega (arith, h n (omega arith), tally_ones n l (λ i m. h i (omega arith)))

tally_low : (n : ℕ) (l : List ℕ) → ((x : ℕ) → times ℕ_discrete x l ≤ 1) → tally n l ≤ n
tally_low zero l h = omega arith
tally_low (suc n) l h = omega (arith, h n, tally_low n l h)

tally_full : (n : ℕ) (l : List ℕ) → ((x : ℕ) → times ℕ_discrete x l ≤ 1) → tally n l ≡ n → (i : ℕ) → i < n → times ℕ_discrete i l ≡ 1
tally_full zero l h e i m = absurd (not-suc-le-zero m)
tally_full (suc n) l h e i m =
    split (ℕ_discrete i n) (λ s. ap (λ (z : ℕ). times ℕ_discrete z l) s ∙ omega (arith, h n, tally_low n l h))
    (λ s. tally_full n l h (omega (arith, h n, tally_low n l h)) i (omega arith))

ones : (n : ℕ) (l : List ℕ) → stands_once n l ≡ true → (i : ℕ) → i < n → times ℕ_discrete i l ≡ 1
ones n l s i h = eqb-true _ _ (every_tab (λ i. eqb (times ℕ_discrete i l) 1) 0 n s i (omega arith) (omega arith))

ones_back : (n : ℕ) (l : List ℕ) → ((i : ℕ) → i < n → times ℕ_discrete i l ≡ 1) → stands_once n l ≡ true
ones_back n l h = tab_every (λ i. eqb (times ℕ_discrete i l) 1) 0 n (λ i a m. eq-eqb _ _ (h i (omega arith)))

pub once : (n : ℕ) (l : List ℕ) → Below n l → stands_once n l ≡ true → (length l ≡ n) × (distinct l ≡ true)
once n l b s = (sym (tally_length n l b) ∙ tally_ones n l (ones n l s), apart_back l low)
  where
    low : (x : ℕ) → times ℕ_discrete x l ≤ 1
    low x = go (ltb x n) refl
      where
        go : (t : Bool) → ltb x n ≡ t → times ℕ_discrete x l ≤ 1
        go true e = omega (arith, ones n l s x (ltb-true x n e))
        go false e = omega (arith, absent n l b x (ltb-false x n e))

pub once_back : (n : ℕ) (l : List ℕ) → Below n l → length l ≡ n → distinct l ≡ true → stands_once n l ≡ true
once_back n l b e d = ones_back n l (tally_full n l (apart l d) (tally_length n l b ∙ e))

-- with 0 before the list
pub all_but_first : (n : ℕ) (l : List ℕ) → Below (suc n) (0 ∷ l) → distinct (0 ∷ l) ≡ true → every (λ r. within r l) (tabulate (λ i. i) 1 n) ≡ true → length l ≡ n
all_but_first n l b d e = let h = (once (suc n) (0 ∷ l) b (ones_back (suc n) (0 ∷ l) each)).0 in omega arith
  where
    each : (i : ℕ) → i < suc n → times ℕ_discrete i (0 ∷ l) ≡ 1
    each i h =
        split (ℕ_discrete i 0) (λ s. omega (arith, apart (0 ∷ l) d i, times_same i 0 l s))
        (λ s. omega (arith, apart (0 ∷ l) d i, times_grows i 0 l, in_times i l (every_tab (λ r. within r l) 1 n e i (omega arith) (omega arith))))

pub roots_back : (n : ℕ) (l : List ℕ) → Below (suc n) (0 ∷ l) → distinct (0 ∷ l) ≡ true → length l ≡ n → every (λ r. within r l) (tabulate (λ i. i) 1 n) ≡ true
roots_back n l b d e =
    tab_every (λ r. within r l) 1 n
    (λ i a m. times_in i l (omega (arith, times_other i 0 l (λ s. omega arith), ones (suc n) (0 ∷ l) (once_back (suc n) (0 ∷ l) b (ap suc e) d) i (omega arith))))
