-- Where each visited point stands, and whether it absorbs the next one, by position: 512 words of the work slice each. Assumes nothing.
--     status_joined, status_alone    a position's word, after one that absorbs it or not
--     word_gone, word_starts, word_goes, goes_from    what a position's word says
--     absorb_is     whether a point absorbs the next one, by numbers
use Rattle.std.proofs.Math.Path.{◌≡◌, refl, ap}
use Rattle.std.proofs.Common.{sym, ◌∙◌, eq-eqb, ne_eqb}
use Rattle.std.specs.Prelude.{Bool, true, ◌&&◌, ◌⊎◌, List, [], ◌∷◌, eqb, get_or, length}
use Rattle.std.proofs.Math.Bool.{false}
use Rattle.std.proofs.Math.Logic.{inl, inr}
use Rattle.std.proofs.Math.Option.{some}
use Prim.Native.Nat.{ℕ, zero, suc, ◌+◌, ◌≤◌, ◌<◌}
use Rattle.std.proofs.Math.Decide.{ℕ_discrete}
use native.Mathlib.Omega.{arith}
use Rattle.general_laws.specs.Lists.{choose, choose_no, choose_yes}
use Rattle.lifting.specs.Ast.{Func, Value}
use Rattle.lifting.specs.Points.{CfgPoint, eq_point}
use Rattle.lifting.specs.Walk.{walk_of}
use Rattle.lifting.specs.Absorb.{use_count}
use Rattle.work.specs.Layout.{statuses_at, absorbs_at}
use Rattle.general_laws.specs.Tests.{split}
use Rattle.lifting_blocks.specs.Flat.{Status, by_count, carry, absorbs_here, absorbs_target, goes, gone, no_keys, starts, status, status_at, status_from}
use Rattle.walk_points.specs.Numbers.{Small, point_back, point_number, point_of}
use Rattle.terminators.specs.At.{visited_block, point_at}

-- 0 for a point in no kept block, else 1 + the number of the point whose label its block has
abbrev pub status_word : Status → CfgPoint → ℕ
status_word gone p = 0
status_word starts p = point_number p + 1
status_word (goes h) p = point_number h + 1

abbrev pub absorb_word : Bool → ℕ
absorb_word true = 1
absorb_word false = 0

module _ (F : Func) where
  abbrev pub stands : ℕ → Status
  stands i = status_at (use_count (walk_of F)) (walk_of F) i

  abbrev pub absorbs : ℕ → Bool
  absorbs i = absorbs_here (use_count (walk_of F)) (walk_of F) i

  -- the point before position i absorbs it
  abbrev pub absorbed : ℕ → Bool
  absorbed zero = false
  absorbed (suc i) = absorbs i

  -- the word of the point at i where it is absorbed by none
  abbrev pub alone_word : ℕ → ℕ
  alone_word i = status_word (by_count (use_count (walk_of F) (point_at F i))) (point_at F i)

  -- the point at i has number t, one use and no phis
  abbrev pub joinable : ℕ → ℕ → Bool
  joinable i t = eqb t (point_number (point_at F i)) && (eqb (use_count (walk_of F) (point_at F i)) 1 && eqb (length (visited_block F i).keys) 0)

  -- the words of the first n positions
  pub record AbsorbWords (n : ℕ) (u : List ℕ) : Type 0 where
    pub status : (i : ℕ) → i < n → get_or u (statuses_at + i) 0 ≡ status_word (stands i) (point_at F i)
    pub absorb : (i : ℕ) → i < n → get_or u (absorbs_at + i) 0 ≡ absorb_word (absorbs i)

-- the words of the positions from n on are those of w
pub record Beyond (n : ℕ) (w u : List ℕ) : Type 0 where
  pub status : (i : ℕ) → n ≤ i → i < 512 → get_or u (statuses_at + i) 0 ≡ get_or w (statuses_at + i) 0
  pub absorb : (i : ℕ) → n ≤ i → i < 512 → get_or u (absorbs_at + i) 0 ≡ get_or w (absorbs_at + i) 0

-- what a point passes on is its own word
carried : (s : Status) (p q : CfgPoint) (n : ℕ) (b : Bool) → b ≡ true → status_word (status (carry s p b) n) q ≡ status_word s p
carried gone p q n true e = refl
carried starts p q n true e = refl
carried (goes h) p q n true e = refl
carried s p q n false e = absurd (let z : ◌≡◌ {A = ℕ} 0 1 = cc in omega arith)

uncarried : (s : Status) (p : CfgPoint) (n : ℕ) (b : Bool) → b ≡ false → status (carry s p b) n ≡ by_count n
uncarried s p n false e = refl
uncarried s p n true e = absurd (let z : ◌≡◌ {A = ℕ} 0 1 = cc in omega arith)

module _ (F : Func) where
  pub status_joined : (i : ℕ) → absorbed F (suc i) ≡ true → status_word (stands F (suc i)) (point_at F (suc i)) ≡ status_word (stands F i) (point_at F i)
  unfolding status_from
  status_joined i e = carried (stands F i) (point_at F i) (point_at F (suc i)) (use_count (walk_of F) (point_at F (suc i))) (absorbs F i) e

  pub status_alone : (i : ℕ) → absorbed F i ≡ false → stands F i ≡ by_count (use_count (walk_of F) (point_at F i))
  unfolding status_from
  status_alone zero e = refl
  status_alone (suc i) e = uncarried (stands F i) (point_at F i) (use_count (walk_of F) (point_at F (suc i))) (absorbs F i) e

-- ---- what a word says

pub word_gone : (s : Status) (p : CfgPoint) → status_word s p ≡ 0 → s ≡ gone
word_gone gone p e = refl
word_gone starts p e = absurd (omega arith)
word_gone (goes h) p e = absurd (omega arith)

by_starts : (n : ℕ) (p : CfgPoint) → ¬ (status_word (by_count n) p ≡ 0) → by_count n ≡ starts
by_starts zero p e = absurd (e refl)
by_starts (suc n) p e = refl

-- the block that a point hands on
handed : (s : Status) (p : CfgPoint) (b : Bool) (n : ℕ) {h : CfgPoint} → status (carry s p b) n ≡ goes h → ((s ≡ starts) × (h ≡ p)) ⊎ (s ≡ goes h)
handed s p false zero e = absurd (let z : ◌≡◌ {A = ℕ} 0 1 = cc in omega arith)
handed s p false (suc n) e = absurd (let z : ◌≡◌ {A = ℕ} 0 1 = cc in omega arith)
handed gone p true n e = absurd (let z : ◌≡◌ {A = ℕ} 0 1 = cc in omega arith)
handed starts p true n e = inl (refl, cc)
handed (goes k) p true n e = inr e

taken : (s : Status) (p q : CfgPoint) (b : Bool) (n : ℕ) → b ≡ true → ¬ (status_word (status (carry s p b) n) q ≡ 0) → (h : CfgPoint) × (status (carry s p b) n ≡ goes h)
taken gone p q true n e z = absurd (z refl)
taken starts p q true n e z = (p, refl)
taken (goes h) p q true n e z = (h, refl)
taken s p q false n e z = absurd (let y : ◌≡◌ {A = ℕ} 0 1 = cc in omega arith)

module _ (F : Func) where
  -- a point that none absorbs, and whose word is not 0, starts a block
  pub word_starts : (i : ℕ) → absorbed F i ≡ false → ¬ (status_word (stands F i) (point_at F i) ≡ 0) → stands F i ≡ starts
  word_starts i e z =
      let a = status_alone F i e in
      a ∙ by_starts (use_count (walk_of F) (point_at F i)) (point_at F i) (λ y. z (ap (λ (s : Status). status_word s (point_at F i)) a ∙ y))

  -- one that is absorbed stands in the block whose number its word says
  pub word_goes : (i : ℕ) → absorbed F i ≡ true → ¬ (status_word (stands F i) (point_at F i) ≡ 0)
      → (h : CfgPoint) × (stands F i ≡ goes h) × (status_word (stands F i) (point_at F i) ≡ point_number h + 1)
  unfolding status_from
  word_goes zero e z = absurd (let y : ◌≡◌ {A = ℕ} 0 1 = cc in omega arith)
  word_goes (suc i) e z =
      let t = taken (stands F i) (point_at F i) (point_at F (suc i)) (absorbs F i) (use_count (walk_of F) (point_at F (suc i))) e z in
      (t.0, t.1, ap (λ (s : Status). status_word s (point_at F (suc i))) t.1)

  -- that block starts at a position before
  pub goes_from : (i : ℕ) {h : CfgPoint} → stands F i ≡ goes h → (j : ℕ) × (j < i) × (h ≡ point_at F j) × (stands F j ≡ starts)
  unfolding status_from
  goes_from zero e = elim (handed gone (point_at F 0) false (use_count (walk_of F) (point_at F 0)) e) [
    | inl a ↦ absurd (let z : ◌≡◌ {A = ℕ} 0 1 = cc in omega arith)
    | inr b ↦ absurd (let z : ◌≡◌ {A = ℕ} 0 1 = cc in omega arith)
  ]
  goes_from (suc i) {h} e = go (handed (stands F i) (point_at F i) (absorbs F i) (use_count (walk_of F) (point_at F (suc i))) e) (λ b. goes_from i b)
    where
      go : ((stands F i ≡ starts) × (h ≡ point_at F i)) ⊎ (stands F i ≡ goes h)
          → (stands F i ≡ goes h → (j : ℕ) × (j < i) × (h ≡ point_at F j) × (stands F j ≡ starts))
          → (j : ℕ) × (j < suc i) × (h ≡ point_at F j) × (stands F j ≡ starts)
      go (inl a) ih = (i, omega arith, a.1, a.0)
      go (inr b) ih = let r = ih b in (r.0, omega (arith, r.1), r.2, r.3)

-- ---- absorption by numbers

number_eq : (p q : CfgPoint) → Small p → Small q → point_number p ≡ point_number q → p ≡ q
number_eq p q a b e = sym (point_back p a) ∙ ap point_of e ∙ point_back q b

no_keys_law : (ks : List Value) → no_keys ks ≡ eqb (length ks) 0
no_keys_law [] = refl
no_keys_law (k ∷ ks) = sym (ne_eqb (suc (length ks)) 0 (λ e. omega arith))

by_count_law : (n : ℕ) (b : Bool) → choose (ℕ_discrete n 1) b false ≡ (eqb n 1 && b)
by_count_law n b =
    split (ℕ_discrete n 1) (λ e. choose_yes (ℕ_discrete n 1) b false e ∙ sym (ap (λ (t : Bool). t && b) (eq-eqb n 1 e)))
    (λ e. choose_no (ℕ_discrete n 1) b false e ∙ sym (ap (λ (t : Bool). t && b) (ne_eqb n 1 e)))

pub absorb_is : (p q : CfgPoint) → Small p → Small q → (n : ℕ) (ks : List Value)
    → absorbs_target (some p) q n ks ≡ (eqb (point_number p) (point_number q) && (eqb n 1 && eqb (length ks) 0))
absorb_is p q a b n ks =
    let rest : choose (ℕ_discrete n 1) (no_keys ks) false ≡ (eqb n 1 && eqb (length ks) 0) = by_count_law n (no_keys ks) ∙ ap (λ (t : Bool). eqb n 1 && t)
    (no_keys_law ks) in
    split (eq_point p q)
    (λ e.
    choose_yes (eq_point p q) (choose (ℕ_discrete n 1) (no_keys ks) false) false e
    ∙ rest
    ∙ sym (ap (λ (t : Bool). t && (eqb n 1 && eqb (length ks) 0)) (eq-eqb (point_number p) (point_number q) (ap point_number e))))
    (λ e.
    choose_no (eq_point p q) (choose (ℕ_discrete n 1) (no_keys ks) false) false e
    ∙ sym (ap (λ (t : Bool). t && (eqb n 1 && eqb (length ks) 0)) (ne_eqb (point_number p) (point_number q) (λ z. e (number_eq p q a b z)))))
