-- Where a block only ever absorbs its neighbour, absorption over the points in reverse order, as the definition has it, is absorbing neighbours
-- from the last point back. Assumes nothing.
use Rattle.std.specs.Prelude.{◌≡◌, Bool, ℕ}
use Rattle.std.proofs.Math.Path.{refl, ap, ap₂}
use Rattle.std.proofs.Common.{sym, subst, ◌∙◌, inl, inr, arith}
use Rattle.std.proofs.Math.Bool.{true, false}
use mathlib.Core.List.{List, [], ◌∷◌, ◌++◌, append_assoc}
use Rattle.std.proofs.Math.Option.{Option, none, some}
use Rattle.std.proofs.Math.Decide.{ℕ_discrete}
use Rattle.general_laws.specs.Lists.{choose, choose_yes, choose_no}
use Rattle.lifting.specs.Ast.{Value}
use Rattle.lifting.specs.Points.{CfgPoint, eq_point, BlockLifting, Table, points, block_or, block_at}
use Rattle.lifting.specs.Absorb.{use_count, sole_target, emptied, joined, absorb_into, refit, Absorbing, if_no_phis, try_target, absorb_at, absorb_all, keep_if, keep, kept}
use Rattle.general_laws.specs.Members.{In, here, there, in_nil, in_cases, in_right, NoDup}
use Rattle.lifting_runs.specs.AbsorbCount.{refit_other}
use Rattle.lifting_runs.specs.Tour.{points_append, unique_of, find_unique}
use Rattle.lifting_blocks.specs.Flat.{no_keys, absorbs_target, absorbs_next, AbsorbedRun, absorb_step, absorb_from, absorb_runs}
use Rattle.lifting_blocks.specs.Chain.{Chain, none_some, some_injective}

-- each point once
abbrev pub Once : Table → Type 0
Once T = NoDup (points T)

-- what an entry would absorb stands right after it; c counts uses
abbrev pub Ahead : (CfgPoint → ℕ) → CfgPoint × BlockLifting → Option CfgPoint → Type 0
Ahead c x o = (t : CfgPoint) → sole_target x.1.term ≡ some t → c t ≡ 1 → o ≡ some t

-- a block only ever absorbs the point right after it
abbrev pub Near : (CfgPoint → ℕ) → Table → Type 0
Near c T = Chain (Ahead c) T none

abbrev Absent : CfgPoint → Table → Type 0
Absent p T = ¬ (In p (points T))

absent_head : {p q : CfgPoint} {l : List CfgPoint} → ¬ (In p (q ∷ l)) → ¬ (p ≡ q)
absent_head {p} {q} {l} a e = a (subst (λ (r : CfgPoint). In p (r ∷ l)) e here)

-- of a table in two parts
once_end : (P L : Table) → Once (P ++ L) → Once L
once_end [] L o = o
once_end (x ∷ P) L o = once_end P L o.1

once_apart : (P L : Table) → Once (P ++ L) → (p : CfgPoint) → In p (points L) → Absent p P
once_apart [] L o p i h = in_nil h
once_apart (x ∷ P) L o p i h = elim (in_cases h) [
  | inl e ↦ o.0 (rw (points_append P L) (in_right (points P) (subst (λ (q : CfgPoint). In q (points L)) e i)))
  | inr k ↦ once_apart P L o.1 p i k
]

pub block_in : (T : Table) → Once T → (x : CfgPoint × BlockLifting) → In x T → block_at T x.0 ≡ x.1
block_in T o x i = ap block_or (find_unique T (unique_of T o) x.0 x.1 i)

-- one absorption, of a neighbour
absorb_append : (b t : CfgPoint) (d : BlockLifting) (P L : Table) → absorb_into b t d (P ++ L) ≡ absorb_into b t d P ++ absorb_into b t d L
absorb_append b t d [] L = refl
absorb_append b t d (x ∷ P) L = ap (λ (M : Table). (x.0, refit b t d x.0 x.1) ∷ M) (absorb_append b t d P L)

absorb_away : (b t : CfgPoint) (d : BlockLifting) (L : Table) → Absent b L → Absent t L → absorb_into b t d L ≡ L
absorb_away b t d [] h k = refl
absorb_away b t d (x ∷ L) h k =
    ap₂ (λ (e : BlockLifting) (M : Table). (x.0, e) ∷ M) (refit_other b t d x.0 x.1 (λ q. absent_head k (sym q)) (λ q. absent_head h (sym q)))
    (absorb_away b t d L (λ i. h (there i)) (λ i. k (there i)))

absorb_pair : (x y : CfgPoint × BlockLifting) (d : BlockLifting) (L : Table) → Once (x ∷ y ∷ L) → absorb_into x.0 y.0 d (x ∷ y ∷ L) ≡ (x.0, joined x.1 d) ∷ (y.0, emptied y.1) ∷ L
absorb_pair x y d L o =
    ap₂ (λ (e : BlockLifting) (M : Table). (x.0, e) ∷ M) (choose_no (eq_point x.0 y.0) _ _ (absent_head o.0) ∙ choose_yes (eq_point x.0 x.0) (joined x.1 d) x.1 refl)
    (ap₂ (λ (e : BlockLifting) (M : Table). (y.0, e) ∷ M) (choose_yes (eq_point y.0 y.0) (emptied y.1) _ refl)
    (absorb_away x.0 y.0 d L (λ i. o.0 (there i)) o.1.0))

-- As the definition leaves it: an absorbed block is emptied and keeps its place, and its count is 0.
module _ (c : CfgPoint → ℕ) where
  abbrev laid_step : Bool → CfgPoint × BlockLifting → CfgPoint → AbsorbedRun → AbsorbedRun
  laid_step true x q r = record { block = joined x.1 r.block; rest = (q, emptied r.block) ∷ r.rest }
  laid_step false x q r = record { block = x.1; rest = (q, r.block) ∷ r.rest }

  unfoldable laid_from : CfgPoint × BlockLifting → Table → AbsorbedRun
  laid_from x [] = record { block = x.1; rest = [] }
  laid_from x (y ∷ T) = laid_step (absorbs_next c x y) x y.0 (laid_from y T)

  abbrev low_step : Bool → CfgPoint → (CfgPoint → ℕ) → CfgPoint → ℕ
  low_step true t g = λ q. choose (eq_point q t) 0 (g q)
  low_step false t g = g

  unfoldable low_from : CfgPoint × BlockLifting → Table → CfgPoint → ℕ
  low_from x [] = c
  low_from x (y ∷ T) = low_step (absorbs_next c x y) y.0 (low_from y T)

  unfoldable laid : Table → Table
  laid [] = []
  laid (x ∷ T) = (x.0, (laid_from x T).block) ∷ (laid_from x T).rest

  unfoldable low : Table → CfgPoint → ℕ
  low [] = c
  low (x ∷ T) = low_from x T

  -- phis and points stay
  laid_keys : (x : CfgPoint × BlockLifting) (T : Table) → (laid_from x T).block.keys ≡ x.1.keys
  unfolding laid_from
  laid_keys x [] = refl
  laid_keys x (y ∷ T) = by_case (absorbs_next c x y)
    where
      by_case : (g : Bool) → (laid_step g x y.0 (laid_from y T)).block.keys ≡ x.1.keys
      by_case true = refl
      by_case false = refl

  laid_points : (x : CfgPoint × BlockLifting) (T : Table) → points (laid_from x T).rest ≡ points T
  unfolding laid_from
  laid_points x [] = refl
  laid_points x (y ∷ T) = by_case (absorbs_next c x y) (laid_points y T)
    where
      by_case : (g : Bool) → points (laid_from y T).rest ≡ points T → points (laid_step g x y.0 (laid_from y T)).rest ≡ y.0 ∷ points T
      by_case true e = ap (λ (l : List CfgPoint). y.0 ∷ l) e
      by_case false e = ap (λ (l : List CfgPoint). y.0 ∷ l) e

  -- counts
  low_absent : (x : CfgPoint × BlockLifting) (T : Table) (p : CfgPoint) → Absent p T → low_from x T p ≡ c p
  unfolding low_from
  low_absent x [] p a = refl
  low_absent x (y ∷ T) p a = by_case (absorbs_next c x y) (low_absent y T p (λ i. a (there i)))
    where
      by_case : (g : Bool) → low_from y T p ≡ c p → low_step g y.0 (low_from y T) p ≡ c p
      by_case true e = choose_no (eq_point p y.0) 0 (low_from y T p) (absent_head a) ∙ e
      by_case false e = e

  low_one : (x : CfgPoint × BlockLifting) (T : Table) (p : CfgPoint) → low_from x T p ≡ 1 → c p ≡ 1
  unfolding low_from
  low_one x [] p e = e
  low_one x (y ∷ T) p e = by_case (absorbs_next c x y) (low_one y T p) e
    where
      by_point : (d : Dec (p ≡ y.0)) → (low_from y T p ≡ 1 → c p ≡ 1) → choose d 0 (low_from y T p) ≡ 1 → c p ≡ 1
      by_point (yes q) h e = absurd (omega arith)
      by_point (no q) h e = h e

      by_case : (g : Bool) → (low_from y T p ≡ 1 → c p ≡ 1) → low_step g y.0 (low_from y T) p ≡ 1 → c p ≡ 1
      by_case true h e = by_point (eq_point p y.0) h e
      by_case false h e = h e

  -- the drop: what is absorbed has count 0
  keep_agree : (L : Table) (p : CfgPoint) (g : CfgPoint → ℕ) → Absent p L → keep (λ q. choose (eq_point q p) 0 (g q)) L ≡ keep g L
  keep_agree [] p g a = refl
  keep_agree (x ∷ L) p g a =
      ap₂ (λ (k : ℕ) (M : Table). keep_if k x M) (choose_no (eq_point x.0 p) 0 (g x.0) (λ e. absent_head a (sym e))) (keep_agree L p g (λ i. a (there i)))

  blocks_same : (x : CfgPoint × BlockLifting) (T : Table) → (laid_from x T).block ≡ (absorb_from c x T).block
  unfolding laid_from absorb_from
  blocks_same x [] = refl
  blocks_same x (y ∷ T) = by_case (absorbs_next c x y) (blocks_same y T)
    where
      by_case : (g : Bool) → (laid_from y T).block ≡ (absorb_from c y T).block → (laid_step g x y.0 (laid_from y T)).block ≡ (absorb_step g x y.0 (absorb_from c y T)).block
      by_case true e = ap (joined x.1) e
      by_case false e = refl

  keep_laid : (x : CfgPoint × BlockLifting) (T : Table) → Once T → keep (low_from x T) (laid_from x T).rest ≡ keep c (absorb_from c x T).rest
  unfolding laid_from absorb_from low_from
  keep_laid x [] o = refl
  keep_laid x (y ∷ T) o = by_case (absorbs_next c x y) (keep_laid y T o.1)
    where
      R : Table
      R = (laid_from y T).rest

      by_case : (g : Bool) → keep (low_from y T) R ≡ keep c (absorb_from c y T).rest
          → keep (low_step g y.0 (low_from y T)) (laid_step g x y.0 (laid_from y T)).rest ≡ keep c (absorb_step g x y.0 (absorb_from c y T)).rest
      by_case true e =
          ap (λ (k : ℕ). keep_if k (y.0, emptied (laid_from y T).block) (keep (λ q. choose (eq_point q y.0) 0 (low_from y T q)) R)) (choose_yes (eq_point y.0 y.0) 0 (low_from y T y.0) refl)
          ∙ keep_agree R y.0 (low_from y T) (rw (laid_points y T) o.0)
          ∙ e
      by_case false e =
          ap (λ (k : ℕ). keep_if k (y.0, (laid_from y T).block) (keep (low_from y T) R)) (low_absent y T y.0 o.0)
          ∙ ap₂ (λ (b : BlockLifting) (M : Table). keep_if (c y.0) (y.0, b) M) (blocks_same y T) e

  keep_all : (T : Table) → Once T → keep (low T) (laid T) ≡ keep c (absorb_runs c T)
  unfolding low laid absorb_runs
  keep_all [] o = refl
  keep_all (x ∷ T) o =
      ap (λ (k : ℕ). keep_if k (x.0, (laid_from x T).block) (keep (low_from x T) (laid_from x T).rest)) (low_absent x T x.0 o.0)
      ∙ ap₂ (λ (b : BlockLifting) (M : Table). keep_if (c x.0) (x.0, b) M) (blocks_same x T) (keep_laid x T o.1)

  -- one point's turn, behind the points P that come later
  abbrev state : Table → (CfgPoint → ℕ) → Absorbing
  state T g = record { table = T; counts = g }

  at_entry : (P : Table) (x : CfgPoint × BlockLifting) (L : Table) → Once (P ++ (x ∷ L)) → block_at (P ++ (x ∷ L)) x.0 ≡ x.1
  at_entry P x L o = block_in (P ++ (x ∷ L)) o x (in_right P here)

  turn_last : (P : Table) (x : CfgPoint × BlockLifting) → Once (P ++ (x ∷ [])) → Ahead c x none → absorb_at x.0 (state (P ++ (x ∷ [])) c) ≡ state (P ++ (x ∷ [])) c
  turn_last P x o near = ap (λ (b : BlockLifting). try_target x.0 (sole_target b.term) S) (at_entry P x [] o) ∙ by_target (sole_target x.1.term) refl
    where
      S : Absorbing
      S = state (P ++ (x ∷ [])) c

      by_count_law : (t : CfgPoint) (A : Absorbing) → sole_target x.1.term ≡ some t → (d : Dec (c t ≡ 1)) → choose d A S ≡ S
      by_count_law t A e (yes q) = absurd (none_some (near t e q))
      by_count_law t A e (no q) = refl

      by_target : (w : Option CfgPoint) → sole_target x.1.term ≡ w → try_target x.0 w S ≡ S
      by_target none e = refl
      by_target (some t) e = by_count_law t _ e (ℕ_discrete (c t) 1)

  module _ (P : Table) (x y : CfgPoint × BlockLifting) (U : Table) (once : Once (P ++ (x ∷ y ∷ U))) (near : Ahead c x (some y.0)) where
    abbrev r : AbsorbedRun
    r = laid_from y U

    abbrev before : Table
    before = P ++ (x ∷ (y.0, r.block) ∷ r.rest)

    abbrev S : Absorbing
    S = state before (low_from y U)

    abbrev left : Bool → Absorbing
    left g = state (P ++ ((x.0, (laid_step g x y.0 r).block) ∷ (laid_step g x y.0 r).rest)) (low_step g y.0 (low_from y U))

    once_before : Once before
    once_before =
        let e : points before ≡ points (P ++ (x ∷ y ∷ U))
        = points_append P _ ∙ ap (λ (l : List CfgPoint). points P ++ (x.0 ∷ y.0 ∷ l)) (laid_points y U) ∙ sym (points_append P _) in
        rw e once

    own : Once (x ∷ (y.0, r.block) ∷ r.rest)
    own = once_end P _ once_before

    second : block_at before y.0 ≡ r.block
    second = block_in before once_before (y.0, r.block) (in_right P (there here))

    -- the state after y was absorbed
    taken : CfgPoint → Absorbing
    taken t = state (absorb_into x.0 t (block_at before t) before) (λ q. choose (eq_point q t) 0 (low_from y U q))

    taken_left : taken y.0 ≡ left true
    unfolding taken
    taken_left = ap (λ (T : Table). state T (λ q. choose (eq_point q y.0) 0 (low_from y U q)))
        (ap (λ (d : BlockLifting). absorb_into x.0 y.0 d before) second
        ∙ absorb_append x.0 y.0 r.block P _
        ∙ ap₂ (λ (A B : Table). A ++ B) (absorb_away x.0 y.0 r.block P (once_apart P _ once_before x.0 here) (once_apart P _ once_before y.0 (there here)))
        (absorb_pair x (y.0, r.block) r.block r.rest own))

    by_keys : (t : CfgPoint) → t ≡ y.0 → (ks : List Value) → if_no_phis ks (taken t) S ≡ left (no_keys ks)
    by_keys t e [] = ap taken e ∙ taken_left
    by_keys t e (k ∷ ks) = refl

    keys_there : (t : CfgPoint) → t ≡ y.0 → (block_at before t).keys ≡ y.1.keys
    keys_there t e = ap (λ (p : CfgPoint). (block_at before p).keys) e ∙ ap (λ (b : BlockLifting). b.keys) second ∙ laid_keys y U

    by_count_law : (t : CfgPoint) → sole_target x.1.term ≡ some t → (d : Dec (low_from y U t ≡ 1)) (g : Dec (t ≡ y.0)) (h : Dec (c y.0 ≡ 1))
        → choose d (if_no_phis (block_at before t).keys (taken t) S) S ≡ left (choose g (choose h (no_keys y.1.keys) false) false)
    by_count_law t e (yes q) (yes p) (yes u) = ap (λ (ks : List Value). if_no_phis ks (taken t) S) (keys_there t p) ∙ by_keys t p y.1.keys
    by_count_law t e (yes q) (yes p) (no u) = absurd (u (ap c (sym p) ∙ low_one y U t q))
    by_count_law t e (yes q) (no p) h = absurd (p (some_injective (near t e (low_one y U t q))))
    by_count_law t e (no q) (yes p) (yes u) = absurd (q (ap (low_from y U) p ∙ low_absent y U y.0 (rw (laid_points y U) at own.1.0) ∙ u))
    by_count_law t e (no q) (yes p) (no u) = refl
    by_count_law t e (no q) (no p) h = refl

    by_target : (w : Option CfgPoint) → sole_target x.1.term ≡ w → try_target x.0 w S ≡ left (absorbs_target w y.0 (c y.0) y.1.keys)
    unfolding taken
    by_target none e = refl
    by_target (some t) e = by_count_law t e (ℕ_discrete (low_from y U t) 1) (eq_point t y.0) (ℕ_discrete (c y.0) 1)

    turn_more : absorb_at x.0 S ≡ left (absorbs_next c x y)
    unfolding absorbs_next
    turn_more = ap (λ (b : BlockLifting). try_target x.0 (sole_target b.term) S) (at_entry P x _ once_before) ∙ by_target (sole_target x.1.term) refl

  -- all points, the last one first
  absorbed : (P U : Table) → Once (P ++ U) → Near c U → absorb_all (points U) (state (P ++ U) c) ≡ state (P ++ laid U) (low U)
  unfolding laid low laid_from low_from
  absorbed P [] o n = refl
  absorbed P (x ∷ []) o n = turn_last P x o n.0
  absorbed P (x ∷ y ∷ U) o n =
      let shift : (L : Table) → (P ++ (x ∷ [])) ++ L ≡ P ++ (x ∷ L) = append_assoc P (x ∷ []) in
      ap (absorb_at x.0)
      (ap (λ (T : Table). absorb_all (points (y ∷ U)) (state T c)) (sym (shift (y ∷ U)))
      ∙ absorbed (P ++ (x ∷ [])) (y ∷ U) (subst Once (sym (shift (y ∷ U))) o) n.1
      ∙ ap (λ (T : Table). state T (low_from y U)) (shift (laid (y ∷ U))))
      ∙ turn_more P x y U o n.0

pub kept_into : (T : Table) → Once T → Near (use_count T) T → kept T ≡ keep (use_count T) (absorb_runs (use_count T) T)
unfolding kept
kept_into T o n = ap (λ (s : Absorbing). keep s.counts s.table) (absorbed (use_count T) [] T o n) ∙ keep_all (use_count T) T o
