-- Demand 2: a phi has one pair for each kept block with an edge to it, holding that edge's value. Assumes nothing.
use Rattle.std.specs.Prelude.{◌≡◌, get_or}
use Rattle.std.proofs.Math.Path.{refl}
use Rattle.std.proofs.Common.{sym, ap, ◌∙◌, subst, inl, inr, arith}
use mathlib.Core.List.{List, [], ◌∷◌, ◌++◌, map}
use Prim.Native.Nat.{ℕ, zero, suc, ◌<◌}
use Rattle.general_laws.specs.Lists.{gather}
use Rattle.lifting.specs.Ast.{Func, const}
use Rattle.lifting.specs.Points.{BlockLifting, CfgPoint, Table, edge_of, eq_point, points}
use Rattle.lifting.specs.Absorb.{count_in}
use Rattle.lifting.specs.Ids.{id_of, label_of}
use Rattle.lifting.specs.Instructions.{if_used, pairs}
use Rattle.lifting.specs.BlockRun.{pair_of}
use Rattle.general_laws.specs.Members.{In, NoDup, gather_in, here, in_cases, in_gather, in_map, in_nil, map_in, nodup_append, there, times_in}
use Rattle.lifting_runs.specs.AbsorbCount.{in_count}
use Rattle.lifting_runs.specs.Ids.{label_inj}
use Rattle.lifting_runs.specs.EmitRun.{Sound, pair_of_law, point_named}
use Rattle.lifting_runs.specs.Tour.{find_unique, in_points, unique_of}

-- the labels of a phi's pairs: every second id
abbrev pub pair_labels : List ℕ → List ℕ
pair_labels [] = []
pair_labels (v ∷ []) = []
pair_labels (v ∷ l ∷ r) = l ∷ pair_labels r

-- the ids xs are phi j of the block at q: no block twice; a block exactly if it has an edge to q; and with it that edge's value j
pub record OnePairEach (F : Func) (first : ℕ) (T K : Table) (q : CfgPoint) (j : ℕ) (xs : List ℕ) : Type 0 where
  pub once : NoDup (pair_labels xs)
  pub has_edge : (l : ℕ) → In l (pair_labels xs) → (x : CfgPoint × BlockLifting) × In x K × (l ≡ label_of F first T K x.0) × In q x.1.term.targets
  pub has_pair : (x : CfgPoint × BlockLifting) → In x K → In q x.1.term.targets → In (label_of F first T K x.0) (pair_labels xs)
  pub holds_value : (x : CfgPoint × BlockLifting) → In x K → In q x.1.term.targets → pair_of (label_of F first T K x.0) xs ≡ id_of F first T K (get_or (edge_of K x.1.term q) j (const 0))

-- the blocks with an edge to q
abbrev if_edge : ℕ → CfgPoint → List CfgPoint
if_edge zero p = []
if_edge (suc n) p = p ∷ []

abbrev sources : Table → CfgPoint → List CfgPoint
sources L q = gather (λ (x : CfgPoint × BlockLifting). if_edge (count_in q x.1.term.targets) x.0) L

edge_in : (n : ℕ) {p s : CfgPoint} → In s (if_edge n p) → (s ≡ p) × (0 < n)
edge_in zero h = absurd (in_nil h)
edge_in (suc n) h = elim (in_cases h) [ inl e ↦ (e, omega arith) | inr i ↦ absurd (in_nil i) ]

in_edge : (n : ℕ) (p : CfgPoint) → 0 < n → In p (if_edge n p)
in_edge zero p h = absurd (omega arith)
in_edge (suc n) p h = here

pub counted_in : (q : CfgPoint) (l : List CfgPoint) → 0 < count_in q l → In q l
counted_in = times_in eq_point

source_of : (L : Table) (q s : CfgPoint) → In s (sources L q) → (x : CfgPoint × BlockLifting) × In x L × (s ≡ x.0) × In q x.1.term.targets
source_of L q s h =
    let w = gather_in (λ (x : CfgPoint × BlockLifting). if_edge (count_in q x.1.term.targets) x.0) L h in
    let e = edge_in (count_in q w.0.1.term.targets) w.2 in
    (w.0, w.1, e.0, counted_in q w.0.1.term.targets e.1)

source_point : (L : Table) (q s : CfgPoint) → In s (sources L q) → In s (points L)
source_point L q s h = let w = source_of L q s h in subst (λ (p : CfgPoint). In p (points L)) (sym w.2) (in_points L w.0 w.1)

sources_once : (L : Table) (q : CfgPoint) → NoDup (points L) → NoDup (sources L q)
sources_once [] q n = tt
sources_once (x ∷ L) q n = nodup_append (if_edge (count_in q x.1.term.targets) x.0) (sources L q) (single_once (count_in q x.1.term.targets)) (sources_once L q n.1)
    (λ s a b. n.0 (subst (λ (p : CfgPoint). In p (points L)) (edge_in (count_in q x.1.term.targets) a).0 (source_point L q s b)))
  where
    single_once : (m : ℕ) → NoDup (if_edge m x.0)
    single_once zero = tt
    single_once (suc m) = (λ h. in_nil h, tt)

module _ (F : Func) (first : ℕ) (T K : Table) (ok : Sound F first T K) (once : NoDup (points K)) where
  labels_are : (L : Table) (q : CfgPoint) (j : ℕ) → pair_labels (pairs F first T K L q j) ≡ map (label_of F first T K) (sources L q)
  unfolding pairs
  labels_are [] q j = refl
  labels_are (x ∷ L) q j = by_count_law (count_in q x.1.term.targets) (labels_are L q j)
    where
      v : ℕ
      v = id_of F first T K (get_or (edge_of K x.1.term q) j (const 0))

      by_count_law : (n : ℕ) → pair_labels (pairs F first T K L q j) ≡ map (label_of F first T K) (sources L q)
          → pair_labels (if_used n (v ∷ label_of F first T K x.0 ∷ []) ++ pairs F first T K L q j) ≡ map (label_of F first T K) (if_edge n x.0 ++ sources L q)
      by_count_law zero ih = ih
      by_count_law (suc n) ih = ap (λ (l : List ℕ). label_of F first T K x.0 ∷ l) ih

  -- labels of kept points are different
  labels_once : (l : List CfgPoint) → ((p : CfgPoint) → In p l → In p (points K)) → NoDup l → NoDup (map (label_of F first T K) l)
  labels_once [] h n = tt
  labels_once (p ∷ l) h n = (
    λ i.
        let w = map_in (label_of F first T K) l i in
        n.0 (subst (λ (r : CfgPoint). In r l) (sym (label_inj F first T K ok.numbered p w.0 (point_named F first T K p (h p here)) w.2)) w.1),
    labels_once l (λ r i. h r (there i)) n.1,
  )

  pub one_pair_each : (q : CfgPoint) (j : ℕ) → OnePairEach F first T K q j (pairs F first T K K q j)
  one_pair_each q j = record {
    once = subst NoDup (sym (labels_are K q j)) (labels_once (sources K q) (source_point K q) (sources_once K q once));
    has_edge = λ l h.
        let w = map_in (label_of F first T K) (sources K q) (subst (In l) (labels_are K q j) h) in
        let s = source_of K q w.0 w.1 in
        (s.0, s.1, w.2 ∙ ap (label_of F first T K) s.2, s.3);
    has_pair = λ x h e. subst (In (label_of F first T K x.0)) (sym (labels_are K q j)) (in_map (label_of F first T K)
        (in_gather (λ (y : CfgPoint × BlockLifting). if_edge (count_in q y.1.term.targets) y.0) h (in_edge (count_in q x.1.term.targets) x.0 (in_count q x.1.term.targets e))));
    holds_value = λ x h e.
        pair_of_law F first T K ok x.0 q j x.1 (point_named F first T K x.0 (in_points K x h)) (in_count q x.1.term.targets e) K (find_unique K (unique_of K once) x.0 x.1 h);
  }
