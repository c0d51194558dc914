-- The walk: each region's entry, its nodes, its exit; each node's entry, its regions in turn, its exit.
use Rattle.std.specs.Prelude.{◌≡◌, refl, ◌⊎◌, List, [], ◌∷◌, ◌++◌, map, ℕ, ◌<◌, get_or, length}
use Rattle.std.proofs.Common.{sym, ap, ◌∙◌, subst, inl, inr, arith}
use Rattle.std.proofs.Math.Option.{none, some}
use Rattle.general_laws.specs.Lists.{choose, choose_no, find}
use Rattle.lifting.specs.Ast.{Func}
use Rattle.lifting.specs.Parts.{children_of, node_of, region_of}
use Rattle.lifting.specs.Points.{BlockLifting, CfgPoint, Table, eq_point, points}
use Rattle.general_laws.specs.Members.{In, NoDup, here, in_cases, in_nil, there}
use Rattle.general_laws.specs.Tests.{once_by}
use Rattle.lifting_runs.specs.AbsorbCount.{Unique}

pub points_append : (T U : Table) → points (T ++ U) ≡ points T ++ points U
points_append [] U = refl
points_append (x ∷ T) U = ap (λ (l : List CfgPoint). x.0 ∷ l) (points_append T U)

absent_none : (T : Table) (p : CfgPoint) → ¬ (In p (points T)) → find eq_point p T ≡ none
absent_none [] p h = refl
absent_none (x ∷ T) p h = choose_no (eq_point p x.0) (some x.1) (find eq_point p T) (λ e. h (subst (λ (y : CfgPoint). In p (y ∷ points T)) e here)) ∙ absent_none T p (λ i. h (there i))

pub unique_of : (T : Table) → NoDup (points T) → Unique T
unique_of [] h = tt
unique_of (x ∷ T) h = (absent_none T x.0 h.0, unique_of T h.1)

-- two positions of one point are one
points_map : (T : Table) → points T ≡ map (λ (x : CfgPoint × BlockLifting). x.0) T
points_map [] = refl
points_map (x ∷ T) = ap (λ (l : List CfgPoint). x.0 ∷ l) (points_map T)

pub same_position : (d : CfgPoint × BlockLifting) (T : Table) → NoDup (points T) → (n k : ℕ) → n < length T → k < length T → (get_or T n d).0 ≡ (get_or T k d).0 → n ≡ k
same_position d T u = once_by (λ (x : CfgPoint × BlockLifting). x.0) d T (subst NoDup (points_map T) u)

-- an entry of a table without repeats is what is found
pub in_points : (T : Table) (x : CfgPoint × BlockLifting) → In x T → In x.0 (points T)
in_points T x (here {l = U}) = here
in_points T x (there {l = U} h) = there (in_points U x h)

pub find_unique : (T : Table) → Unique T → (p : CfgPoint) (b : BlockLifting) → In (p, b) T → find eq_point p T ≡ some b
find_unique [] u p b h = absurd (in_nil h)
find_unique (x ∷ T) u p b h = by_case (eq_point p x.0) (in_cases h) (find_unique T u.1 p b)
  where
    by_case : (d : Dec (p ≡ x.0)) → (◌≡◌ {A = CfgPoint × BlockLifting} (p, b) x) ⊎ In (p, b) T → (In (p, b) T → find eq_point p T ≡ some b) → choose d (some x.1) (find eq_point p T) ≡ some b
    by_case (yes e) (inl q) ih = ap (λ (y : CfgPoint × BlockLifting). some y.1) (sym q)
    by_case (yes e) (inr i) ih = absurd (none_some (sym (subst (λ (y : CfgPoint). find eq_point y T ≡ none) (sym e) u.0) ∙ ih i))
      where
        none_some : none ≡ some b → ⊥
        none_some z = let w : ◌≡◌ {A = ℕ} 0 1 = cc in omega arith
    by_case (no n) (inl q) ih = absurd (n (ap (λ (y : CfgPoint × BlockLifting). y.0) q))
    by_case (no n) (inr i) ih = ih i

-- 5, and what it gives: a region's rank falls on the way in
pub record Tree (F : Func) (depth : ℕ) : Type 0 where
  -- a node stands exactly once in all regions' lists
  pub nodes_once : (r : ℕ) → NoDup (region_of F r).nodes
  pub node_once : (n r s : ℕ) → In n (region_of F r).nodes → In n (region_of F s).nodes → r ≡ s
  -- a region is child of two places
  pub cases_once : (n : ℕ) → NoDup (children_of (node_of F n))
  pub child_once : (n k c : ℕ) → In c (children_of (node_of F n)) → In c (children_of (node_of F k)) → n ≡ k
  -- or of itself through others
  pub rank : ℕ → ℕ
  pub rank_falls : (r n c : ℕ) → In n (region_of F r).nodes → In c (children_of (node_of F n)) → rank c < rank r
  pub rank_low : (r : ℕ) → rank r < depth
