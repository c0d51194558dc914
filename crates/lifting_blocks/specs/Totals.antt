-- Use counts: how often a point stands among all uses, and their total. Assumes nothing.
use Rattle.std.specs.Prelude.{◌≡◌, refl, List, [], ◌∷◌, ◌++◌, ℕ, suc, ◌+◌, ◌≤◌, length}
use Rattle.std.proofs.Common.{sym, ap, ap₂, ◌∙◌, subst, inl, inr, arith, length-append}
use Rattle.general_laws.specs.Lists.{choose, choose_no, choose_yes, gather}
use Rattle.lifting.specs.Ast.{Func}
use Rattle.lifting.specs.Points.{BlockLifting, CfgPoint, Table, eq_point, points}
use Rattle.lifting.specs.Walk.{walk_of}
use Rattle.lifting.specs.Absorb.{count_in, first_use, labels, count_one, use_count, uses}
use Rattle.general_laws.specs.Members.{In, NoDup, gather_in, here, in_cases, in_nil, in_split, there}
use Rattle.lifting_runs.specs.Shaped.{Shaped}
use Rattle.lifting_runs.proofs.Shaped.{walk_first, walk_once}
use Rattle.lifting_blocks.specs.Uses.{labels_visited}

-- all uses: the first point, and every target and merge label
abbrev pub first_point : Table → List CfgPoint
first_point [] = []
first_point (x ∷ T) = x.0 ∷ []

abbrev pub all_labels : Table → List CfgPoint
all_labels T = gather (λ x. labels x.1.term) T

abbrev pub uses_of : Table → List CfgPoint
uses_of T = first_point T ++ all_labels T

count_append : (q : CfgPoint) (k l : List CfgPoint) → count_in q (k ++ l) ≡ count_in q k + count_in q l
count_append q [] l = omega arith
count_append q (p ∷ k) l = omega (arith, count_append q k l)

uses_labels : (T : Table) (q : CfgPoint) → uses T q ≡ count_in q (all_labels T)
uses_labels [] q = refl
uses_labels (x ∷ T) q = omega (arith, uses_labels T q, count_append q (labels x.1.term) (all_labels T))

first_count : (T : Table) (q : CfgPoint) → first_use T q ≡ count_in q (first_point T)
first_count [] q = refl
first_count (x ∷ T) q = omega arith

-- a use count is how often the point stands among all uses
pub use_count_law : (T : Table) (q : CfgPoint) → use_count T q ≡ count_in q (uses_of T)
unfolding use_count
use_count_law T q = omega (arith, first_count T q, uses_labels T q, count_append q (first_point T) (all_labels T))

count_bound : (q : CfgPoint) (l : List CfgPoint) → count_in q l ≤ length l
count_bound q [] = omega arith
count_bound q (p ∷ l) = by_point (eq_point q p) (count_bound q l)
  where
    by_point : (d : Dec (q ≡ p)) → count_in q l ≤ length l → choose d 1 0 + count_in q l ≤ suc (length l)
    by_point (yes e) h = omega arith
    by_point (no n) h = omega arith

pub use_bound : (T : Table) (q : CfgPoint) → use_count T q ≤ length (uses_of T)
use_bound T q = omega (arith, use_count_law T q, count_bound q (uses_of T))

-- the sum of what f gives at each element
abbrev pub total : {A : Type 0} → (A → ℕ) → List A → ℕ
total f [] = 0
total f (p ∷ l) = f p + total f l

total_same : {A : Type 0} (f g : A → ℕ) → ((p : A) → f p ≡ g p) → (l : List A) → total f l ≡ total g l
total_same f g h [] = refl
total_same f g h (p ∷ l) = ap₂ ◌+◌ (h p) (total_same f g h l)

pub total_add : {A : Type 0} (f g : A → ℕ) (l : List A) → total (λ p. f p + g p) l ≡ total f l + total g l
total_add f g [] = refl
total_add f g (p ∷ l) = omega (arith, total_add f g l)

pub total_none : {A : Type 0} (l : List A) → total (λ p. 0) l ≡ 0
total_none [] = refl
total_none (p ∷ l) = omega (arith, total_none l)

-- what counts at one key only: nothing where the key does not stand, and no more than once where none stands twice
module _ {K : Type 0} (eq : (x y : K) → Dec (x ≡ y)) (y : K) (n : ℕ) where
  pub total_absent : (ks : List K) → ¬ (In y ks) → total (λ k. choose (eq k y) n 0) ks ≡ 0
  total_absent [] a = refl
  total_absent (k ∷ ks) a =
      omega (arith, choose_no {A = ℕ} (eq k y) n 0 (λ e. a (subst (λ (z : K). In z (k ∷ ks)) e here)), total_absent ks (λ i. a (there i)))

  pub total_once : (ks : List K) → NoDup ks → total (λ k. choose (eq k y) n 0) ks ≤ n
  total_once [] u = omega arith
  total_once (k ∷ ks) u = by_case (eq k y) (total_once ks u.1)
    where
      by_case : (d : Dec (k ≡ y)) → total (λ k. choose (eq k y) n 0) ks ≤ n → choose d n 0 + total (λ k. choose (eq k y) n 0) ks ≤ n
      by_case (yes e) ih = omega (arith, total_absent ks (subst (λ (z : K). ¬ (In z ks)) e u.0))
      by_case (no m) ih = omega arith

total_in : (q : CfgPoint) (l : List CfgPoint) → NoDup l → In q l → total (λ p. count_one p q) l ≡ 1
total_in q l n (here {l = k}) = omega (arith, choose_yes {A = ℕ} (eq_point q q) 1 0 refl, total_absent eq_point q 1 k n.0)
total_in q l n (there {y = p} {l = k} i) =
    omega (arith, choose_no {A = ℕ} (eq_point p q) 1 0 (λ e. n.0 (subst (λ (r : CfgPoint). In r k) (sym e) i)), total_in q k n.1 i)

-- over points without repeats, the counts in a list of those points add up to its length
total_counts : (l ps : List CfgPoint) → NoDup ps → ((q : CfgPoint) → In q l → In q ps) → total (λ p. count_in p l) ps ≡ length l
total_counts [] ps n h = total_none ps
total_counts (q ∷ l) ps n h =
    omega (arith, total_add (λ p. count_one p q) (λ p. count_in p l) ps, total_in q ps n (h q here), total_counts l ps n (λ r i. h r (there i)))

module _ (F : Func) (ok : Shaped F) where
  all_visited : (q : CfgPoint) → In q (uses_of (walk_of F)) → In q (points (walk_of F))
  all_visited q i = elim (in_split (first_point (walk_of F)) (all_labels (walk_of F)) i) [
    | inl a ↦ first_visited (walk_of F) a
    | inr b ↦ (let w = gather_in (λ (x : CfgPoint × BlockLifting). labels x.1.term) (walk_of F) b in labels_visited F ok w.0 w.1 q w.2)
  ]
    where
      first_visited : (T : Table) → In q (first_point T) → In q (points T)
      first_visited [] h = h
      first_visited (x ∷ T) h = elim (in_cases h) [ inl e ↦ subst (λ (p : CfgPoint). In p (x.0 ∷ points T)) (sym e) here | inr z ↦ absurd (in_nil z) ]

  -- all use counts of visited points: one for the first point, one for each target and merge label
  pub total_uses : total (use_count (walk_of F)) (points (walk_of F)) ≡ suc (length (all_labels (walk_of F)))
  total_uses =
      let T : Table = walk_of F in
      total_same (use_count T) (λ p. count_in p (uses_of T)) (use_count_law T) (points T)
      ∙ total_counts (uses_of T) (points T) (walk_once F ok) all_visited
      ∙ length-append (first_point T) (all_labels T)
      ∙ ap (λ (n : ℕ). n + length (all_labels T)) (ap (λ (U : Table). length (first_point U)) (walk_first F ok).1)
      ∙ omega arith
