-- What use counts say: a target of count 1 has its absorber as its only edge; counts after an absorption.
use Rattle.std.specs.Prelude.{◌≡◌, refl, List, [], ◌∷◌, ◌++◌, ℕ, zero, suc, ◌+◌, ◌≤◌}
use Rattle.std.proofs.Common.{sym, ap, ◌∙◌, subst, arith}
use Rattle.std.proofs.Math.Option.{Option, none, some}
use Rattle.general_laws.specs.Lists.{choose, choose_no, choose_yes, find}
use Rattle.lifting.specs.Ast.{ControlInstKind, Value, branch, exit_invocation, return, select_branch, unreachable}
use Rattle.lifting.specs.Parts.{targets}
use Rattle.lifting.specs.Points.{BlockLifting, CfgPoint, Merge, Table, Terminator, block_at, block_or, eq_point, loop_merge, no_merge, region_entry, selection_merge, straight}
use Rattle.lifting.specs.Absorb.{count_in, emptied, first_use, absorb_into, if_branch, if_empty, if_no_merge, if_zero, joined, labels, merge_labels, count_one, refit, the_only, sole_target, use_count, uses}
use Rattle.general_laws.specs.Members.{In, here, there}
use Rattle.lifting_runs.specs.AbsorbRun.{Absorbed}

none_some : {A : Type 0} {a : A} → none ≡ some a → ⊥
none_some {A} {a} e = let z : ◌≡◌ {A = ℕ} 0 1 = cc in omega arith

-- a branch that carries nothing else is a straight one
pub sole_straight : (e : Terminator) (q : CfgPoint) → sole_target e ≡ some q → e ≡ straight q
sole_straight e q h = go e.attrs e.kind e.ins e.targets e.vals e.merge h
  where
    go : (a : ℕ) (k : ControlInstKind) (is : List Value) (ts : List CfgPoint) (vs : List (CfgPoint × List Value)) (m : Merge)
        → if_zero a (if_branch k (if_empty is (if_empty vs (if_no_merge m (the_only ts))))) ≡ some q
        → ◌≡◌ {A = Terminator} (record { attrs = a; kind = k; ins = is; targets = ts; vals = vs; merge = m }) (straight q)
    go (suc a) k is ts vs m h = absurd (none_some h)
    go zero unreachable is ts vs m h = absurd (none_some h)
    go zero return is ts vs m h = absurd (none_some h)
    go zero (select_branch k) is ts vs m h = absurd (none_some h)
    go zero (exit_invocation i) is ts vs m h = absurd (none_some h)
    go zero branch (v ∷ is) ts vs m h = absurd (none_some h)
    go zero branch [] ts (v ∷ vs) m h = absurd (none_some h)
    go zero branch [] ts [] (selection_merge a u) h = absurd (none_some h)
    go zero branch [] ts [] (loop_merge a b u) h = absurd (none_some h)
    go zero branch [] [] [] no_merge h = absurd (none_some h)
    go zero branch [] (p ∷ []) [] no_merge h = ap straight (some_inj h)
      where
        some_inj : some p ≡ some q → p ≡ q
        some_inj x = cc
    go zero branch [] (p ∷ r ∷ ts) [] no_merge h = absurd (none_some h)

-- counts
pub in_count : (q : CfgPoint) (l : List CfgPoint) → In q l → 1 ≤ count_in q l
in_count q l (here {l = k}) = omega (arith, choose_yes {A = ℕ} (eq_point q q) 1 0 refl)
in_count q l (there {l = k} h) = omega (arith, in_count q k h)

pub in_append : {A : Type 0} (q : A) (k l : List A) → In q l → In q (k ++ l)
in_append q [] l h = h
in_append q (x ∷ k) l h = there (in_append q k l h)

pub in_labels : (q : CfgPoint) (e : Terminator) → In q e.targets → 1 ≤ count_in q (labels e)
in_labels q e h = in_count q (labels e) (in_append q (merge_labels e.merge) e.targets h)

-- the uses of q by the block at p
abbrev pub uses_from : Table → CfgPoint → CfgPoint → ℕ
uses_from T p q = count_in q (labels (block_at T p).term)

pub at_uses : (T : Table) (p q : CfgPoint) → uses_from T p q ≤ uses T q
at_uses [] p q = omega arith
at_uses (x ∷ T) p q = by_case (eq_point p x.0) (at_uses T p q)
  where
    by_case : (d : Dec (p ≡ x.0)) → uses_from T p q ≤ uses T q → count_in q (labels (block_or (choose d (some x.1) (find eq_point p T))).term) ≤ count_in q (labels x.1.term) + uses T q
    by_case (yes e) h = omega arith
    by_case (no n) h = omega arith

pub two_uses : (T : Table) (p r q : CfgPoint) → ¬ (p ≡ r) → uses_from T p q + uses_from T r q ≤ uses T q
two_uses [] p r q n = omega arith
two_uses (x ∷ T) p r q n = by_case (eq_point p x.0) (eq_point r x.0) (at_uses T p q) (at_uses T r q) (two_uses T p r q n)
  where
    by_case : (d : Dec (p ≡ x.0)) (d_right : Dec (r ≡ x.0)) → uses_from T p q ≤ uses T q → uses_from T r q ≤ uses T q → uses_from T p q + uses_from T r q ≤ uses T q
        → count_in q (labels (block_or (choose d (some x.1) (find eq_point p T))).term) + count_in q (labels (block_or (choose d_right (some x.1) (find eq_point r T))).term)
        ≤ count_in q (labels x.1.term) + uses T q
    by_case (yes e) (yes e_right) h h_right h_last = absurd (n (e ∙ sym e_right))
    by_case (yes e) (no n_right) h h_right h_last = omega arith
    by_case (no n_right) (yes e) h h_right h_last = omega arith
    by_case (no n_right) (no n_last) h h_right h_last = omega arith

-- absorption as seen from one point
abbrev pub on_some : (BlockLifting → BlockLifting) → Option BlockLifting → Option BlockLifting
on_some f none = none
on_some f (some d) = some (f d)

pub find_absorb : (b t : CfgPoint) (c : BlockLifting) (T : Table) (q : CfgPoint) → find eq_point q (absorb_into b t c T) ≡ on_some (refit b t c q) (find eq_point q T)
find_absorb b t c [] q = refl
find_absorb b t c (x ∷ T) q = by_case (eq_point q x.0) (find_absorb b t c T q)
  where
    by_case : (d : Dec (q ≡ x.0)) → find eq_point q (absorb_into b t c T) ≡ on_some (refit b t c q) (find eq_point q T)
        → choose d (some (refit b t c x.0 x.1)) (find eq_point q (absorb_into b t c T)) ≡ on_some (refit b t c q) (choose d (some x.1) (find eq_point q T))
    by_case (yes e) h = ap (λ (p : CfgPoint). some (refit b t c p x.1)) (sym e)
    by_case (no n) h = h

pub refit_t : (b t : CfgPoint) (c d : BlockLifting) → refit b t c t d ≡ emptied d
refit_t b t c d = choose_yes (eq_point t t) _ _ refl

pub refit_b : (b t : CfgPoint) (c d : BlockLifting) → ¬ (b ≡ t) → refit b t c b d ≡ joined d c
refit_b b t c d n = choose_no (eq_point b t) _ _ n ∙ choose_yes (eq_point b b) _ _ refl

pub refit_other : (b t : CfgPoint) (c : BlockLifting) (p : CfgPoint) (d : BlockLifting) → ¬ (p ≡ t) → ¬ (p ≡ b) → refit b t c p d ≡ d
refit_other b t c p d nt nb = choose_no (eq_point p t) _ _ nt ∙ choose_no (eq_point p b) _ _ nb

pub refit_keys : (b t : CfgPoint) (c : BlockLifting) (p : CfgPoint) (d : BlockLifting) → ((refit b t c p d).keys ≡ d.keys) × ((refit b t c p d).defaults ≡ d.defaults)
refit_keys b t c p d = by_case (eq_point p t) (eq_point p b)
  where
    by_case : {P Q : Type 0} (x : Dec P) (y : Dec Q) → ((choose x (emptied d) (choose y (joined d c) d)).keys ≡ d.keys) × ((choose x (emptied d) (choose y (joined d c) d)).defaults ≡ d.defaults)
    by_case (yes e) y = (refl, refl)
    by_case (no n) (yes e) = (refl, refl)
    by_case (no n) (no m) = (refl, refl)

pub block_other : (b t : CfgPoint) (c : BlockLifting) (T : Table) (q : CfgPoint) → ¬ (q ≡ t) → ¬ (q ≡ b) → block_at (absorb_into b t c T) q ≡ block_at T q
block_other b t c T q nt nb = ap block_or (find_absorb b t c T q) ∙ by_case (find eq_point q T)
  where
    by_case : (o : Option BlockLifting) → block_or (on_some (refit b t c q) o) ≡ block_or o
    by_case none = refl
    by_case (some d) = refit_other b t c q d nt nb

pub block_keys : (b t : CfgPoint) (c : BlockLifting) (T : Table) (q : CfgPoint)
    → ((block_at (absorb_into b t c T) q).keys ≡ (block_at T q).keys) × ((block_at (absorb_into b t c T) q).defaults ≡ (block_at T q).defaults)
block_keys b t c T q = let r = by_case (find eq_point q T) in
    (ap (λ (o : Option BlockLifting). (block_or o).keys) (find_absorb b t c T q) ∙ r.0, ap (λ (o : Option BlockLifting). (block_or o).defaults) (find_absorb b t c T q) ∙ r.1)
  where
    by_case : (o : Option BlockLifting) → ((block_or (on_some (refit b t c q) o)).keys ≡ (block_or o).keys) × ((block_or (on_some (refit b t c q) o)).defaults ≡ (block_or o).defaults)
    by_case none = (refl, refl)
    by_case (some d) = refit_keys b t c q d

-- a block that leads somewhere is in the table
found : (o : Option BlockLifting) (t : CfgPoint) → (block_or o).term ≡ straight t → (d : BlockLifting) × (o ≡ some d)
found none t e = absurd (none_some (sym (ap (λ (x : Terminator). the_only x.targets) (sym e))))
found (some d) t e = (d, refl)

block_b : (b t : CfgPoint) (c : BlockLifting) (T : Table) → (block_at T b).term ≡ straight t → ¬ (b ≡ t) → block_at (absorb_into b t c T) b ≡ joined (block_at T b) c
block_b b t c T e n = by_case (find eq_point b T) (found (find eq_point b T) t e) (find_absorb b t c T b)
  where
    by_case : (o : Option BlockLifting) → (d : BlockLifting) × (o ≡ some d) → find eq_point b (absorb_into b t c T) ≡ on_some (refit b t c b) o → block_at (absorb_into b t c T) b ≡ joined (block_or o) c
    by_case none w f = absurd (none_some w.1)
    by_case (some d) w f = ap block_or f ∙ refit_b b t c d n

-- the key fact: a target of count 1 has its absorber as its only edge
pub absorbed_of : (T : Table) (b t : CfgPoint) → first_use T (region_entry 0) ≡ 1 → (block_at T b).term ≡ straight t → use_count T t ≡ 1
    → (block_at T t).keys ≡ [] → (block_at T t).defaults ≡ [] → Absorbed (block_at T) (block_at (absorb_into b t (block_at T t) T)) b t
unfolding use_count
absorbed_of T b t st e u ks ds = record { leads = e; no_keys_law = ks; no_defaults = ds; only = only_b; not_first = off; at_b = block_b b t (block_at T t) T e; elsewhere = block_other b t (block_at T t) T }
  where
    own : uses_from T b t ≡ 1
    own = ap (λ (x : Terminator). count_in t (labels x)) e ∙ add0 (choose_yes {A = ℕ} (eq_point t t) 1 0 refl)
      where
        add0 : count_one t t ≡ 1 → count_one t t + 0 ≡ 1
        add0 h = omega arith

    only_b : (q p : CfgPoint) → ¬ (q ≡ b) → In p (block_at T q).term.targets → ¬ (p ≡ t)
    only_b q p n i x = omega (arith, two_uses T q b t n, own, u, in_labels t (block_at T q).term (subst (λ (y : CfgPoint). In y (block_at T q).term.targets) x i))

    off : ¬ (region_entry 0 ≡ t)
    off x = omega (arith, at_uses T b t, own, u, sym (ap (first_use T) x) ∙ st)

-- each point at most once
abbrev pub Unique : Table → Type 0
Unique [] = Unit {0}
Unique (x ∷ T) = (find eq_point x.0 T ≡ none) × Unique T

-- a point that is not there uses nothing
absent : (T : Table) (p q : CfgPoint) → find eq_point p T ≡ none → uses_from T p q ≡ 0
absent T p q h = ap (λ (o : Option BlockLifting). count_in q (labels (block_or o).term)) h

gain : Option BlockLifting → ℕ → ℕ
gain none k = 0
gain (some d) k = k

-- what the uses become
absorb_uses : (b t : CfgPoint) (c : BlockLifting) (q : CfgPoint) → ¬ (b ≡ t) → (T : Table) → Unique T
    → uses (absorb_into b t c T) q + (uses_from T b q + uses_from T t q) ≡ uses T q + gain (find eq_point b T) (count_in q (labels c.term))
unfolding gain
absorb_uses b t c q n [] u = refl
absorb_uses b t c q n (x ∷ T) u = by_case (eq_point b x.0) (eq_point t x.0) (absorb_uses b t c q n T u.1)
  where
    K : ℕ
    K = count_in q (labels c.term)

    X : ℕ
    X = count_in q (labels x.1.term)

    by_case : (d : Dec (b ≡ x.0)) (d_right : Dec (t ≡ x.0))
        → uses (absorb_into b t c T) q + (uses_from T b q + uses_from T t q) ≡ uses T q + gain (find eq_point b T) K
        → count_in q (labels (refit b t c x.0 x.1).term) + uses (absorb_into b t c T) q
        + (count_in q (labels (block_or (choose d (some x.1) (find eq_point b T))).term) + count_in q (labels (block_or (choose d_right (some x.1) (find eq_point t T))).term))
        ≡ X + uses T q + gain (choose d (some x.1) (find eq_point b T)) K
    by_case (yes e) (yes e_right) h = absurd (n (e ∙ sym e_right))
    by_case (yes e) (no n_right) h =
        let nb : find eq_point b T ≡ none = subst (λ (p : CfgPoint). find eq_point p T ≡ none) (sym e) u.0 in
        let r : count_in q (labels (refit b t c x.0 x.1).term) ≡ K
        = ap (λ (d : BlockLifting). count_in q (labels d.term)) (subst (λ (p : CfgPoint). refit b t c p x.1 ≡ joined x.1 c) e (refit_b b t c x.1 n)) in
        let a = absent T b q nb in
        let g : gain (find eq_point b T) K ≡ 0 = ap (λ (o : Option BlockLifting). gain o K) nb in
        omega arith
    by_case (no n_right) (yes e) h =
        let nt : find eq_point t T ≡ none = subst (λ (p : CfgPoint). find eq_point p T ≡ none) (sym e) u.0 in
        let r : count_in q (labels (refit b t c x.0 x.1).term) ≡ 0
        = ap (λ (d : BlockLifting). count_in q (labels d.term)) (subst (λ (p : CfgPoint). refit b t c p x.1 ≡ emptied x.1) e (refit_t b t c x.1)) in
        let a = absent T t q nt in
        omega arith
    by_case (no n_right) (no n_last) h =
        let r : count_in q (labels (refit b t c x.0 x.1).term) ≡ X
        = ap (λ (d : BlockLifting). count_in q (labels d.term)) (refit_other b t c x.0 x.1 (λ z. n_last (sym z)) (λ z. n_right (sym z))) in
        omega arith

-- a block that would absorb itself
absorb_self : (t : CfgPoint) (c : BlockLifting) (q : CfgPoint) → (T : Table) → Unique T → uses (absorb_into t t c T) q + uses_from T t q ≡ uses T q
absorb_self t c q [] u = refl
absorb_self t c q (x ∷ T) u = by_case (eq_point t x.0) (absorb_self t c q T u.1)
  where
    by_case : (d : Dec (t ≡ x.0)) → uses (absorb_into t t c T) q + uses_from T t q ≡ uses T q
        → count_in q (labels (refit t t c x.0 x.1).term) + uses (absorb_into t t c T) q + count_in q (labels (block_or (choose d (some x.1) (find eq_point t T))).term)
        ≡ count_in q (labels x.1.term) + uses T q
    by_case (yes e) h =
        let nt : find eq_point t T ≡ none = subst (λ (p : CfgPoint). find eq_point p T ≡ none) (sym e) u.0 in
        let r : count_in q (labels (refit t t c x.0 x.1).term) ≡ 0
        = ap (λ (d : BlockLifting). count_in q (labels d.term)) (subst (λ (p : CfgPoint). refit t t c p x.1 ≡ emptied x.1) e (refit_t t t c x.1)) in
        let a = absent T t q nt in
        omega arith
    by_case (no n) h =
        let r : count_in q (labels (refit t t c x.0 x.1).term) ≡ count_in q (labels x.1.term)
        = ap (λ (d : BlockLifting). count_in q (labels d.term)) (refit_other t t c x.0 x.1 (λ z. n (sym z)) (λ z. n (sym z))) in
        omega arith

lead_uses : (T : Table) (b t q : CfgPoint) → (block_at T b).term ≡ straight t → uses_from T b q ≡ count_one q t
lead_uses T b t q e = ap (λ (x : Terminator). count_in q (labels x)) e ∙ plus0 (count_one q t)
  where
    plus0 : (n : ℕ) → n + 0 ≡ n
    plus0 n = omega arith

gain_of : (T : Table) (b t : CfgPoint) (k : ℕ) → (block_at T b).term ≡ straight t → gain (find eq_point b T) k ≡ k
unfolding gain
gain_of T b t k e = ap (λ (o : Option BlockLifting). gain o k) (found (find eq_point b T) t e).1

-- an absorption takes away the one use of its target and no other
pub uses_after : (T : Table) (b t q : CfgPoint) → Unique T → (block_at T b).term ≡ straight t → uses T q ≡ count_one q t + uses (absorb_into b t (block_at T t) T) q
uses_after T b t q u e = by_case (eq_point b t)
  where
    c : BlockLifting
    c = block_at T t

    by_case : Dec (b ≡ t) → uses T q ≡ count_one q t + uses (absorb_into b t c T) q
    by_case (yes x) =
        let s : uses (absorb_into b t c T) q + uses_from T t q ≡ uses T q = subst (λ (p : CfgPoint). uses (absorb_into p t c T) q + uses_from T t q ≡ uses T q) (sym x) (absorb_self t c q T u) in
        let l : uses_from T t q ≡ count_one q t = subst (λ (p : CfgPoint). uses_from T p q ≡ count_one q t) x (lead_uses T b t q e) in
        omega arith
    by_case (no n) = omega (arith, absorb_uses b t c q n T u, lead_uses T b t q e, gain_of T b t (count_in q (labels c.term)) e)

pub first_after : (b t : CfgPoint) (c : BlockLifting) (T : Table) (q : CfgPoint) → first_use (absorb_into b t c T) q ≡ first_use T q
first_after b t c [] q = refl
first_after b t c (x ∷ T) q = refl

pub unique_after : (b t : CfgPoint) (c : BlockLifting) (T : Table) → Unique T → Unique (absorb_into b t c T)
unique_after b t c [] u = tt
unique_after b t c (x ∷ T) u = (find_absorb b t c T x.0 ∙ ap (on_some (refit b t c x.0)) u.0, unique_after b t c T u.1)

pub counts_after : (T : Table) (b t q : CfgPoint) → Unique T → (block_at T b).term ≡ straight t → use_count T t ≡ 1
    → choose (eq_point q t) 0 (use_count T q) ≡ use_count (absorb_into b t (block_at T t) T) q
unfolding use_count
counts_after T b t q u e k = by_case (eq_point q t)
  where
    c : BlockLifting
    c = block_at T t

    by_case : (d : Dec (q ≡ t)) → choose d 0 (use_count T q) ≡ use_count (absorb_into b t c T) q
    by_case (yes x) =
        let o : count_one q t ≡ 1 = choose_yes {A = ℕ} (eq_point q t) 1 0 x in
        let s : use_count T q ≡ 1 = subst (λ (p : CfgPoint). use_count T p ≡ 1) (sym x) k in
        omega (arith, uses_after T b t q u e, first_after b t c T q)
    by_case (no n) =
        let o : count_one q t ≡ 0 = choose_no {A = ℕ} (eq_point q t) 1 0 n in
        omega (arith, uses_after T b t q u e, first_after b t c T q)
