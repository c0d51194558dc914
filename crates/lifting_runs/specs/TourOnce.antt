-- The walk visits each point once.
use Rattle.std.proofs.Math.Path.{◌≡◌, ap, subst}
use Rattle.std.specs.Prelude.{refl, ◌⊎◌, ℕ, zero, suc, ◌≤◌}
use Rattle.std.proofs.Common.{sym, ◌∙◌, arith}
use Rattle.std.proofs.Math.Logic.{inl, inr}
use mathlib.Core.List.{List, [], ◌∷◌, ◌++◌}
use Rattle.lifting.specs.Ast.{Func}
use Rattle.lifting.specs.Parts.{children_of, node_of, region_of}
use Rattle.lifting.specs.Points.{BlockLifting, CfgPoint, Table, node_entry, node_exit, points, region_entry, region_exit}
use Rattle.lifting.specs.Walk.{Place, entry_block, exit_block, in_node, next_point, out_block, top, walk_kids, walk_node, walk_nodes, walk_region, walk_roots}
use Rattle.general_laws.specs.Members.{In, NoDup, here, in_cases, in_nil, in_split, nodup_append, there}
use Rattle.lifting_runs.specs.Accepted.{Root}
use Rattle.lifting_runs.specs.Tour.{Tree, points_append}

-- points of different kinds
point_kind : CfgPoint → ℕ
point_kind (region_entry r) = 0
point_kind (region_exit r) = 1
point_kind (node_entry n) = 2
point_kind (node_exit n) = 3

num_of : CfgPoint → ℕ
num_of (region_entry r) = r
num_of (region_exit r) = r
num_of (node_entry n) = n
num_of (node_exit n) = n

module _ (F : Func) (depth : ℕ) (tr : Tree F depth) where
  -- d lies in r
  data Under (r : ℕ) : ℕ → Type 0 where
    self : Under r r
    below : {s d : ℕ} (n : ℕ) → Under r s → In n (region_of F s).nodes → In d (children_of (node_of F n)) → Under r d

  -- p is a point of region d
  data Home (d : ℕ) : CfgPoint → Type 0 where
    home_entry : Home d (region_entry d)
    home_exit : Home d (region_exit d)
    home_in : {n : ℕ} → In n (region_of F d).nodes → Home d (node_entry n)
    home_out : {n : ℕ} → In n (region_of F d).nodes → Home d (node_exit n)

  under_trans : {r s d : ℕ} → Under r s → Under s d → Under r d
  under_trans a self = a
  under_trans a (below n b i j) = below n (under_trans a b) i j

  under_rank : {r d : ℕ} → Under r d → tr.rank d ≤ tr.rank r
  under_rank self = omega arith
  under_rank (below {s} {d} n u i j) = omega (arith, under_rank u, tr.rank_falls s n d i j)

  -- the region of a point is its own
  home_is : {d : ℕ} {p : CfgPoint} → Home d p → ((point_kind p ≡ 0) × (num_of p ≡ d)) ⊎ (((point_kind p ≡ 1) × (num_of p ≡ d)) ⊎ (((point_kind p ≡ 2) × In (num_of p) (region_of F d).nodes) ⊎ ((point_kind p ≡ 3) × In (num_of p) (region_of F d).nodes)))
  unfolding point_kind num_of
  home_is home_entry = inl (refl, refl)
  home_is home_exit = inr (inl (refl, refl))
  home_is (home_in i) = inr (inr (inl (refl, i)))
  home_is (home_out i) = inr (inr (inr (refl, i)))

  home_once : {d e : ℕ} {p : CfgPoint} → Home d p → Home e p → d ≡ e
  home_once {d} {e} {p} a b = by_case (home_is a) (home_is b)
    where
      Four : ℕ → Type 0
      Four d = ((point_kind p ≡ 0) × (num_of p ≡ d)) ⊎ (((point_kind p ≡ 1) × (num_of p ≡ d)) ⊎ (((point_kind p ≡ 2) × In (num_of p) (region_of F d).nodes) ⊎ ((point_kind p ≡ 3) × In (num_of p) (region_of F d).nodes)))

      by_case : Four d → Four e → d ≡ e
      by_case (inl x) (inl y) = sym x.1 ∙ y.1
      by_case (inl x) (inr (inl y)) = absurd (omega arith)
      by_case (inl x) (inr (inr (inl y))) = absurd (omega arith)
      by_case (inl x) (inr (inr (inr y))) = absurd (omega arith)
      by_case (inr (inl x)) (inl y) = absurd (omega arith)
      by_case (inr (inl x)) (inr (inl y)) = sym x.1 ∙ y.1
      by_case (inr (inl x)) (inr (inr (inl y))) = absurd (omega arith)
      by_case (inr (inl x)) (inr (inr (inr y))) = absurd (omega arith)
      by_case (inr (inr (inl x))) (inl y) = absurd (omega arith)
      by_case (inr (inr (inl x))) (inr (inl y)) = absurd (omega arith)
      by_case (inr (inr (inl x))) (inr (inr (inl y))) = tr.node_once (num_of p) d e x.1 y.1
      by_case (inr (inr (inl x))) (inr (inr (inr y))) = absurd (omega arith)
      by_case (inr (inr (inr x))) (inl y) = absurd (omega arith)
      by_case (inr (inr (inr x))) (inr (inl y)) = absurd (omega arith)
      by_case (inr (inr (inr x))) (inr (inr (inl y))) = absurd (omega arith)
      by_case (inr (inr (inr x))) (inr (inr (inr y))) = tr.node_once (num_of p) d e x.1 y.1

  under_cases : {b e : ℕ} → Under b e → (e ≡ b) ⊎ ((s : ℕ) × (m : ℕ) × Under b s × In m (region_of F s).nodes × In e (children_of (node_of F m)))
  under_cases self = inl refl
  under_cases (below {s} n u i j) = inr (s, n, u, i, j)

  -- the region of a node, and the node of a child
  place_once : (s r m n c : ℕ) → In m (region_of F s).nodes → In c (children_of (node_of F m)) → In n (region_of F r).nodes → In c (children_of (node_of F n)) → s ≡ r
  place_once s r m n c i j i_right j_right = tr.node_once n s r (subst (λ (x : ℕ). In x (region_of F s).nodes) (tr.child_once m n c j j_right) i) i_right

  -- two children in one region that share a region below are one
  siblings : (r n k c b : ℕ) {d : ℕ} → In n (region_of F r).nodes → In c (children_of (node_of F n)) → In k (region_of F r).nodes → In b (children_of (node_of F k)) → Under c d → Under b d → c ≡ b
  siblings r n k c b ni ci ki bi self u = by_case (under_cases u)
    where
      by_case : (c ≡ b) ⊎ ((s : ℕ) × (m : ℕ) × Under b s × In m (region_of F s).nodes × In c (children_of (node_of F m))) → c ≡ b
      by_case (inl e) = e
      by_case (inr (s, m, v, i, j)) =
          let e = place_once s r m n c i j ni ci in
          absurd (omega (arith, under_rank (subst (Under b) e v), tr.rank_falls r k b ki bi))
  siblings r n k c b ni ci ki bi (below {s} {d} m x i j) u = by_case (under_cases u) (λ v. siblings r n k c b ni ci ki bi x v)
    where
      by_case : (d ≡ b) ⊎ ((t : ℕ) × (l : ℕ) × Under b t × In l (region_of F t).nodes × In d (children_of (node_of F l))) → (Under b s → c ≡ b) → c ≡ b
      by_case (inl e) ih =
          let q = place_once s r m k b i (subst (λ (y : ℕ). In y (children_of (node_of F m))) e j) ki bi in
          absurd (omega (arith, under_rank (subst (Under c) q x), tr.rank_falls r n c ni ci))
      by_case (inr (t, l, v, i_right, j_right)) ih = ih (subst (Under b) (place_once t s l m d i_right j_right i j) v)

  roots_apart : {r s d : ℕ} → Root F r → Root F s → Under r d → Under s d → r ≡ s
  roots_apart {r} {s} rr rs self u = by_case (under_cases u)
    where
      by_case : (r ≡ s) ⊎ ((t : ℕ) × (m : ℕ) × Under s t × In m (region_of F t).nodes × In r (children_of (node_of F m))) → r ≡ s
      by_case (inl e) = e
      by_case (inr (t, m, v, i, j)) = absurd (rr m j)
  roots_apart {r} {s} rr rs (below {s = t} {d} m x i j) u = by_case (under_cases u) (λ v. roots_apart rr rs x v)
    where
      by_case : (d ≡ s) ⊎ ((t_right : ℕ) × (l : ℕ) × Under s t_right × In l (region_of F t_right).nodes × In d (children_of (node_of F l))) → (Under s t → r ≡ s) → r ≡ s
      by_case (inl e) ih = absurd (rs m (subst (λ (y : ℕ). In y (children_of (node_of F m))) e j))
      by_case (inr (t_right, l, v, i_right, j_right)) ih = ih (subst (Under s) (place_once t_right t l m d i_right j_right i j) v)

  abbrev Kid : ℕ → CfgPoint → Type 0
  Kid n p = (c : ℕ) × (d : ℕ) × In c (children_of (node_of F n)) × Under c d × Home d p

  abbrev Spot : ℕ → CfgPoint → Type 0
  Spot n p = (p ≡ node_entry n) ⊎ ((p ≡ node_exit n) ⊎ Kid n p)

  module _ (w : ℕ → Place → Table) (spot : (c : ℕ) (q : Place) (p : CfgPoint) → In p (points (w c q)) → (d : ℕ) × Under c d × Home d p) where
    split : {p : CfgPoint} (T U : Table) → In p (points (T ++ U)) → In p (points T) ⊎ In p (points U)
    split {p} T U h = in_split (points T) (points U) (subst (In p) (points_append T U) h)

    kids_spot : (n : ℕ) (cs : List ℕ) (p : CfgPoint) → In p (points (walk_kids F w n cs)) → (c : ℕ) × (d : ℕ) × In c cs × Under c d × Home d p
    kids_spot n [] p h = absurd (in_nil h)
    kids_spot n (c ∷ cs) p h = by_case (split (w c (in_node n)) (walk_kids F w n cs) h) (kids_spot n cs p)
      where
        by_case : In p (points (w c (in_node n))) ⊎ In p (points (walk_kids F w n cs)) → (In p (points (walk_kids F w n cs)) → (b : ℕ) × (d : ℕ) × In b cs × Under b d × Home d p)
            → (b : ℕ) × (d : ℕ) × In b (c ∷ cs) × Under b d × Home d p
        by_case (inl i) ih = let x = spot c (in_node n) p i in (c, x.0, here, x.1, x.2)
        by_case (inr i) ih = let x = ih i in (x.0, x.1, there x.2, x.3, x.4)

    node_spot : (n : ℕ) (q p : CfgPoint) → In p (points (walk_node F w n q)) → Spot n p
    node_spot n q p h = by_case (in_cases h)
      where
        last : In p (node_exit n ∷ []) → Spot n p
        last i = elim (in_cases i) [ inl e ↦ inr (inl e) | inr e ↦ absurd (in_nil e) ]

        by_case : (p ≡ node_entry n) ⊎ In p (points (walk_kids F w n (children_of (node_of F n)) ++ ((node_exit n, out_block F (node_of F n) n q) ∷ []))) → Spot n p
        by_case (inl e) = inl e
        by_case (inr i) = elim (split (walk_kids F w n (children_of (node_of F n))) _ i) [ inl a ↦ inr (inr (kids_spot n (children_of (node_of F n)) p a)) | inr b ↦ last b ]

    nodes_spot : (r : ℕ) (ns : List ℕ) (p : CfgPoint) → In p (points (walk_nodes F w r ns)) → (n : ℕ) × In n ns × Spot n p
    nodes_spot r [] p h = absurd (in_nil h)
    nodes_spot r (n ∷ ns) p h = by_case (split (walk_node F w n (next_point r ns)) (walk_nodes F w r ns) h) (nodes_spot r ns p)
      where
        by_case : In p (points (walk_node F w n (next_point r ns))) ⊎ In p (points (walk_nodes F w r ns)) → (In p (points (walk_nodes F w r ns)) → (k : ℕ) × In k ns × Spot k p) → (k : ℕ) × In k (n ∷ ns) × Spot k p
        by_case (inl i) ih = (n, here, node_spot n (next_point r ns) p i)
        by_case (inr i) ih = let x = ih i in (x.0, there x.1, x.2)

    kids_once : ((c : ℕ) (q : Place) → NoDup (points (w c q))) → (r n : ℕ) → In n (region_of F r).nodes → (cs : List ℕ) → ((c : ℕ) → In c cs → In c (children_of (node_of F n))) → NoDup cs → NoDup (points (walk_kids F w n cs))
    kids_once once r n ni [] sub nd = tt
    kids_once once r n ni (c ∷ cs) sub nd =
        subst NoDup (sym (points_append (w c (in_node n)) (walk_kids F w n cs)))
        (nodup_append _ _ (once c (in_node n)) (kids_once once r n ni cs (λ b i. sub b (there i)) nd.1) (λ p a b.
        let x = spot c (in_node n) p a in
        let y = kids_spot n cs p b in
        let e : y.1 ≡ x.0 = home_once y.4 x.2 in
        nd.0 (subst (λ (z : ℕ). In z cs) (sym (siblings r n n c y.0 ni (sub c here) ni (sub y.0 (there y.2)) x.1 (subst (Under y.0) e y.3))) y.2)))

    -- a kid's point is no point of the region itself
    kid_home : (r n : ℕ) (p : CfgPoint) → In n (region_of F r).nodes → Kid n p → Home r p → ⊥
    kid_home r n p ni (c, d, ci, u, h) g = omega (arith, under_rank u, tr.rank_falls r n c ni ci, ap tr.rank (home_once h g))

    entry_exit : {a b : ℕ} → node_entry a ≡ node_exit b → ⊥
    entry_exit {a} {b} e = let z : ◌≡◌ {A = ℕ} 0 1 = cc in omega arith

    node_nodup : ((c : ℕ) (q : Place) → NoDup (points (w c q))) → (r n : ℕ) (q : CfgPoint) → In n (region_of F r).nodes → NoDup (points (walk_node F w n q))
    node_nodup once r n q ni =
        let kids = walk_kids F w n (children_of (node_of F n)) in
        let last : List CfgPoint = node_exit n ∷ [] in
        let e : points (walk_node F w n q) ≡ node_entry n ∷ (points kids ++ last) = ap (λ (l : List CfgPoint). node_entry n ∷ l) (points_append kids _) in
        subst NoDup (sym e) (
          λ i. elim (in_split (points kids) last i) [
            | inl a ↦ kid_home r n (node_entry n) ni (kids_spot n (children_of (node_of F n)) (node_entry n) a) (home_in ni)
            | inr b ↦ elim (in_cases b) [ inl z ↦ entry_exit z | inr z ↦ in_nil z ]
          ],
          nodup_append (points kids) last (kids_once once r n ni (children_of (node_of F n)) (λ c i. i) (tr.cases_once n)) (λ z. in_nil z, tt)
              (λ p a b. elim (in_cases b) [
                | inl z ↦ kid_home r n (node_exit n) ni (subst (Kid n) z (kids_spot n (children_of (node_of F n)) p a)) (home_out ni)
                | inr z ↦ in_nil z
              ]),
        )

    spots_apart : (r n k : ℕ) (p : CfgPoint) → In n (region_of F r).nodes → In k (region_of F r).nodes → Spot n p → Spot k p → n ≡ k
    spots_apart r n k p ni ki (inl e) (inl e_right) = entry_inj (sym e ∙ e_right)
      where
        entry_inj : node_entry n ≡ node_entry k → n ≡ k
        entry_inj x = cc
    spots_apart r n k p ni ki (inl e) (inr (inl e_right)) = absurd (entry_exit (sym e ∙ e_right))
    spots_apart r n k p ni ki (inl e) (inr (inr y)) = absurd (kid_home r k p ki y (subst (Home r) (sym e) (home_in ni)))
    spots_apart r n k p ni ki (inr (inl e)) (inl e_right) = absurd (entry_exit (sym e_right ∙ e))
    spots_apart r n k p ni ki (inr (inl e)) (inr (inl e_right)) = exit_inj (sym e ∙ e_right)
      where
        exit_inj : node_exit n ≡ node_exit k → n ≡ k
        exit_inj x = cc
    spots_apart r n k p ni ki (inr (inl e)) (inr (inr y)) = absurd (kid_home r k p ki y (subst (Home r) (sym e) (home_out ni)))
    spots_apart r n k p ni ki (inr (inr x)) (inl e_right) = absurd (kid_home r n p ni x (subst (Home r) (sym e_right) (home_in ki)))
    spots_apart r n k p ni ki (inr (inr x)) (inr (inl e_right)) = absurd (kid_home r n p ni x (subst (Home r) (sym e_right) (home_out ki)))
    spots_apart r n k p ni ki (inr (inr (c, d, ci, u, h))) (inr (inr (b, e, bi, v, g))) =
        let q : e ≡ d = home_once g h in
        let cb = siblings r n k c b ni ci ki bi u (subst (Under b) q v) in
        tr.child_once n k c ci (subst (λ (z : ℕ). In z (children_of (node_of F k))) (sym cb) bi)

    nodes_nodup : ((c : ℕ) (q : Place) → NoDup (points (w c q))) → (r : ℕ) (ns : List ℕ) → ((n : ℕ) → In n ns → In n (region_of F r).nodes) → NoDup ns → NoDup (points (walk_nodes F w r ns))
    nodes_nodup once r [] sub nd = tt
    nodes_nodup once r (n ∷ ns) sub nd =
        subst NoDup (sym (points_append (walk_node F w n (next_point r ns)) (walk_nodes F w r ns)))
        (nodup_append _ _ (node_nodup once r n (next_point r ns) (sub n here)) (nodes_nodup once r ns (λ k i. sub k (there i)) nd.1) (λ p a b.
        let y = nodes_spot r ns p b in
        nd.0 (subst (λ (z : ℕ). In z ns) (sym (spots_apart r n y.0 p (sub n here) (sub y.0 (there y.1)) (node_spot n (next_point r ns) p a) y.2)) y.1)))

  -- a region's walk
  own_or_nodes : (w : ℕ → Place → Table) (r : ℕ) (p : CfgPoint) (b c : BlockLifting) → In p (region_entry r ∷ points (walk_nodes F w r (region_of F r).nodes ++ ((region_exit r, c) ∷ [])))
      → (p ≡ region_entry r) ⊎ ((p ≡ region_exit r) ⊎ In p (points (walk_nodes F w r (region_of F r).nodes)))
  own_or_nodes w r p b c h = elim (in_cases h) [
    | inl e ↦ inl e
    | inr i ↦ elim (in_split (points (walk_nodes F w r (region_of F r).nodes)) (region_exit r ∷ []) (subst (In p) (points_append (walk_nodes F w r (region_of F r).nodes) ((region_exit r, c) ∷ [])) i)) [
      | inl a ↦ inr (inr a)
      | inr z ↦ elim (in_cases z) [ inl e ↦ inr (inl e) | inr y ↦ absurd (in_nil y) ]
    ]
  ]

  abbrev Placed : ℕ → CfgPoint → Type 0
  Placed r p = (d : ℕ) × Under r d × Home d p

  spot_placed : (r n : ℕ) (p : CfgPoint) → In n (region_of F r).nodes → Spot n p → Placed r p
  spot_placed r n p ni (inl e) = (r, self, subst (Home r) (sym e) (home_in ni))
  spot_placed r n p ni (inr (inl e)) = (r, self, subst (Home r) (sym e) (home_out ni))
  spot_placed r n p ni (inr (inr (c, d, ci, u, h))) = (d, under_trans (below n self ni ci) u, h)

  region_spot : (k r : ℕ) (q : Place) (p : CfgPoint) → In p (points (walk_region F k r q)) → Placed r p
  region_spot zero r q p h = absurd (in_nil h)
  region_spot (suc k) r q p h = by_case (λ c x y. region_spot k c x y) (own_or_nodes (λ c x. walk_region F k c x) r p (entry_block F r q) (exit_block F r q) h)
    where
      by_case : ((c : ℕ) (x : Place) (y : CfgPoint) → In y (points (walk_region F k c x)) → Placed c y)
          → (p ≡ region_entry r) ⊎ ((p ≡ region_exit r) ⊎ In p (points (walk_nodes F (λ c x. walk_region F k c x) r (region_of F r).nodes))) → Placed r p
      by_case ih (inl e) = (r, self, subst (Home r) (sym e) home_entry)
      by_case ih (inr (inl e)) = (r, self, subst (Home r) (sym e) home_exit)
      by_case ih (inr (inr i)) = let x = nodes_spot (λ c x. walk_region F k c x) ih r (region_of F r).nodes p i in spot_placed r x.0 p x.1 x.2

  -- no point of the nodes is the region's entry or exit
  spot_own : (r n : ℕ) (p : CfgPoint) → In n (region_of F r).nodes → Spot n p → (point_kind p ≡ 0) ⊎ (point_kind p ≡ 1) → Home r p → ⊥
  unfolding point_kind
  spot_own r n p ni (inl e) (inl k) g = omega (arith, ap point_kind e)
  spot_own r n p ni (inl e) (inr k) g = omega (arith, ap point_kind e)
  spot_own r n p ni (inr (inl e)) (inl k) g = omega (arith, ap point_kind e)
  spot_own r n p ni (inr (inl e)) (inr k) g = omega (arith, ap point_kind e)
  spot_own r n p ni (inr (inr (c, d, ci, u, h))) k g = omega (arith, under_rank u, tr.rank_falls r n c ni ci, ap tr.rank (home_once h g))

  region_step_law : (w : ℕ → Place → Table) (spot : (c : ℕ) (q : Place) (p : CfgPoint) → In p (points (w c q)) → (d : ℕ) × Under c d × Home d p) (once : (c : ℕ) (q : Place) → NoDup (points (w c q)))
      (r : ℕ) (c : BlockLifting) → NoDup (region_entry r ∷ points (walk_nodes F w r (region_of F r).nodes ++ ((region_exit r, c) ∷ [])))
  unfolding point_kind
  region_step_law w spot once r c =
      let ns = (region_of F r).nodes in
      let N = walk_nodes F w r ns in
      let last : List CfgPoint = region_exit r ∷ [] in
      let e : region_entry r ∷ points (N ++ ((region_exit r, c) ∷ [])) ≡ region_entry r ∷ (points N ++ last) = ap (λ (l : List CfgPoint). region_entry r ∷ l) (points_append N _) in
      subst NoDup (sym e) (
        λ i. elim (in_split (points N) last i) [
          | inl a ↦ (let x = nodes_spot w spot r ns (region_entry r) a in spot_own r x.0 (region_entry r) x.1 x.2 (inl refl) home_entry)
          | inr b ↦ elim (in_cases b) [ inl z ↦ (let o : ◌≡◌ {A = ℕ} 0 1 = ap point_kind z in omega arith) | inr z ↦ in_nil z ]
        ],
        nodup_append (points N) last (nodes_nodup w spot once r ns (λ n i. i) (tr.nodes_once r)) (λ z. in_nil z, tt)
            (λ p a b. elim (in_cases b) [
              | inl z ↦ (let x = nodes_spot w spot r ns p a in
                  spot_own r x.0 p x.1 x.2 (inr (ap point_kind z)) (subst (Home r) (sym z) home_exit))
              | inr z ↦ in_nil z
            ]),
      )

  region_nodup : (k r : ℕ) (q : Place) → NoDup (points (walk_region F k r q))
  region_nodup zero r q = tt
  region_nodup (suc k) r q = region_step_law (λ c x. walk_region F k c x) (λ c x y. region_spot k c x y) (λ c x. region_nodup k c x) r (exit_block F r q)

  -- the roots' walks
  roots_spot : (k : ℕ) (rs : List ℕ) (p : CfgPoint) → In p (points (walk_roots F k rs)) → (r : ℕ) × In r rs × Placed r p
  roots_spot k [] p h = absurd (in_nil h)
  roots_spot k (r ∷ rs) p h = by_case (in_split (points (walk_region F k r top)) (points (walk_roots F k rs)) (subst (In p) (points_append (walk_region F k r top) (walk_roots F k rs)) h)) (roots_spot k rs p)
    where
      by_case : In p (points (walk_region F k r top)) ⊎ In p (points (walk_roots F k rs)) → (In p (points (walk_roots F k rs)) → (s : ℕ) × In s rs × Placed s p) → (s : ℕ) × In s (r ∷ rs) × Placed s p
      by_case (inl i) ih = (r, here, region_spot k r top p i)
      by_case (inr i) ih = let x = ih i in (x.0, there x.1, x.2)

  pub roots_nodup : (k : ℕ) (rs : List ℕ) → NoDup rs → ((r : ℕ) → In r rs → Root F r) → NoDup (points (walk_roots F k rs))
  roots_nodup k [] nd rt = tt
  roots_nodup k (r ∷ rs) nd rt =
      subst NoDup (sym (points_append (walk_region F k r top) (walk_roots F k rs)))
      (nodup_append _ _ (region_nodup k r top) (roots_nodup k rs nd.1 (λ s i. rt s (there i))) (λ p a b.
      let x = region_spot k r top p a in
      let y = roots_spot k rs p b in
      let z = y.2 in
      let e : z.0 ≡ x.0 = home_once z.2 x.2 in
      nd.0 (subst (λ (s : ℕ). In s rs) (sym (roots_apart (rt r here) (rt y.0 (there y.1)) x.1 (subst (Under y.0) e z.1))) y.1)))
