-- The walk, entry by entry: the region or node that each entry is of, and the point that stands next. Assumes nothing.
use Rattle.std.specs.Prelude.{◌≡◌, refl, List, [], ◌∷◌, ◌++◌, ℕ, zero, suc}
use Rattle.std.proofs.Common.{sym, ap, ◌∙◌, subst, arith}
use Rattle.std.proofs.Math.Option.{Option, none, some}
use Rattle.lifting.specs.Ast.{Func, Node}
use Rattle.lifting.specs.Parts.{children_of, node_of, region_of}
use Rattle.lifting.specs.Points.{BlockLifting, CfgPoint, Table, node_entry, node_exit, region_entry, region_exit}
use Rattle.lifting.specs.Order.{roots}
use Rattle.lifting.specs.Walk.{Place, entry_block, exit_block, in_block, in_node, next_point, out_block, top, walk_kids, walk_node, walk_nodes, walk_of, walk_region, walk_roots}
use Rattle.general_laws.specs.Members.{In, here, there}
use Rattle.lifting_runs.specs.Places.{Suffix, VisitedAt, at_body, by_ctrl, in_case, in_loop, next, whole}
use Rattle.lifting_runs.specs.Visits.{kid_visited}
use Rattle.lifting_runs.specs.Accepted.{Root, Targets}
use Rattle.lifting_runs.specs.Order.{roots_visited}
use Rattle.lifting_blocks.specs.Chain.{Chain, chain_append, first_append, first_in_table}
use Rattle.lifting_blocks.specs.Beside.{Beside, InOrder, first, roots_beside}
use Rattle.lifting_runs.specs.Shaped.{Shaped}
use Rattle.lifting_runs.proofs.Shaped.{walk_is}

abbrev pub entry_point : Option ℕ → Option CfgPoint
entry_point none = none
entry_point (some r) = some (region_entry r)

module _ (F : Func) where
  -- after a root comes the next root
  abbrev pub Onto : ℕ → Option CfgPoint → Type 0
  Onto r o = (s : Option ℕ) × Beside F r s × (o ≡ entry_point s)

  pub data Step : CfgPoint × BlockLifting → Option CfgPoint → Type 0 where
    step_entry : {r : ℕ} {p : Place} → VisitedAt F r p → Step (region_entry r, entry_block F r p) (some (next_point r (region_of F r).nodes))
    step_in : {r n : ℕ} {p : Place} {ns : List ℕ} {o : Option CfgPoint} → VisitedAt F r p → Suffix (region_of F r).nodes (n ∷ ns) → (children_of (node_of F n) ≡ [] → o ≡ some (node_exit n)) → Step (node_entry n, in_block F (node_of F n) n) o
    step_out : {r n : ℕ} {p : Place} {ns : List ℕ} → VisitedAt F r p → Suffix (region_of F r).nodes (n ∷ ns) → Step (node_exit n, out_block F (node_of F n) n (next_point r ns)) (some (next_point r ns))
    step_exit : {r : ℕ} {p : Place} {o : Option CfgPoint} → VisitedAt F r p → (p ≡ top → Onto r o) → Step (region_exit r, exit_block F r p) o

  -- a region that is visited at the top is no child, and in a node it is a child of that node
  abbrev pub PlacedAs : ℕ → Place → Type 0
  PlacedAs r top = Root F r
  PlacedAs r (in_node n) = In r (children_of (node_of F n))

  pub placed_as : {r : ℕ} {p : Place} → Targets F → VisitedAt F r p → PlacedAs r p
  placed_as tg at_body = tg.body_root
  placed_as tg (in_case {c} v sf e i) = subst (λ (d : Node). In c (children_of d)) (sym e) i
  placed_as tg (in_loop {b} v sf e) = subst (λ (d : Node). In b (children_of d)) (sym e) here
  placed_as tg (by_ctrl {r} {s} v e i) = tg.target_root r s e i

  -- w walks a region at its place
  module _ (w : ℕ → Place → Table) (ih : (c : ℕ) (q : Place) (o : Option CfgPoint) → VisitedAt F c q → (q ≡ top → Onto c o) → Chain Step (w c q) o) where
    steps_kids : {r n : ℕ} {p : Place} {ns : List ℕ} → VisitedAt F r p → Suffix (region_of F r).nodes (n ∷ ns) → (cs : List ℕ) → ((c : ℕ) → In c cs → In c (children_of (node_of F n))) → (o : Option CfgPoint) → Chain Step (walk_kids F w n cs) o
    steps_kids v sf [] sub o = tt
    steps_kids {n = n} v sf (c ∷ cs) sub o =
        chain_append Step (w c (in_node n)) (walk_kids F w n cs) o
        (ih c (in_node n) _ (kid_visited F (node_of F n) refl (sub c here) v sf) (λ e. absurd (let z : ◌≡◌ {A = ℕ} 0 1 = cc in omega arith)))
        (steps_kids v sf cs (λ b i. sub b (there i)) o)

    steps_node : {r n : ℕ} {p : Place} {ns : List ℕ} → VisitedAt F r p → Suffix (region_of F r).nodes (n ∷ ns) → Chain Step (walk_node F w n (next_point r ns)) (some (next_point r ns))
    steps_node {r} {n} {p} {ns} v sf =
        let last : Table = (node_exit n, out_block F (node_of F n) n (next_point r ns)) ∷ [] in
        let o : Option CfgPoint = some (next_point r ns) in (
          step_in v sf (λ e. ap (λ (cs : List ℕ). first_in_table (walk_kids F w n cs ++ last) o) e),
          chain_append Step (walk_kids F w n (children_of (node_of F n))) last o (steps_kids v sf (children_of (node_of F n)) (λ c i. i) (some (node_exit n))) (step_out v sf, tt),
        )

    first_nodes : (r : ℕ) (ns : List ℕ) → first_in_table (walk_nodes F w r ns) (some (region_exit r)) ≡ some (next_point r ns)
    first_nodes r [] = refl
    first_nodes r (n ∷ ns) = refl

    steps_nodes : {r : ℕ} {p : Place} → VisitedAt F r p → (ns : List ℕ) → Suffix (region_of F r).nodes ns → Chain Step (walk_nodes F w r ns) (some (region_exit r))
    steps_nodes v [] sf = tt
    steps_nodes {r} v (n ∷ ns) sf =
        chain_append Step (walk_node F w n (next_point r ns)) (walk_nodes F w r ns) (some (region_exit r)) (rw (first_nodes r ns) (steps_node v sf)) (steps_nodes v ns (next sf))

  steps_region : (k r : ℕ) (p : Place) (o : Option CfgPoint) → VisitedAt F r p → (p ≡ top → Onto r o) → Chain Step (walk_region F k r p) o
  steps_region zero r p o v a = tt
  steps_region (suc k) r p o v a =
      let w : ℕ → Place → Table = λ c q. walk_region F k c q in
      let ih : (c : ℕ) (q : Place) (u : Option CfgPoint) → VisitedAt F c q → (q ≡ top → Onto c u) → Chain Step (w c q) u = λ c q u x y. steps_region k c q u x y in
      let ns : List ℕ = (region_of F r).nodes in
      let last : Table = (region_exit r, exit_block F r p) ∷ [] in (
        subst (Step (region_entry r, entry_block F r p)) (sym (first_append (walk_nodes F w r ns) last o ∙ first_nodes w ih r ns)) (step_entry v),
        chain_append Step (walk_nodes F w r ns) last o (steps_nodes w ih v ns whole) (step_exit v a, tt),
      )

  first_roots : (k : ℕ) (l : List ℕ) → first_in_table (walk_roots F (suc k) l) none ≡ entry_point (first l)
  first_roots k [] = refl
  first_roots k (r ∷ l) = refl

  steps_roots : (k : ℕ) (l : List ℕ) → InOrder F l → ((r : ℕ) → In r l → VisitedAt F r top) → Chain Step (walk_roots F (suc k) l) none
  steps_roots k [] b v = tt
  steps_roots k (r ∷ l) b v =
      chain_append Step (walk_region F (suc k) r top) (walk_roots F (suc k) l) none (steps_region (suc k) r top _ (v r here) (λ e. (first l, b.0, first_roots k l)))
      (steps_roots k l b.1 (λ s i. v s (there i)))

  pub walk_steps : Shaped F → Chain Step (walk_of F) none
  walk_steps ok = subst (λ (T : Table). Chain Step T none) (walk_is F ok) (steps_roots _ (roots F) (roots_beside F ok.targets) (roots_visited F ok.targets))
