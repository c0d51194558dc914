-- What holds of the entry and exit of each region that a run can come to, and of each node in one, holds of each entry of the walk. Assumes
-- nothing.
use Rattle.std.specs.Prelude.{◌≡◌, refl, List, [], ◌∷◌, ℕ, zero, suc}
use Rattle.std.proofs.Common.{sym, subst, inl, inr}
use Rattle.lifting.specs.Ast.{Func, Node, block, exit, loop, select}
use Rattle.lifting.specs.Parts.{children_of, node_of, region_of}
use Rattle.lifting.specs.Points.{BlockLifting, CfgPoint, Table, node_entry, node_exit, region_entry, region_exit}
use Rattle.lifting.specs.Walk.{Place, entry_block, exit_block, in_block, in_node, next_point, out_block, top, walk_kids, walk_node, walk_nodes, walk_region, walk_roots}
use Rattle.general_laws.specs.Members.{All, In, all_append, here, in_cases, in_nil, there}
use Rattle.lifting_runs.specs.Places.{Suffix, VisitedAt, in_case, in_loop, next, whole}

module _ (F : Func) where
  pub kid_visited : {r n c : ℕ} {p : Place} {ns : List ℕ} (d : Node) → node_of F n ≡ d → In c (children_of d) → VisitedAt F r p → Suffix (region_of F r).nodes (n ∷ ns) → VisitedAt F c (in_node n)
  kid_visited (block is) e i v sf = absurd (in_nil i)
  kid_visited (select k w cs ds u) e i v sf = in_case v sf e i
  kid_visited {n = n} (loop b k is u) e i v sf = subst (λ (x : ℕ). VisitedAt F x (in_node n)) (sym (elim (in_cases i) [ inl z ↦ z | inr z ↦ absurd (in_nil z) ])) (in_loop v sf e)
  kid_visited (exit j ws) e i v sf = absurd (in_nil i)

  module _ (P : CfgPoint × BlockLifting → Type 0) (entries : (r : ℕ) (p : Place) → VisitedAt F r p → P (region_entry r, entry_block F r p)) (exits : (r : ℕ) (p : Place) → VisitedAt F r p → P (region_exit r, exit_block F r p))
      (ins : (r n : ℕ) (p : Place) (ns : List ℕ) → VisitedAt F r p → Suffix (region_of F r).nodes (n ∷ ns) → P (node_entry n, in_block F (node_of F n) n))
      (outs : (r n : ℕ) (p : Place) (ns : List ℕ) → VisitedAt F r p → Suffix (region_of F r).nodes (n ∷ ns) → P (node_exit n, out_block F (node_of F n) n (next_point r ns))) where
    -- w walks a region at its place
    module _ (w : ℕ → Place → Table) (ih : (c : ℕ) (q : Place) → VisitedAt F c q → All P (w c q)) where
      of_kids : {r n : ℕ} {p : Place} {ns : List ℕ} → VisitedAt F r p → Suffix (region_of F r).nodes (n ∷ ns) → (cs : List ℕ) → ((c : ℕ) → In c cs → In c (children_of (node_of F n))) → All P (walk_kids F w n cs)
      of_kids v sf [] sub = tt
      of_kids {n = n} v sf (c ∷ cs) sub = all_append P (w c (in_node n)) _ (ih c (in_node n) (kid_visited (node_of F n) refl (sub c here) v sf)) (of_kids v sf cs (λ b i. sub b (there i)))

      of_nodes : {r : ℕ} {p : Place} → VisitedAt F r p → (ns : List ℕ) → Suffix (region_of F r).nodes ns → All P (walk_nodes F w r ns)
      of_nodes v [] sf = tt
      of_nodes {r} {p} v (n ∷ ns) sf =
          all_append P (walk_node F w n (next_point r ns)) _ (ins r n p ns v sf, all_append P (walk_kids F w n (children_of (node_of F n))) _ (of_kids v sf (children_of (node_of F n)) (λ c i. i)) (outs r n p ns v sf, tt)) (of_nodes v ns (next sf))

    of_region : (k r : ℕ) (p : Place) → VisitedAt F r p → All P (walk_region F k r p)
    of_region zero r p v = tt
    of_region (suc k) r p v =
        let w : ℕ → Place → Table = λ c q. walk_region F k c q in
        (entries r p v, all_append P (walk_nodes F w r (region_of F r).nodes) _ (of_nodes w (λ c q x. of_region k c q x) v (region_of F r).nodes whole) (exits r p v, tt))

    pub every_visited : (k : ℕ) (l : List ℕ) → ((r : ℕ) → In r l → VisitedAt F r top) → All P (walk_roots F k l)
    every_visited k [] h = tt
    every_visited k (r ∷ l) h = all_append P (walk_region F k r top) _ (of_region k r top (h r here)) (every_visited k l (λ s i. h s (there i)))
