-- Which blocks of the walk use a point, and that every point used is visited. Assumes nothing.
use Rattle.std.specs.Prelude.{◌≡◌, refl, Bool, true, false, List, [], ◌∷◌, ℕ, ◌≤◌}
use Rattle.std.proofs.Common.{sym, ap, ◌∙◌, subst, arith}
use Rattle.std.proofs.Math.Option.{Option, none, some}
use Rattle.lifting.specs.Ast.{ControlInst, Decl, Func, Node, SelectionKind, Value, block, exit, loop, select}
use Rattle.lifting.specs.Parts.{ctrl_of, node_of, region_of}
use Rattle.lifting.specs.Points.{BlockLifting, CfgPoint, Merge, Table, block_at, eq_point, no_merge, node_entry, node_exit, plain, points, region_entry, region_exit}
use Rattle.lifting.specs.Walk.{Place, always, child_term, exit_term, in_block, in_node, loop_term, next_point, root_term, top, walk_of}
use Rattle.lifting.specs.Absorb.{labels, merge_labels, use_count}
use Rattle.general_laws.specs.Members.{All, In, all_append, all_from, all_in, here, in_map}
use Rattle.lifting_runs.specs.Places.{Suffix, VisitedAt, in_loop, next, whole}
use Rattle.lifting_runs.specs.AbsorbCount.{at_uses, in_count, two_uses}
use Rattle.general_laws.specs.Tests.{find_in}
use Rattle.lifting_runs.specs.Tour.{in_points}
use Rattle.lifting_runs.specs.Terms.{TermLeads}
use Rattle.lifting_blocks.specs.Chain.{chain_all}
use Rattle.lifting_blocks.specs.Beside.{Leads}
use Rattle.lifting_runs.specs.Shaped.{Shaped}
use Rattle.lifting_runs.proofs.Shaped.{laid, leads, visited_exit, visited_out}
use Rattle.lifting_blocks.specs.Steps.{Step, step_entry, step_exit, step_in, step_out, walk_steps}

-- q is a target or a merge label of the block at p
abbrev pub Uses : Table → CfgPoint → CfgPoint → Type 0
Uses T p q = In q (labels (block_at T p).term)

pub from_block : {q : CfgPoint} {b d : BlockLifting} → b ≡ d → In q (labels d.term) → In q (labels b.term)
from_block {q} e i = subst (λ (x : BlockLifting). In q (labels x.term)) (sym e) i

pub used_once : (T : Table) (p q : CfgPoint) → Uses T p q → 1 ≤ use_count T q
unfolding use_count
used_once T p q i = omega (arith, at_uses T p q, in_count q (labels (block_at T p).term) i)

pub used_twice : (T : Table) (p r q : CfgPoint) → ¬ (p ≡ r) → Uses T p q → Uses T r q → 2 ≤ use_count T q
unfolding use_count
used_twice T p r q n i j = omega (arith, two_uses T p r q n, in_count q (labels (block_at T p).term) i, in_count q (labels (block_at T r).term) j)

-- the way out of a region has no merge
module _ (F : Func) where
  child_merge : (d : Node) (n : ℕ) (vs : List Value) → (child_term F d n vs).merge ≡ no_merge
  child_merge (block is) n vs = refl
  child_merge (select k v cs ds u) n vs = refl
  child_merge (loop b c is u) n vs = by_case (always F c)
    where
      by_case : (b : Bool) → (loop_term F b n c vs).merge ≡ no_merge
      by_case true = refl
      by_case false = refl
  child_merge (exit i ws) n vs = refl

  root_merge : (o : Option ControlInst) (r : ℕ) → (root_term F o r).merge ≡ no_merge
  root_merge none r = refl
  root_merge (some c) r = refl

  pub exit_merge : (r : ℕ) (p : Place) → (exit_term F r p).merge ≡ no_merge
  exit_merge r top = root_merge (ctrl_of F r) r
  exit_merge r (in_node n) = child_merge (node_of F n) n (region_of F r).outs

module _ (F : Func) (ok : Shaped F) where
  abbrev T : Table
  T = walk_of F

  -- the point before a node leads to its entry
  pub before_node : {r : ℕ} {p : Place} {l : List ℕ} (n : ℕ) (ns : List ℕ) → VisitedAt F r p → Suffix (region_of F r).nodes l → l ≡ n ∷ ns
      → (q : CfgPoint) × Uses T q (node_entry n) × ((s : ℕ) → ¬ (q ≡ region_exit s))
  before_node {r} n ns v whole e =
      (region_entry r, from_block ((laid F ok).entry_at v) (subst (λ (k : List ℕ). In (node_entry n) (next_point r k ∷ [])) (sym e) here), λ s z. let o : ◌≡◌ {A = ℕ} 0 1 = cc in omega arith)
  before_node {r} n ns v (next {x = m} sf) e =
      (node_exit m, from_block ((laid F ok).out_at v sf) (subst (λ (k : List ℕ). In (node_entry n) (next_point r k ∷ [])) (sym e) here), λ s z. let o : ◌≡◌ {A = ℕ} 0 1 = cc in omega arith)

  -- a select's entry has its exit for a merge label
  pub merge_select : {r n : ℕ} {p : Place} {ns : List ℕ} {k : SelectionKind} {v : Value} {cs : List ℕ} {ds : List Decl} {u : ℕ}
      → VisitedAt F r p → Suffix (region_of F r).nodes (n ∷ ns) → node_of F n ≡ select k v cs ds u → Uses T (node_entry n) (node_exit n)
  merge_select {n = n} v sf e = from_block ((laid F ok).in_at v sf ∙ ap (λ (d : Node). in_block F d n) e) here

  -- a root's exit leads to its targets
  pub leads_there : {p s : ℕ} → VisitedAt F p top → Leads F p s → Uses T (region_exit p) (region_entry s)
  leads_there {p} v (c, e, i) = from_block ((laid F ok).exit_at v ∙ ap (λ (o : Option ControlInst). plain (root_term F o p)) e) (in_map region_entry i)

  -- every target and merge label of a visited block is visited
  merge_visited : {r n : ℕ} {p : Place} {ns : List ℕ} (d : Node) → node_of F n ≡ d → VisitedAt F r p → Suffix (region_of F r).nodes (n ∷ ns) → All (λ q. In q (points T)) (merge_labels (in_block F d n).term.merge)
  merge_visited (block is) e v sf = tt
  merge_visited (select k w cs ds u) e v sf = (visited_out F ok v sf, tt)
  merge_visited (loop b c is u) e v sf = (visited_out F ok v sf, (visited_exit F ok (in_loop v sf e), tt))
  merge_visited (exit i vs) e v sf = tt

  abbrev Seen : CfgPoint → Type 0
  Seen q = In q (points T)

  step_merges : (x : CfgPoint × BlockLifting) (o : Option CfgPoint) → Step F x o → All Seen (merge_labels x.1.term.merge)
  step_merges x o (step_entry v) = tt
  step_merges x o (step_in {n} v sf h) = merge_visited (node_of F n) refl v sf
  step_merges x o (step_out v sf) = tt
  step_merges x o (step_exit {r} {p} v a) = subst (λ (m : Merge). All Seen (merge_labels m)) (sym (exit_merge F r p)) tt

  pub labels_visited : (x : CfgPoint × BlockLifting) → In x T → (q : CfgPoint) → In q (labels x.1.term) → In q (points T)
  labels_visited x i q j = all_in Seen (labels x.1.term)
      (all_append Seen (merge_labels x.1.term.merge) x.1.term.targets
      (all_in (λ y. All Seen (merge_labels y.1.term.merge)) T (chain_all (Step F) _ step_merges T none (walk_steps F ok)) x i)
      (all_from Seen x.1.term.targets (λ p h.
      let w = (all_in (λ y. TermLeads T y.1.term) T (leads F ok) x i).to p h in
      in_points T (p, w.0) (find_in eq_point p T w.1))))
      q j
