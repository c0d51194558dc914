-- In the walk of a text a block only ever absorbs the point right after it. Inside a region a plain way out leads to the next point, but for a
-- case's exit, whose target has a merge label too, and a loop's way back on opcode 41, whose target is also where the loop is entered.
-- Between roots it leads to the next root, unless another root leads there too. Assumes nothing.
use Rattle.std.specs.Prelude.{◌≡◌, refl, ◌⊎◌, Bool, true, false, List, [], ◌∷◌, map, ℕ, ◌≤◌}
use Rattle.std.proofs.Common.{sym, ap, ◌∙◌, subst, inl, inr, arith}
use Rattle.std.proofs.Math.Option.{Option, none, some}
use Rattle.lifting.specs.Ast.{ControlInst, Decl, Func, Node, SelectionKind, Value, block, select, loop, exit}
use Rattle.lifting.specs.Parts.{children_of, ctrl_of, node_of, region_of}
use Rattle.lifting.specs.Points.{BlockLifting, CfgPoint, Table, Terminator, node_entry, node_exit, plain, region_entry, region_exit}
use Rattle.lifting.specs.Walk.{Place, always, child_term, exit_block, in_block, in_node, loop_term, root_term, some_vals, top, walk_of}
use Rattle.lifting.specs.Absorb.{if_empty, labels, sole_target, use_count}
use Rattle.general_laws.specs.Members.{In, here}
use Rattle.lifting_runs.specs.Places.{Suffix, VisitedAt, at_body, by_ctrl, in_case, in_loop}
use Rattle.lifting_runs.specs.AbsorbCount.{sole_straight}
use Rattle.lifting_blocks.specs.Chain.{chain_map, none_some, some_injective}
use Rattle.lifting_blocks.specs.Beside.{Leads}
use Rattle.lifting_runs.specs.Shaped.{Shaped}
use Rattle.lifting_runs.proofs.Shaped.{laid}
use Rattle.lifting_blocks.specs.Steps.{Onto, Step, entry_point, step_entry, step_exit, step_in, step_out, walk_steps}
use Rattle.lifting_blocks.specs.Uses.{Uses, before_node, from_block, leads_there, merge_select, used_twice}
use Rattle.lifting_blocks.specs.Neighbours.{Ahead, Near}

vals_ahead : (q : CfgPoint) (vs : List Value) (t : CfgPoint) → if_empty (some_vals q vs) (some q) ≡ some t → t ≡ q
vals_ahead q [] t e = some_injective e
vals_ahead q (v ∷ vs) t e = absurd (none_some e)

module _ (F : Func) (ok : Shaped F) where
  abbrev T : Table
  T = walk_of F

  abbrev uses : CfgPoint → ℕ
  uses = use_count T

  busy : {t q : CfgPoint} → t ≡ q → 2 ≤ uses q → ¬ (uses t ≡ 1)
  busy {t} {q} e h u = omega (arith, ap uses e)

  leads_from : {r n : ℕ} {q : CfgPoint} (d : Node) → VisitedAt F r (in_node n) → node_of F n ≡ d → In q (labels (child_term F d n (region_of F r).outs)) → Uses T (region_exit r) q
  leads_from {r} {n} d v e i = from_block ((laid F ok).exit_at v ∙ ap (λ (x : Node). plain (child_term F x n (region_of F r).outs)) e) i

  -- a select's exit: its cases lead there, and it is the merge label
  select_busy : {r n c : ℕ} {p : Place} {ns : List ℕ} {k : SelectionKind} {v : Value} {cs : List ℕ} {ds : List Decl} {u : ℕ}
      → VisitedAt F r p → Suffix (region_of F r).nodes (n ∷ ns) → node_of F n ≡ select k v cs ds u → In c cs → 2 ≤ uses (node_exit n)
  select_busy {n = n} {c} {k} {v} {cs} {ds} {u} w sf e i =
      used_twice T (node_entry n) (region_exit c) (node_exit n) (λ z. let o : ◌≡◌ {A = ℕ} 0 1 = cc in omega arith) (merge_select F ok w sf e) (leads_from (select k v cs ds u) (in_case w sf e i) e here)

  back_to : (b : Bool) (n : ℕ) (c : Value) (vs : List Value) → In (node_entry n) (labels (loop_term F b n c vs))
  back_to true n c vs = here
  back_to false n c vs = here

  -- a loop's entry: its way back leads there too
  pub loop_busy : {r n b : ℕ} {p : Place} {ns : List ℕ} {c : Value} {is : List Value} {u : ℕ} → VisitedAt F r p → Suffix (region_of F r).nodes (n ∷ ns) → node_of F n ≡ loop b c is u → 2 ≤ uses (node_entry n)
  loop_busy {n = n} {b} {ns = ns} {c} {is} {u} w sf e =
      let q = before_node F ok n ns w sf refl in
      used_twice T q.0 (region_exit b) (node_entry n) (q.2 b) q.1 (leads_from (loop b c is u) (in_loop w sf e) e (back_to (always F c) n c (region_of F b).outs))

  -- where a node's entry leads
  in_ahead : (d : Node) (n : ℕ) (o : Option CfgPoint) → (children_of d ≡ [] → o ≡ some (node_exit n)) → (t : CfgPoint) → sole_target (in_block F d n).term ≡ some t → o ≡ some t
  in_ahead (block is) n o h t e = h refl ∙ e
  in_ahead (select k v cs ds u) n o h t e = absurd (none_some e)
  in_ahead (loop b v is u) n o h t e = absurd (none_some e)
  in_ahead (exit i vs) n o h t e = absurd (none_some e)

  -- where a region of a node leads
  case_target : {k : SelectionKind} {v : Value} {cs : List ℕ} {ds : List Decl} {u : ℕ} (d : Node) (n : ℕ) (vs : List Value) (t : CfgPoint) → d ≡ select k v cs ds u → sole_target (child_term F d n vs) ≡ some t → t ≡ node_exit n
  case_target d n vs t e h = vals_ahead (node_exit n) vs t (subst (λ (x : Node). sole_target (child_term F x n vs) ≡ some t) e h)

  back_target : (b : Bool) (n : ℕ) (c : Value) (vs : List Value) (t : CfgPoint) → sole_target (loop_term F b n c vs) ≡ some t → t ≡ node_entry n
  back_target true n c vs t e = vals_ahead (node_entry n) vs t e
  back_target false n c vs t e = absurd (none_some e)

  loop_target : {b : ℕ} {c : Value} {is : List Value} {u : ℕ} (d : Node) (n : ℕ) (vs : List Value) (t : CfgPoint) → d ≡ loop b c is u → sole_target (child_term F d n vs) ≡ some t → t ≡ node_entry n
  loop_target {b} {c} d n vs t e h = back_target (always F c) n c vs t (subst (λ (x : Node). sole_target (child_term F x n vs) ≡ some t) e h)

  -- where a root leads
  root_target : (r : ℕ) (o : Option ControlInst) (t : CfgPoint) → sole_target (root_term F o r) ≡ some t → (c : ControlInst) × (s : ℕ) × (o ≡ some c) × (c.to ≡ s ∷ []) × (t ≡ region_entry s)
  root_target r none t e = absurd (none_some e)
  root_target r (some c) t e = by_targets c.to refl (ap (λ (z : Terminator). z.targets) (sole_straight (root_term F (some c) r) t e))
    where
      by_targets : (l : List ℕ) → c.to ≡ l → map region_entry l ≡ t ∷ [] → (d : ControlInst) × (s : ℕ) × (some c ≡ some d) × (d.to ≡ s ∷ []) × (t ≡ region_entry s)
      by_targets [] z h = absurd (let o : ◌≡◌ {A = ℕ} 0 1 = cc in omega arith)
      by_targets (s ∷ []) z h = (c, s, refl, z, cc)
      by_targets (s ∷ u ∷ l) z h = absurd (let o : ◌≡◌ {A = ℕ} 0 1 = cc in omega arith)

  root_ahead : (r : ℕ) (o : Option CfgPoint) → VisitedAt F r top → Onto F r o → Ahead uses (region_exit r, exit_block F r top) o
  root_ahead r o v (n, beside, follows) t e u =
      let w = root_target r (ctrl_of F r) t e in
      by_case w.0 w.1 w.2 w.3 w.4 (beside w.0 w.1 w.2 w.3)
    where
      by_case : (c : ControlInst) (s : ℕ) → ctrl_of F r ≡ some c → c.to ≡ s ∷ [] → t ≡ region_entry s → (n ≡ some s) ⊎ ((p : ℕ) × (¬ (p ≡ r)) × VisitedAt F p top × Leads F p s) → o ≡ some t
      by_case c s q z h (inl k) = follows ∙ ap entry_point k ∙ ap some (sym h)
      by_case c s q z h (inr (p, apart, vp, l)) =
          absurd (busy h (used_twice T (region_exit p) (region_exit r) (region_entry s) (λ x. apart (exit_same x)) (leads_there F ok vp l) (leads_there F ok v (c, q, subst (In s) (sym z) here))) u)
        where
          exit_same : region_exit p ≡ region_exit r → p ≡ r
          exit_same x = cc

  -- where a case or a loop's body leads is used twice
  pub child_busy : {r n : ℕ} (t : CfgPoint) → VisitedAt F r (in_node n) → sole_target (exit_block F r (in_node n)).term ≡ some t → ¬ (uses t ≡ 1)
  child_busy t (in_case {n} {c} w sf q i) e = busy (case_target (node_of F n) n (region_of F c).outs t q e) (select_busy w sf q i)
  child_busy t (in_loop {n} {b} w sf q) e = busy (loop_target (node_of F n) n (region_of F b).outs t q e) (loop_busy w sf q)

  exit_ahead : {r : ℕ} {p : Place} (o : Option CfgPoint) → VisitedAt F r p → (p ≡ top → Onto F r o) → Ahead uses (region_exit r, exit_block F r p) o
  exit_ahead o at_body a t e u = root_ahead 0 o at_body (a refl) t e u
  exit_ahead o (by_ctrl {s} v q i) a t e u = root_ahead s o (by_ctrl v q i) (a refl) t e u
  exit_ahead o (in_case w sf q i) a t e u = absurd (child_busy t (in_case w sf q i) e u)
  exit_ahead o (in_loop w sf q) a t e u = absurd (child_busy t (in_loop w sf q) e u)

  step_ahead : (x : CfgPoint × BlockLifting) (o : Option CfgPoint) → Step F x o → Ahead uses x o
  step_ahead x o (step_entry v) t e u = e
  step_ahead x o (step_in {n} v sf h) t e u = in_ahead (node_of F n) n o h t e
  step_ahead x o (step_out v sf) t e u = e
  step_ahead x o (step_exit v a) t e u = exit_ahead o v a t e u

  pub walk_near : Near (use_count (walk_of F)) (walk_of F)
  walk_near = chain_map (Step F) (Ahead uses) step_ahead T none (walk_steps F ok)
