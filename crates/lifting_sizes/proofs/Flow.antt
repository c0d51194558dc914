-- What the visited points write and send, by what the text has for each point: the values along an edge are a loop's inits, a region's outputs or
-- one entry of a ctrl line, and the point that sends a loop's inits is the one before it. Assumes nothing.
use Rattle.std.specs.Prelude.{◌≡◌, refl, Bool, true, false, List, [], ◌∷◌, map, ℕ, zero, suc, ◌+◌, ◌*◌, ◌≤◌, ◌<◌, length}
use Rattle.std.proofs.Common.{sym, ap, ◌∙◌, inl, inr, arith}
use Rattle.std.proofs.Math.Option.{Option, none, some}
use Rattle.std.proofs.lemmas.List.{length-map}
use Rattle.general_laws.specs.Lists.{choose, choose_no, find}
use Rattle.lifting.specs.Ast.{ControlInst, Func, Node, Value, block, exit, loop, select}
use Rattle.lifting.specs.Parts.{children_of, ctrl_of, node_of, region_of, vals_or}
use Rattle.lifting.specs.Points.{BlockLifting, CfgPoint, Table, Terminator, eq_point, node_entry, node_exit, points, region_entry, region_exit, straight}
use Rattle.lifting.specs.Walk.{Place, always, child_term, exit_term, in_block, in_node, loop_term, next_point, root_term, some_vals, top, walk_of}
use Rattle.lifting.specs.Absorb.{count_in}
use Rattle.general_laws.specs.Members.{In, here, in_cases, in_nil, map_in, there}
use Rattle.lifting_runs.specs.Pairs.{counted_in}
use Rattle.lifting_runs.specs.Places.{VisitedAt}
use Rattle.lifting_runs.specs.Shaped.{Shaped}
use Rattle.lifting_runs.proofs.Shaped.{walk_once}
use Rattle.lifting_blocks.specs.Chain.{Chain, first_in_table}
use Rattle.lifting_blocks.specs.Steps.{Step, placed_as, step_entry, step_exit, step_in, step_out, walk_steps}
use Rattle.lifting_blocks.specs.Totals.{total, total_once}
use Rattle.lifting_sizes.specs.Sums.{total_find, total_keys, total_le, total_map, weighed}
use Rattle.lifting_sizes.specs.Weights.{carried, ctrl_weight, defaults_at, end_weight, flow, head, if_any, inits_of, node_weight, ops_weight, point_weight, sent, weight_at}

-- Sums along a chain: where f of each entry is at most g of it and a of the next point, all f are at most all g and all a.
module _ (P : CfgPoint × BlockLifting → Option CfgPoint → Type 0) (f : CfgPoint × BlockLifting → ℕ) (g a : CfgPoint → ℕ) where
  chain_total : (T : Table) (o : Option CfgPoint) → ((x : CfgPoint × BlockLifting) (q : Option CfgPoint) → In x T → P x q → f x ≤ g x.0 + weighed a q) → Chain P T o
      → total f T + weighed a (first_in_table T o) ≤ total (λ x. g x.0 + a x.0) T + weighed a o
  chain_total [] o h c = omega arith
  chain_total (x ∷ T) o h c = omega (arith, h x (first_in_table T o) here c.0, chain_total T o (λ y q i. h y q (there i)) c.1)

-- an entry for some values, found or not
module _ (p q : CfgPoint) where
  at_most : (vs ds : List Value) (n : ℕ) → length vs ≤ n → length ds ≤ n → length (vals_or (find eq_point p (some_vals q vs)) ds) ≤ n
  at_most [] ds n h g = g
  at_most (v ∷ vs) ds n h g = by_case (eq_point p q)
    where
      by_case : (d : Dec (p ≡ q)) → length (vals_or (choose d (some (v ∷ vs)) none) ds) ≤ n
      by_case (yes e) = h
      by_case (no m) = g

  elsewhere : (vs ds : List Value) → ¬ (p ≡ q) → vals_or (find eq_point p (some_vals q vs)) ds ≡ ds
  elsewhere [] ds m = refl
  elsewhere (v ∷ vs) ds m = ap (λ (o : Option (List Value)). vals_or o ds) (choose_no (eq_point p q) (some (v ∷ vs)) none m)

-- a weight that counts only where there is any
if_low : (c n m : ℕ) → n ≤ m → if_any c n ≤ m
if_low zero n m h = omega arith
if_low (suc c) n m h = h

if_led : (c n m : ℕ) → (0 < c → n ≤ m) → if_any c n ≤ m
if_led zero n m h = omega arith
if_led (suc c) n m h = h (omega arith)

module _ (F : Func) (ok : Shaped F) where
  abbrev T : Table
  T = walk_of F

  flow_points : (t : Terminator) → flow F t ≡ total (carried F t) (points T)
  flow_points t = total_keys (carried F t) T

  -- a way out with values for q alone, where no other target takes any
  sole : (t : Terminator) (q : CfgPoint) (vs : List Value) (n : ℕ) → t.vals ≡ some_vals q vs → length vs ≤ n → length (defaults_at F q) ≤ n
      → ((p : CfgPoint) → In p t.targets → ¬ (p ≡ q) → defaults_at F p ≡ []) → flow F t ≤ n
  sole t q vs n e few fills others = omega (
    arith,
    flow_points t,
    total_le (carried F t) (λ p. choose (eq_point p q) n 0) (points T) (λ p i. by_point p (eq_point p q)),
    total_once eq_point q n (points T) (walk_once F ok),
  )
    where
      by_point : (p : CfgPoint) (d : Dec (p ≡ q)) → carried F t p ≤ choose d n 0
      by_point p (yes z) = if_low (count_in p t.targets) _ n (rw e (at_most p q vs (defaults_at F p) n few (rw z fills)))
      by_point p (no m) = if_led (count_in p t.targets) _ 0 (λ c.
          let z : length (vals_or (find eq_point p t.vals) (defaults_at F p)) ≡ 0 = rw e (ap length (elsewhere p q vs (defaults_at F p) m ∙ others p (counted_in p t.targets c) m)) in
          omega arith)

  -- a straight way
  straight_flow : (q : CfgPoint) → flow F (straight q) ≤ length (defaults_at F q)
  straight_flow q = sole (straight q) q [] (length (defaults_at F q)) refl (omega arith) (omega arith) (λ p i m. elim (in_cases i) [ inl e ↦ absurd (m e) | inr z ↦ absurd (in_nil z) ])

  -- an edge to a region's entry has no values without an entry of its own
  entry_none : (rs : List ℕ) (p : CfgPoint) → In p (map region_entry rs) → defaults_at F p ≡ []
  entry_none rs p i = ap (defaults_at F) (map_in region_entry rs i).2

  -- at a node's entry
  in_weight : (d : Node) (n : ℕ) → (ops_weight F (in_block F d n).ops + end_weight (in_block F d n).term) + 2 * flow F (in_block F d n).term ≤ node_weight F d
  in_weight (block is) n = omega (arith, straight_flow (node_exit n))
  in_weight (select k v cs ds u) n = omega (
    arith,
    sole (in_block F (select k v cs ds u) n).term (node_exit n) [] 0 refl (omega arith) (omega arith) (λ p i m. entry_none cs p i),
    length-map cs region_entry,
  )
  in_weight (loop b c is u) n = omega (arith, sole (in_block F (loop b c is u) n).term (node_exit n) [] 0 refl (omega arith) (omega arith) (λ p i m. entry_none (b ∷ []) p i))
  in_weight (exit j vs) n = omega (arith, sole (in_block F (exit j vs) n).term (node_exit n) [] 0 refl (omega arith) (omega arith) (λ p i m. absurd (in_nil i)))

  -- at a root's exit
  no_defaults : (o : Option (List Value)) (ds : List Value) → ds ≡ [] → length (vals_or o ds) ≤ weighed length o
  no_defaults none ds e = omega (arith, ap length e)
  no_defaults (some vs) ds e = omega arith

  root_weight : (o : Option ControlInst) (r : ℕ) → end_weight (root_term F o r) + 2 * flow F (root_term F o r) ≤ 2 * length (region_of F r).outs + weighed ctrl_weight o
  root_weight none r = omega (arith, sole (root_term F none r) (node_exit r) [] 0 refl (omega arith) (omega arith) (λ p i m. absurd (in_nil i)))
  root_weight (some c) r =
      let t : Terminator = root_term F (some c) r in
      omega (
        arith,
        flow_points t,
        total_le (carried F t) (λ p. weighed length (find eq_point p t.vals)) (points T)
            (λ p i. if_led (count_in p t.targets) _ _ (λ h. no_defaults (find eq_point p t.vals) (defaults_at F p) (entry_none c.to p (counted_in p t.targets h)))),
        total_find eq_point length (points T) (walk_once F ok) t.vals,
        total_map (λ (e : CfgPoint × List Value). length e.1) (λ (e : ℕ × List Value). (region_entry e.0, e.1)) c.vals,
        length-map c.to region_entry,
      )

  -- at the exit of a case or of a loop's body
  child_weight : (r n : ℕ) (d : Node) → node_of F n ≡ d → In r (children_of d)
      → end_weight (child_term F d n (region_of F r).outs) + 2 * flow F (child_term F d n (region_of F r).outs) ≤ 3 + 2 * length (region_of F r).outs
  child_weight r n (block is) e i = absurd (in_nil i)
  child_weight r n (exit j vs) e i = absurd (in_nil i)
  child_weight r n (select k v cs ds u) e i =
      let vs : List Value = (region_of F r).outs in
      omega (
        arith,
        sole (child_term F (select k v cs ds u) n vs) (node_exit n) vs (length vs) refl (omega arith) (omega arith)
            (λ p h m. elim (in_cases h) [ inl z ↦ absurd (m z) | inr z ↦ absurd (in_nil z) ]),
      )
  child_weight r n (loop b c is u) e i = by_test (always F c)
    where
      outs : List Value
      outs = (region_of F r).outs

      body : r ≡ b
      body = elim (in_cases i) [ inl z ↦ z | inr z ↦ absurd (in_nil z) ]

      fills : length (inits_of (node_of F n)) ≡ length (region_of F r).outs
      fills = ap (λ (d : Node). length (inits_of d)) e ∙ ok.fitting.loop_ins n e ∙ sym (ok.fitting.loop_outs n e) ∙ ap (λ (s : ℕ). length (region_of F s).outs) (sym body)

      by_test : (a : Bool) → end_weight (loop_term F a n c outs) + 2 * flow F (loop_term F a n c outs) ≤ 3 + 2 * length outs
      by_test true = omega (
        arith,
        sole (loop_term F true n c outs) (node_entry n) outs (length outs) refl (omega arith) (omega (arith, fills))
            (λ p h m. elim (in_cases h) [ inl z ↦ absurd (m z) | inr z ↦ absurd (in_nil z) ]),
      )
      by_test false = omega (
        arith,
        sole (loop_term F false n c outs) (node_entry n) outs (length outs) refl (omega arith) (omega (arith, fills))
            (λ p h m. elim (in_cases h) [ inl z ↦ absurd (m z) | inr y ↦ elim (in_cases y) [ inl z ↦ ap (defaults_at F) z | inr z ↦ absurd (in_nil z) ] ]),
      )

  -- at any region's exit
  exit_weight : (r : ℕ) (p : Place) → VisitedAt F r p → end_weight (exit_term F r p) + 2 * flow F (exit_term F r p) ≤ weight_at F (region_exit r)
  exit_weight r top v = omega (arith, root_weight (ctrl_of F r) r)
  exit_weight r (in_node n) v = omega (arith, child_weight r n (node_of F n) refl (placed_as F ok.targets v))

  -- at each visited point, with what it sends to the next one
  step_weight : (x : CfgPoint × BlockLifting) (o : Option CfgPoint) → Step F x o → sent F x ≤ ((head + head) + weight_at F x.0) + weighed (λ p. 2 * length (defaults_at F p)) o
  step_weight x o (step_entry {r} v) = omega (arith, straight_flow (next_point r (region_of F r).nodes))
  step_weight x o (step_in {n} v sf h) = omega (arith, in_weight (node_of F n) n)
  step_weight x o (step_out {r} {ns} v sf) = omega (arith, straight_flow (next_point r ns))
  step_weight x o (step_exit {r} {p} v a) = omega (arith, exit_weight r p v)

  -- all visited points
  pub points_weight : total (sent F) T ≤ total (point_weight F) (points T)
  points_weight = omega (
    arith,
    chain_total (Step F) (sent F) (λ p. (head + head) + weight_at F p) (λ p. 2 * length (defaults_at F p)) T none
        (λ x o i s. step_weight x o s) (walk_steps F ok),
    total_keys (point_weight F) T,
  )
