-- What the visited points weigh is at most what the text's lines weigh: each region, node, op and ctrl line stands for one point or two, each
-- of them visited at most once. And there are no more phis than inputs and outs. Assumes nothing.
use Rattle.std.specs.Prelude.{◌≡◌, get_or}
use Rattle.std.proofs.Math.Path.{refl}
use Rattle.std.proofs.Common.{sym, subst, inl, inr}
use mathlib.Core.List.{List, [], ◌∷◌, ◌++◌, map}
use Rattle.std.proofs.Math.Option.{Option, none}
use Prim.Native.Nat.{ℕ, zero, suc, ◌+◌, ◌*◌, ◌≤◌, ◌<◌}
use Rattle.std.proofs.Math.Decide.{ℕ_discrete}
use native.Mathlib.Omega.{arith}
use Rattle.std.proofs.Math.ListN.{length, length-append}
use Rattle.general_laws.specs.Lists.{below, gather}
use Rattle.lifting.specs.Ast.{ControlInst, Func, Inst, Node, Op, Region, Value, block, call, exit, loop, node_output, region_input, select}
use Rattle.lifting.specs.Parts.{block_ops, child_list, children_of, ctrl_insts, ctrl_of, ctrl_values, decls, immediates, ins_keys, insts, node_insts, node_list, node_of, node_values, op_insts, op_list, op_of, out_keys, outs_of, region_of, targets, values}
use Rattle.lifting.specs.Order.{roots}
use Rattle.lifting.specs.Points.{BlockLifting, CfgPoint, Table, eq_point, node_entry, node_exit, points, region_entry, region_exit}
use Rattle.lifting.specs.Walk.{Place, entry_keys, in_block, in_node, top, walk_of}
use Rattle.lifting.specs.Ids.{phi_keys}
use Rattle.general_laws.specs.Members.{In, NoDup, all_in, gather_in, here, in_gather, in_left, in_map, in_nil, in_right, in_split, in_tabulate, length_tabulate, nodup_append, nodup_tabulate}
use Rattle.general_laws.specs.Tests.{all_line, find_in}
use Rattle.lifting_runs.specs.Refers.{Refers}
use Rattle.lifting_runs.specs.Places.{Suffix, VisitedAt}
use Rattle.lifting_runs.specs.TourLaid.{suffix_in}
use Rattle.lifting_runs.specs.IdsOnce.{phis_nodup}
use Rattle.lifting_runs.specs.Shaped.{Shaped}
use Rattle.lifting_runs.proofs.Shaped.{depth, in_order, tree, visited_low, walk_is, walk_once}
use Rattle.lifting_blocks.specs.Chain.{chain_all}
use Rattle.lifting_blocks.specs.Steps.{Step, step_entry, step_exit, step_in, step_out, walk_steps}
use Rattle.lifting_blocks.specs.Kept.{point_block}
use Rattle.lifting_blocks.specs.Totals.{total, total_add, total_none}
use Rattle.lifting_sizes.specs.Sums.{length_gather, total_append, total_find, total_gather, total_le, total_lines, total_map, total_ones, total_plus, total_scale, total_within, weighed}
use Rattle.lifting_sizes.specs.Weights.{ctrl_weight, imm_weight, imm_total, inits_of, lines_weight, op_weight, ops_weight, point_weight, read_at}

-- the numbers below n, each once
in_below : (n i : ℕ) → i < n → In i (below n)
in_below n i h = in_tabulate (λ j. j) 0 n i (omega arith) (omega arith)

pub below_once : (n : ℕ) → NoDup (below n)
below_once n = nodup_tabulate (λ i. i) (λ i j e. e) 0 n

-- What is gathered from lines stands at one of them; and if nothing stands twice at one line, nor at two, nothing stands twice in all.
module _ {A B : Type 0} (f : A → List B) (d : A) where
  gather_line : (l : List A) {y : B} → In y (gather f l) → (n : ℕ) × In y (f (get_or l n d))
  gather_line [] h = absurd (in_nil h)
  gather_line (x ∷ l) h = elim (in_split (f x) (gather f l) h) [ inl i ↦ (0, i) | inr i ↦ (let w = gather_line l i in (suc w.0, w.1)) ]

  lines_once : (l : List A) → ((n : ℕ) → NoDup (f (get_or l n d))) → ((y : B) (n k : ℕ) → In y (f (get_or l n d)) → In y (f (get_or l k d)) → n ≡ k) → NoDup (gather f l)
  lines_once [] one two = tt
  lines_once (x ∷ l) one two = nodup_append (f x) (gather f l) (one 0) (lines_once l (λ n. one (suc n)) (λ y n k i j. omega (arith, two y (suc n) (suc k) i j)))
      (λ y i j. let w = gather_line l j in omega (arith, two y 0 (suc w.0) i w.1))

module _ (F : Func) where
  -- the immediates of all INSTs, by lines
  imm_lines : length (immediates F) ≡ total (λ d. imm_total (node_insts d)) F.nodes + (total (λ o. imm_total (op_insts o.kind)) F.ops + total (λ c. imm_total (ctrl_insts c.1.kind)) F.ctrls)
  unfolding immediates insts
  imm_lines =
      let w : Inst → ℕ = λ i. length i.imms in
      let ops : List Inst = gather (λ o. op_insts o.kind) F.ops in
      let ctrls : List Inst = gather (λ c. ctrl_insts c.1.kind) F.ctrls in
      omega (
        arith,
        length_gather (λ (i : Inst). i.imms) (insts F),
        total_append w (gather node_insts F.nodes) (ops ++ ctrls),
        total_append w ops ctrls,
        total_gather w node_insts F.nodes,
        total_gather w (λ o. op_insts o.kind) F.ops,
        total_gather w (λ c. ctrl_insts c.1.kind) F.ctrls,
      )

  -- the values of all lines
  value_lines : length (values F) ≡ total (λ r. length r.outs) F.regions + (total (λ d. length (node_values d)) F.nodes + (total (λ o. length o.operands) F.ops + total (λ c. length (ctrl_values c)) F.ctrls))
  unfolding values
  value_lines =
      let outs : List Value = gather (λ r. r.outs) F.regions in
      let nodes : List Value = gather node_values F.nodes in
      let ops : List Value = gather (λ o. o.operands) F.ops in
      let ctrls : List Value = gather ctrl_values F.ctrls in
      omega (
        arith,
        length-append outs (nodes ++ (ops ++ ctrls)),
        length-append nodes (ops ++ ctrls),
        length-append ops ctrls,
        length_gather (λ (r : Region). r.outs) F.regions,
        length_gather node_values F.nodes,
        length_gather (λ (o : Op). o.operands) F.ops,
        length_gather ctrl_values F.ctrls,
      )

  -- ctrl lines
  ctrl_lines_law : total (λ c. ctrl_weight c.1) F.ctrls ≤ imm_weight * total (λ c. imm_total (ctrl_insts c.1.kind)) F.ctrls + (2 * total (λ c. length (ctrl_values c)) F.ctrls + length (targets F))
  unfolding targets
  ctrl_lines_law =
      let imms : ℕ × ControlInst → ℕ = λ c. imm_total (ctrl_insts c.1.kind) in
      let vals : ℕ × ControlInst → ℕ = λ c. length (ctrl_values c) in
      let to : ℕ × ControlInst → ℕ = λ c. length c.1.to in
      omega (
        arith,
        total_le (λ (c : ℕ × ControlInst). ctrl_weight c.1) (λ c. imm_weight * imms c + (2 * vals c + to c)) F.ctrls
            (λ c i. omega (arith, length-append c.1.ins (gather (λ e. e.1) c.1.vals), length_gather (λ (e : ℕ × List Value). e.1) c.1.vals)),
        total_add (λ c. imm_weight * imms c) (λ c. 2 * vals c + to c) F.ctrls,
        total_add (λ c. 2 * vals c) to F.ctrls,
        total_scale imm_weight imms F.ctrls,
        total_scale 2 vals F.ctrls,
        length_gather (λ (c : ℕ × ControlInst). c.1.to) F.ctrls,
      )

  -- Entries and exits of regions: 28 is two labels, two ways out, one target at the entry, and a condition and two targets at the exit.
  region_lines_law : total (λ r. point_weight F (region_entry r)) (below (length F.regions)) + total (λ r. point_weight F (region_exit r)) (below (length F.regions))
      ≤ 28 * length F.regions + (2 * total (λ r. length r.outs) F.regions + total (λ c. ctrl_weight c.1) F.ctrls)
  region_lines_law =
      let l : List ℕ = below (length F.regions) in
      let outs : ℕ → ℕ = λ r. length (region_of F r).outs in
      let ways : ℕ → ℕ = λ r. weighed ctrl_weight (ctrl_of F r) in
      omega (
        arith,
        total_plus 13 (λ r. 0) l,
        total_none l,
        total_le (λ r. point_weight F (region_exit r)) (λ r. 15 + (2 * outs r + ways r)) l (λ r i. omega arith),
        total_plus 15 (λ r. 2 * outs r + ways r) l,
        total_add (λ r. 2 * outs r) ways l,
        total_scale 2 outs l,
        total_lines (λ (r : Region). length r.outs) F.regions (record { ins = []; nodes = []; outs = [] }),
        total_find ℕ_discrete ctrl_weight l (below_once (length F.regions)) F.ctrls,
        length_tabulate (λ i. i) 0 (length F.regions),
      )

  -- Entries and exits of nodes: each value of a node is read by its way out or moves along edges to it; 37 is two labels, two ways out, a merge and
  -- two targets.
  node_values_law : (d : Node) → length (read_at d) + 2 * length (inits_of d) ≤ 2 * length (node_values d)
  node_values_law (block is) = omega arith
  node_values_law (select k v cs ds u) = omega arith
  node_values_law (loop b c vs u) = omega arith
  node_values_law (exit i vs) = omega arith

  node_lines_law : total (λ n. point_weight F (node_entry n)) (below (length F.nodes)) + total (λ n. point_weight F (node_exit n)) (below (length F.nodes))
      ≤ 37 * length F.nodes + (length (child_list F) + (imm_weight * total (λ d. imm_total (node_insts d)) F.nodes + (2 * total (λ d. length (node_values d)) F.nodes + ops_weight F (op_list F))))
  unfolding child_list op_list
  node_lines_law =
      let l : List ℕ = below (length F.nodes) in
      let kids : Node → ℕ = λ d. length (children_of d) in
      let imms : Node → ℕ = λ d. imm_total (node_insts d) in
      let vals : Node → ℕ = λ d. length (node_values d) in
      let ops : Node → ℕ = λ d. ops_weight F (block_ops d) in
      let line : Node → ℕ = λ d. 24 + (kids d + (imm_weight * imms d + (2 * vals d + ops d))) in
      omega (
        arith,
        total_plus 13 (λ n. 0) l,
        total_none l,
        total_le (λ n. point_weight F (node_entry n)) (λ n. line (node_of F n)) l (λ n i. omega (arith, node_values_law (node_of F n))),
        total_lines line F.nodes (block []),
        total_plus 24 (λ d. kids d + (imm_weight * imms d + (2 * vals d + ops d))) F.nodes,
        total_add kids (λ d. imm_weight * imms d + (2 * vals d + ops d)) F.nodes,
        total_add (λ d. imm_weight * imms d) (λ d. 2 * vals d + ops d) F.nodes,
        total_add (λ d. 2 * vals d) ops F.nodes,
        total_scale imm_weight imms F.nodes,
        total_scale 2 vals F.nodes,
        length_gather children_of F.nodes,
        total_gather (λ i. op_weight (op_of F i)) block_ops F.nodes,
        length_tabulate (λ i. i) 0 (length F.nodes),
      )

  module _ (ok : Shaped F) (named : Refers F) where
    abbrev T : Table
    T = walk_of F

    -- an op stands once in all blocks' lists
    ops_once : NoDup (op_list F)
    unfolding op_list
    ops_once = lines_once block_ops (block []) F.nodes ok.forest.ops_once ok.forest.op_once

    op_lines_law : ops_weight F (op_list F) ≤ 10 * length F.ops + (imm_weight * total (λ o. imm_total (op_insts o.kind)) F.ops + total (λ o. length o.operands) F.ops)
    op_lines_law =
        let imms : Op → ℕ = λ o. imm_total (op_insts o.kind) in
        let vals : Op → ℕ = λ o. length o.operands in
        omega (
          arith,
          total_within (λ i. op_weight (op_of F i)) (op_list F) (below (length F.ops)) ops_once (λ i h. in_below (length F.ops) i (all_in _ (op_list F) named.ops_below i h)),
          total_lines op_weight F.ops (record { attrs = 0; type = 0; kind = call 0; operands = [] }),
          total_plus 10 (λ o. imm_weight * imms o + vals o) F.ops,
          total_add (λ o. imm_weight * imms o) vals F.ops,
          total_scale imm_weight imms F.ops,
        )

    -- and a region at most once among children
    kids_once : NoDup (child_list F)
    unfolding child_list
    kids_once = lines_once children_of (block []) F.nodes ok.forest.cases_once (λ c n k. ok.forest.child_once n k c)

    kid_below : (r : ℕ) → In r (child_list F) → r < length F.regions
    unfolding child_list
    kid_below r h = let w = gather_line children_of (block []) F.nodes h in ok.forest.child_range w.0 r w.1

    -- no more children than regions
    pub child_lines : length (child_list F) ≤ length F.regions
    child_lines = omega (
      arith,
      total_ones (child_list F),
      total_within (λ r. 1) (child_list F) (below (length F.regions)) kids_once (λ r h. in_below (length F.regions) r (kid_below r h)),
      total_ones (below (length F.regions)),
      length_tabulate (λ i. i) 0 (length F.regions),
    )

    -- visited regions and nodes are the text's
    node_low : (r : ℕ) {n : ℕ} {ns : List ℕ} → Suffix (region_of F r).nodes (n ∷ ns) → n < length F.nodes
    unfolding node_list
    node_low r {n} sf = all_in _ (region_of F r).nodes (all_line _ (λ (r : Region). r.nodes) F.regions named.nodes_below (record { ins = []; nodes = []; outs = [] }) refl r) n (suffix_in F sf here)

    in_regions : {r : ℕ} {p : Place} → VisitedAt F r p → In r (below (length F.regions))
    in_regions {r} v = in_below (length F.regions) r (visited_low F ok v)

    in_nodes : (r : ℕ) {n : ℕ} {ns : List ℕ} → Suffix (region_of F r).nodes (n ∷ ns) → In n (below (length F.nodes))
    in_nodes r {n} sf = in_below (length F.nodes) n (node_low r sf)

    -- all points of the text
    abbrev entries : List CfgPoint
    entries = map region_entry (below (length F.regions))

    abbrev exits : List CfgPoint
    exits = map region_exit (below (length F.regions))

    abbrev ins : List CfgPoint
    ins = map node_entry (below (length F.nodes))

    abbrev outs : List CfgPoint
    outs = map node_exit (below (length F.nodes))

    abbrev all_points : List CfgPoint
    all_points = entries ++ (exits ++ (ins ++ outs))

    -- each visited point is one of them
    step_point : (x : CfgPoint × BlockLifting) (o : Option CfgPoint) → Step F x o → In x.0 all_points
    step_point x o (step_entry v) = in_left (exits ++ (ins ++ outs)) (in_map region_entry (in_regions v))
    step_point x o (step_exit v a) = in_right entries (in_left (ins ++ outs) (in_map region_exit (in_regions v)))
    step_point x o (step_in {r} v sf h) = in_right entries (in_right exits (in_left outs (in_map node_entry (in_nodes r sf))))
    step_point x o (step_out {r} v sf) = in_right entries (in_right exits (in_right ins (in_map node_exit (in_nodes r sf))))

    a_point : (p : CfgPoint) → In p (points T) → In p all_points
    a_point p i =
        let w = point_block p T i in
        all_in (λ x. In x.0 all_points) T (chain_all (Step F) _ step_point T none (walk_steps F ok)) (p, w.0) (find_in eq_point p T w.1)

    -- so they weigh at most what the text's points weigh
    pub points_within : (f : CfgPoint → ℕ) → total f (points T)
        ≤ (total (λ r. f (region_entry r)) (below (length F.regions)) + total (λ r. f (region_exit r)) (below (length F.regions)))
        + (total (λ n. f (node_entry n)) (below (length F.nodes)) + total (λ n. f (node_exit n)) (below (length F.nodes)))
    points_within f = omega (
      arith,
      total_within f (points T) all_points (walk_once F ok) a_point,
      total_append f entries (exits ++ (ins ++ outs)),
      total_append f exits (ins ++ outs),
      total_append f ins outs,
      total_map f region_entry (below (length F.regions)),
      total_map f region_exit (below (length F.regions)),
      total_map f node_entry (below (length F.nodes)),
      total_map f node_exit (below (length F.nodes)),
    )

    -- all visited points
    pub points_lines : total (point_weight F) (points T) ≤ lines_weight F
    points_lines = omega (
      arith,
      points_within (point_weight F),
      region_lines_law,
      ctrl_lines_law,
      node_lines_law,
      child_lines,
      op_lines_law,
      imm_lines,
      value_lines,
    )

    -- the values that phis can set: inputs of regions, outputs of nodes
    abbrev in_keys : List Value
    in_keys = gather (ins_keys F) (below (length F.regions))

    abbrev node_keys : ℕ → List Value
    node_keys n = out_keys n (outs_of (node_of F n))

    abbrev set_keys : List Value
    set_keys = gather node_keys (below (length F.nodes))

    -- each phi sets one of them, and no two the same
    entry_keys_law : (r : ℕ) (p : Place) → VisitedAt F r p → (v : Value) → In v (entry_keys F r p) → In v in_keys
    entry_keys_law zero top w v i = absurd (in_nil i)
    entry_keys_law (suc r) top w v i = in_gather (ins_keys F) (in_regions w) i
    entry_keys_law r (in_node n) w v i = absurd (in_nil i)

    in_keys_law : (n : ℕ) (d : Node) → node_of F n ≡ d → (v : Value) → In v (in_block F d n).keys → In v in_keys
    in_keys_law n (block is) e v i = absurd (in_nil i)
    in_keys_law n (select k w cs ds u) e v i = absurd (in_nil i)
    in_keys_law n (loop b c is u) e v i = in_gather (ins_keys F) (in_below (length F.regions) b (ok.forest.child_range n b (subst (λ (d : Node). In b (children_of d)) (sym e) here))) i
    in_keys_law n (exit j vs) e v i = absurd (in_nil i)

    step_keys : (x : CfgPoint × BlockLifting) (o : Option CfgPoint) → Step F x o → (v : Value) → In v x.1.keys → In v (in_keys ++ set_keys)
    step_keys x o (step_entry {r} {p} w) v i = in_left set_keys (entry_keys_law r p w v i)
    step_keys x o (step_in {n} w sf h) v i = in_left set_keys (in_keys_law n (node_of F n) refl v i)
    step_keys x o (step_out {r} w sf) v i = in_right in_keys (in_gather node_keys (in_nodes r sf) i)
    step_keys x o (step_exit w a) v i = absurd (in_nil i)

    a_key : (v : Value) → In v (phi_keys T) → In v (in_keys ++ set_keys)
    a_key v i =
        let w = gather_in (λ (x : CfgPoint × BlockLifting). x.1.keys) T i in
        all_in (λ x. (v : Value) → In v x.1.keys → In v (in_keys ++ set_keys)) T (chain_all (Step F) _ step_keys T none (walk_steps F ok)) w.0 w.1 v w.2

    phis_once : NoDup (phi_keys T)
    phis_once = subst (λ (U : Table). NoDup (phi_keys U)) (walk_is F ok) (phis_nodup F (depth F ok) (tree F ok) ok.targets.body_root ok.forest (roots F) (in_order F ok).no_child
        (subst (λ (U : Table). NoDup (points U)) (sym (walk_is F ok)) (walk_once F ok)))

    -- no more phis than inputs and outs
    pub phi_lines : length (phi_keys T) ≤ length (decls F)
    unfolding decls
    phi_lines = omega (
      arith,
      total_ones (phi_keys T),
      total_within (λ v. 1) (phi_keys T) (in_keys ++ set_keys) phis_once a_key,
      total_ones (in_keys ++ set_keys),
      length-append in_keys set_keys,
      length_gather (ins_keys F) (below (length F.regions)),
      total_le (λ r. length (ins_keys F r)) (λ r. length (region_of F r).ins) (below (length F.regions)) (λ r i. omega (arith, length_tabulate (region_input r) 0 (length (region_of F r).ins))),
      total_lines (λ (r : Region). length r.ins) F.regions (record { ins = []; nodes = []; outs = [] }),
      length_gather node_keys (below (length F.nodes)),
      total_le (λ n. length (node_keys n)) (λ n. length (outs_of (node_of F n))) (below (length F.nodes)) (λ n i. omega (arith, length_tabulate (node_output n) 0 (length (outs_of (node_of F n))))),
      total_lines (λ (d : Node). length (outs_of d)) F.nodes (block []),
      length-append (gather (λ (r : Region). r.ins) F.regions) (gather outs_of F.nodes),
      length_gather (λ (r : Region). r.ins) F.regions,
      length_gather outs_of F.nodes,
    )
