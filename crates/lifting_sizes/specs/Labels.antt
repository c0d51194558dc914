-- How many points are visited, and how many targets and merge labels their ways out have, by the counts of the text's lines. Assumes nothing.
use Rattle.std.specs.Prelude.{Bool, true, false, List, []}
use Rattle.std.proofs.Math.Option.{Option, none, some}
use Prim.Native.Nat.{ℕ, ◌+◌, ◌*◌, ◌≤◌}
use Rattle.std.proofs.Math.Decide.{ℕ_discrete}
use native.Mathlib.Omega.{arith}
use Rattle.std.proofs.Math.ListN.{length}
use Rattle.std.proofs.lemmas.List.{length-map}
use Rattle.general_laws.specs.Lists.{below}
use Rattle.lifting.specs.Ast.{ControlInst, Func, Node, Value, block, exit, loop, select}
use Rattle.lifting.specs.Parts.{child_list, children_of, ctrl_of, node_of, region_of, targets}
use Rattle.lifting.specs.Points.{BlockLifting, CfgPoint, Table, node_entry, node_exit, region_entry, region_exit}
use Rattle.lifting.specs.Walk.{Place, always, child_term, exit_term, in_block, in_node, loop_term, root_term, top, walk_of}
use Rattle.lifting.specs.Absorb.{labels}
use Rattle.general_laws.specs.Members.{all_in, length_tabulate}
use Rattle.lifting_runs.specs.Refers.{Refers}
use Rattle.lifting_runs.specs.Shaped.{Shaped}
use Rattle.lifting_blocks.specs.Chain.{chain_all}
use Rattle.lifting_blocks.specs.Steps.{Step, step_entry, step_exit, step_in, step_out, walk_steps}
use Rattle.lifting_blocks.specs.Totals.{all_labels}
use Rattle.lifting_sizes.specs.Sums.{length_gather, total_find, total_keys, total_le, total_lines, total_ones, total_plus, weighed}
use Rattle.lifting_sizes.specs.Lines.{below_once, child_lines, points_within}

module _ (F : Func) where
  -- the targets of a ctrl line
  abbrev led : ControlInst → ℕ
  led c = length c.to

  -- A point: one target, but for a region's exit, whose ctrl line has its own and which else has two at most, and for a node's entry, with its
  -- children and two merge labels at most.
  abbrev labels_at : CfgPoint → ℕ
  labels_at (region_entry r) = 1
  labels_at (region_exit r) = 2 + weighed led (ctrl_of F r)
  labels_at (node_entry n) = 2 + length (children_of (node_of F n))
  labels_at (node_exit n) = 1

  in_labels : (d : Node) (n : ℕ) → length (labels (in_block F d n).term) ≤ 2 + length (children_of d)
  in_labels (block is) n = omega arith
  in_labels (select k v cs ds u) n = omega (arith, length-map cs region_entry)
  in_labels (loop b c is u) n = omega arith
  in_labels (exit i vs) n = omega arith

  root_labels : (o : Option ControlInst) (r : ℕ) → length (labels (root_term F o r)) ≤ weighed led o
  root_labels none r = omega arith
  root_labels (some c) r = omega (arith, length-map c.to region_entry)

  loop_labels : (a : Bool) (n : ℕ) (c : Value) (vs : List Value) → length (labels (loop_term F a n c vs)) ≤ 2
  loop_labels true n c vs = omega arith
  loop_labels false n c vs = omega arith

  child_labels : (d : Node) (n : ℕ) (vs : List Value) → length (labels (child_term F d n vs)) ≤ 2
  child_labels (block is) n vs = omega arith
  child_labels (select k v cs ds u) n vs = omega arith
  child_labels (loop b c is u) n vs = loop_labels (always F c) n c vs
  child_labels (exit i ws) n vs = omega arith

  exit_labels : (r : ℕ) (p : Place) → length (labels (exit_term F r p)) ≤ labels_at (region_exit r)
  exit_labels r top = omega (arith, root_labels (ctrl_of F r) r)
  exit_labels r (in_node n) = omega (arith, child_labels (node_of F n) n (region_of F r).outs)

  step_labels : (x : CfgPoint × BlockLifting) (o : Option CfgPoint) → Step F x o → length (labels x.1.term) ≤ labels_at x.0
  step_labels x o (step_entry v) = omega arith
  step_labels x o (step_in {n} v sf h) = in_labels (node_of F n) n
  step_labels x o (step_out v sf) = omega arith
  step_labels x o (step_exit {r} {p} v a) = exit_labels r p

  module _ (ok : Shaped F) (named : Refers F) where
    abbrev T : Table
    T = walk_of F

    abbrev regions : List ℕ
    regions = below (length F.regions)

    abbrev nodes : List ℕ
    nodes = below (length F.nodes)

    -- an entry and an exit for each region and node
    pub points_count : length T ≤ 2 * length F.regions + 2 * length F.nodes
    points_count = omega (
      arith,
      total_ones T,
      total_keys (λ p. 1) T,
      points_within F ok named (λ p. 1),
      total_ones regions,
      total_ones nodes,
      length_tabulate (λ i. i) 0 (length F.regions),
      length_tabulate (λ i. i) 0 (length F.nodes),
    )

    -- one, two and one as a child for each region; two and one for each node; the targets of ctrl lines
    pub labels_count : length (all_labels T) ≤ 4 * length F.regions + (3 * length F.nodes + length (targets F))
    unfolding targets child_list
    labels_count =
        let kids : Node → ℕ = λ d. length (children_of d) in
        omega (
          arith,
          length_gather (λ (x : CfgPoint × BlockLifting). labels x.1.term) T,
          total_le (λ x. length (labels x.1.term)) (λ x. labels_at x.0) T (all_in _ T (chain_all (Step F) _ step_labels T none (walk_steps F ok))),
          total_keys labels_at T,
          points_within F ok named labels_at,
          total_ones regions,
          total_plus 2 (λ r. weighed led (ctrl_of F r)) regions,
          total_find ℕ_discrete led regions (below_once (length F.regions)) F.ctrls,
          length_gather (λ (c : ℕ × ControlInst). c.1.to) F.ctrls,
          total_lines (λ (d : Node). 2 + kids d) F.nodes (block []),
          total_plus 2 kids F.nodes,
          length_gather children_of F.nodes,
          child_lines F ok named,
          total_ones nodes,
          length_tabulate (λ i. i) 0 (length F.regions),
          length_tabulate (λ i. i) 0 (length F.nodes),
        )
