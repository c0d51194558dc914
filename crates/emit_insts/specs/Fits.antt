-- What the visited points of a text name is there: labels are points of the walk, values and ops are those of the text. Assumes nothing.
--     merges_small, targets_small    labels have small numbers
--     ins_named                      the inputs of a way out name something
--     node_ops_low                       a node's ops are ops of the text
--     ops_at                         the ops of a visited point
use Rattle.std.specs.Prelude.{◌≡◌, Bool, true, false, List, [], ℕ, suc, ◌<◌, length}
use Rattle.std.proofs.Math.Path.{refl}
use Rattle.std.proofs.Common.{sym, ap, subst, ◌∙◌}
use Rattle.std.proofs.Math.Option.{Option, none, some}
use Rattle.lifting.specs.Ast.{Func, Node, Value, block, exit, loop, select, ControlInst}
use Rattle.lifting.specs.Parts.{block_ops, ctrl_of, node_of, node_values, op_list, region_of}
use Rattle.lifting.specs.Points.{CfgPoint, node_entry, node_exit, region_entry, region_exit}
use Rattle.lifting.specs.Walk.{Place, always, child_term, exit_term, in_block, in_node, loop_term, root_term, top, walk_of}
use Rattle.lifting.specs.Absorb.{merge_labels}
use Rattle.func.specs.Decode.{func_of}
use Rattle.general_laws.specs.Members.{All, In, all_from, all_in, in_left, in_right}
use Rattle.general_laws.specs.Tests.{all_split, in_at}
use Rattle.lifting_runs.specs.Refers.{Named, Refers}
use Rattle.walk_points.specs.Numbers.{Small}
use Rattle.walk_points.specs.Walk.{Walkable}
use Rattle.terminators.specs.At.{block_is, visited_block, block_of, place_in, point_at}
use Rattle.terminators.specs.Visited.{Visited, label_small}

module _ {w u : List ℕ} {m : ℕ} (k : Visited w u m) (i : ℕ) (h : i < m) where
  pub merges_small : All Small (merge_labels (visited_block (func_of w) i).term.merge)
  merges_small = all_from Small (merge_labels (visited_block (func_of w) i).term.merge) (λ q z. label_small k i h q (in_left (visited_block (func_of w) i).term.targets z))

  pub targets_small : All Small (visited_block (func_of w) i).term.targets
  targets_small = all_from Small (visited_block (func_of w) i).term.targets (λ q z. label_small k i h q (in_right (merge_labels (visited_block (func_of w) i).term.merge) z))

module _ (F : Func) (refs : Refers F) where
  root_named : (o : Option ControlInst) (r : ℕ) → ctrl_of F r ≡ o → All (Named F) (root_term F o r).ins
  root_named none r e = refs.named.outs r
  root_named (some c) r e = (all_split (Named F) c.ins _ (refs.named.ctrl r e)).0

  loop_named : (b : Bool) (n : ℕ) (c : Value) (vs : List Value) → Named F c → All (Named F) (loop_term F b n c vs).ins
  loop_named true n c vs h = tt
  loop_named false n c vs h = (h, tt)

  child_named : (d : Node) (n : ℕ) (vs : List Value) → All (Named F) (node_values d) → All (Named F) (child_term F d n vs).ins
  child_named (block is) n vs h = tt
  child_named (select k v cs ds u) n vs h = tt
  child_named (loop b c is u) n vs h = loop_named (always F c) n c vs h.0
  child_named (exit i ws) n vs h = tt

  exit_named : (r : ℕ) (p : Place) → All (Named F) (exit_term F r p).ins
  exit_named r top = root_named (ctrl_of F r) r refl
  exit_named r (in_node n) = child_named (node_of F n) n (region_of F r).outs (refs.named.node n)

  in_named : (d : Node) (n : ℕ) → All (Named F) (node_values d) → All (Named F) (in_block F d n).term.ins
  in_named (block is) n h = tt
  in_named (select k v cs ds u) n h = h
  in_named (loop b c is u) n h = tt
  in_named (exit i vs) n h = h

  block_named : (p q : CfgPoint) → All (Named F) (block_of F p q).term.ins
  block_named (region_entry r) q = tt
  block_named (region_exit r) q = exit_named r (place_in F r)
  block_named (node_entry n) q = in_named (node_of F n) n (refs.named.node n)
  block_named (node_exit n) q = tt

  pub ins_named : Walkable F → (i : ℕ) → i < length (walk_of F) → All (Named F) (visited_block F i).term.ins
  ins_named ok i h = subst (λ b. All (Named F) b.term.ins) (sym (block_is F ok i h)) (block_named (point_at F i) (point_at F (suc i)))

  pub node_ops_low : (n o : ℕ) → In o (block_ops (node_of F n)) → o < length F.ops
  unfolding op_list
  node_ops_low n o z = all_in _ (op_list F) refs.ops_below o (in_at block_ops F.nodes (block []) refl n z)

-- the ops of a point: those of a node at its entry
abbrev pub ops_of : Func → CfgPoint → List ℕ
ops_of F (region_entry r) = []
ops_of F (region_exit r) = []
ops_of F (node_entry n) = block_ops (node_of F n)
ops_of F (node_exit n) = []

in_ops : (F : Func) (d : Node) (n : ℕ) → (in_block F d n).ops ≡ block_ops d
in_ops F (block is) n = refl
in_ops F (select k v cs ds u) n = refl
in_ops F (loop b c is u) n = refl
in_ops F (exit i vs) n = refl

block_ops_law : (F : Func) (p q : CfgPoint) → (block_of F p q).ops ≡ ops_of F p
block_ops_law F (region_entry r) q = refl
block_ops_law F (region_exit r) q = refl
block_ops_law F (node_entry n) q = in_ops F (node_of F n) n
block_ops_law F (node_exit n) q = refl

pub ops_at : (F : Func) → Walkable F → (i : ℕ) → i < length (walk_of F) → (visited_block F i).ops ≡ ops_of F (point_at F i)
ops_at F ok i h = ap (λ b. b.ops) (block_is F ok i h) ∙ block_ops_law F (point_at F i) (point_at F (suc i))
