-- Refusal 4 as facts: what each reference of a text names, where the test runs over all of the text's lines of a kind. Assumes nothing.
use Rattle.std.specs.Prelude.{◌≡◌, refl, true, ◌&&◌, List, ◌∷◌, ◌++◌, map, ℕ, ◌<◌, ◌≤◌, leb, ltb, length}
use Rattle.std.proofs.Math.Option.{some}
use Rattle.std.proofs.Math.Decide.{ℕ_discrete}
use Rattle.std.proofs.Common.{arith, leb-true, ltb-true}
use Rattle.std.proofs.lemmas.Bool.{not-true}
use Rattle.opcodes.specs.Table.{table}
use Rattle.general_laws.specs.Lists.{gather, within, keys}
use Rattle.lifting.specs.Ast.{Value, Inst, Op, Region, ControlInst, Node, Const, Func}
use Rattle.lifting.specs.Parts.{region_of, node_of, op_of, ctrl_of, children_of, node_control, node_values, ctrl_values, values, node_insts, op_insts, ctrl_insts, insts, node_list, op_list, child_list, ctrl_regions, required_ids}
use Rattle.lifting.specs.Limits.{max_opcode, max_control}
use Rattle.lifting.specs.References.{named, inst_fits, control_holds, references_hold}
use Rattle.general_laws.specs.Members.{All, NoDup}
use Rattle.lifting_runs.specs.Accepted.{FreeInst}
use Rattle.general_laws.specs.Tests.{both, every_all, all_at, all_split, all_line, all_entry, distinct_once}

-- a value that names something
abbrev pub Named : Func → Value → Type 0
Named F v = named F v ≡ true

-- what holds of every value of a text holds of those of each line
pub record Uses (P : Value → Type 0) (F : Func) : Type 0 where
  pub outs : (r : ℕ) → All P (region_of F r).outs
  pub node : (n : ℕ) → All P (node_values (node_of F n))
  pub operands : (i : ℕ) → All P (op_of F i).operands
  pub ctrl : (r : ℕ) {c : ControlInst} → ctrl_of F r ≡ some c → All P (ctrl_values (r, c))

pub uses : (P : Value → Type 0) (F : Func) → All P (values F) → Uses P F
unfolding values
uses P F h =
    let outs_of_law : Region → List Value = λ r. r.outs in
    let operands_of : Op → List Value = λ o. o.operands in
    let from_outs = all_split P (gather outs_of_law F.regions) _ h in
    let from_nodes = all_split P (gather node_values F.nodes) _ from_outs.1 in
    let from_ops = all_split P (gather operands_of F.ops) (gather ctrl_values F.ctrls) from_nodes.1 in
    record {
      outs = all_line P outs_of_law F.regions from_outs.0 _ refl;
      node = all_line P node_values F.nodes from_nodes.0 _ refl;
      operands = all_line P operands_of F.ops from_ops.0 _ refl;
      ctrl = all_entry ℕ_discrete P ctrl_values F.ctrls from_ops.1;
    }

pub record Refers (F : Func) : Type 0 where
  pub all_named : All (Named F) (values F)
  pub named : Uses (Named F) F
  pub nodes_below : All (λ n. n < length F.nodes) (node_list F)
  pub ops_below : All (λ i. i < length F.ops) (op_list F)
  pub children_below : (n : ℕ) → All (λ r. r < length F.regions) (children_of (node_of F n))
  pub targets_below : (r : ℕ) {c : ControlInst} → ctrl_of F r ≡ some c → All (λ s. s < length F.regions) c.to
  pub ids_above : All (λ x. 0 < x) (required_ids F)
  pub consts_once : NoDup (map (λ (c : Const). c.id) F.consts)
  pub node_control_law : (n : ℕ) → node_control (node_of F n) ≤ max_control
  pub node_free : (n : ℕ) → All FreeInst (node_insts (node_of F n))
  pub op_free : (i : ℕ) → All FreeInst (op_insts (op_of F i).kind)
  pub ctrl_free : (r : ℕ) {c : ControlInst} → ctrl_of F r ≡ some c → All FreeInst (ctrl_insts c.kind)

inst_free : (i : Inst) → inst_fits i ≡ true → FreeInst i
inst_free i e = let short = leb i.opcode max_opcode in not-true (within i.opcode table) (both short _ (both (short && _) _ e).0).1

-- The tests of refusal 4 in their order: values, nodes, ops, regions, ids, constants, their opcodes, control numbers of merges, INSTs.
pub refers : (F : Func) → references_hold F ≡ true → Refers F
unfolding references_hold
refers F e =
    let insts_fit = both _ _ e in
    let controls_hold = both _ _ insts_fit.0 in
    let opcodes_fit = both _ _ controls_hold.0 in
    let consts_differ = both _ _ opcodes_fit.0 in
    let ids_given = both _ _ consts_differ.0 in
    let regions_named = both _ _ ids_given.0 in
    let ops_named = both _ _ regions_named.0 in
    let nodes_named = both _ _ ops_named.0 in
    let all_values : All (Named F) (values F) = every_all (named F) (Named F) (λ v t. t) (values F) nodes_named.0 in
    let op_insts_law : Op → List Inst = λ o. op_insts o.kind in
    let regions_below = all_split (λ r. r < length F.regions) (child_list F) (ctrl_regions F) (every_all _ _ (λ r t. ltb-true r (length F.regions) t) (child_list F ++ ctrl_regions F) regions_named.1) in
    let of_nodes = all_split FreeInst (gather node_insts F.nodes) _ (every_all inst_fits FreeInst inst_free (insts F) insts_fit.1) in
    let of_ops = all_split FreeInst (gather op_insts_law F.ops) _ of_nodes.1 in
    record {
      all_named = all_values;
      named = uses (Named F) F all_values;
      nodes_below = every_all _ _ (λ n t. ltb-true n (length F.nodes) t) (node_list F) nodes_named.1;
      ops_below = every_all _ _ (λ i t. ltb-true i (length F.ops) t) (op_list F) ops_named.1;
      children_below = all_line _ children_of F.nodes regions_below.0 _ refl;
      targets_below = λ r {c} f. (all_split _ c.to (keys c.vals) (all_entry ℕ_discrete (λ s. s < length F.regions) (λ (d : ℕ × ControlInst). d.0 ∷ (d.1.to ++ keys d.1.vals)) F.ctrls regions_below.1 r f).1).0;
      ids_above = every_all (ltb 0) _ (ltb-true 0) (required_ids F) ids_given.1;
      consts_once = distinct_once (map (λ (c : Const). c.id) F.consts) consts_differ.1;
      node_control_law = all_at (λ (d : Node). node_control d ≤ max_control) F.nodes (every_all control_holds _ (λ d t. leb-true (node_control d) max_control t) F.nodes controls_hold.1) _ (omega arith);
      node_free = all_line FreeInst node_insts F.nodes of_nodes.0 _ refl;
      op_free = all_line FreeInst op_insts_law F.ops of_ops.0 _ refl;
      ctrl_free = all_entry ℕ_discrete FreeInst (λ c. ctrl_insts c.1.kind) F.ctrls of_ops.1;
    }
