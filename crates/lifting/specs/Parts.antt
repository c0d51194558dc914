-- The lines of a text by number, and what stands in all of its lines, kind by kind. Assumes nothing.
use Rattle.std.specs.Prelude.{Bool, true, false, List, [], ◌∷◌, ◌++◌, map, ℕ, get_or, length}
use Rattle.std.proofs.Math.Option.{Option, none, some}
use Rattle.std.proofs.Math.Decide.{ℕ_discrete}
use Rattle.general_laws.specs.Lists.{gather, find, keys, tabulate}
use Rattle.lifting.specs.Ast.{Value, region_input, node_output, Imm, Inst, DataInstKind, inst, call, ext, Op, SelectionKind, bool_cond, spv_inst, Decl, Node, block, select, loop, exit, Region, ControlInstKind, unreachable, return, branch, select_branch, exit_invocation, ControlInst, Const, Func}

-- Each kind is numbered from 0. What a number that names no line stands for holds nothing, so that it has no input, output or result.
module _ (F : Func) where
  abbrev pub const_of : ℕ → Const
  const_of n = get_or F.consts n (record { id = 0; opcode = 0 })

  abbrev pub region_of : ℕ → Region
  region_of r = get_or F.regions r (record { ins = []; nodes = []; outs = [] })

  abbrev pub node_of : ℕ → Node
  node_of n = get_or F.nodes n (block [])

  abbrev pub op_of : ℕ → Op
  op_of i = get_or F.ops i (record { attrs = 0; type = 0; kind = call 0; operands = [] })

  -- the way out of a region
  abbrev pub ctrl_of : ℕ → Option ControlInst
  ctrl_of r = find ℕ_discrete r F.ctrls

-- `(imported)` alone, or regions (at least one)
abbrev pub has_body : List Region → Bool
has_body [] = false
has_body (r ∷ rs) = true

-- the regions of a node, and its outputs
abbrev pub children_of : Node → List ℕ
children_of (block is) = []
children_of (select k v cs ds u) = cs
children_of (loop b c vs u) = b ∷ []
children_of (exit i vs) = []

abbrev pub outs_of : Node → List Decl
outs_of (block is) = []
outs_of (select k v cs ds u) = ds
outs_of (loop b c vs u) = []
outs_of (exit i vs) = []

-- the control number of its merge (document 02, W4), and 0 where it has no merge
abbrev pub node_control : Node → ℕ
node_control (block is) = 0
node_control (select k v cs ds u) = u
node_control (loop b c vs u) = u
node_control (exit i vs) = 0

-- the inputs of a region and the outputs of a node, as values
abbrev pub ins_keys : Func → ℕ → List Value
ins_keys F r = tabulate (region_input r) 0 (length (region_of F r).ins)

abbrev pub out_keys : ℕ → List Decl → List Value
out_keys n ds = tabulate (node_output n) 0 (length ds)

-- the values that a ctrl line has for a target, which has none without an entry
abbrev pub vals_or : Option (List Value) → List Value → List Value
vals_or none d = d
vals_or (some vs) d = vs

abbrev pub vals_for : ControlInst → ℕ → List Value
vals_for c r = vals_or (find ℕ_discrete r c.vals) []

-- every V form, wherever it stands
abbrev pub node_values : Node → List Value
node_values (block is) = []
node_values (select k v cs ds u) = v ∷ []
node_values (loop b c vs u) = c ∷ vs
node_values (exit i vs) = vs

abbrev pub ctrl_values : ℕ × ControlInst → List Value
ctrl_values c = c.1.ins ++ gather (λ e. e.1) c.1.vals

unfoldable pub values : Func → List Value
values F = gather (λ r. r.outs) F.regions ++ (gather node_values F.nodes ++ (gather (λ o. o.operands) F.ops ++ gather ctrl_values F.ctrls))

-- inputs and outs
unfoldable pub decls : Func → List Decl
decls F = gather (λ r. r.ins) F.regions ++ gather outs_of F.nodes

-- every INST
abbrev pub selection_insts : SelectionKind → List Inst
selection_insts bool_cond = []
selection_insts (spv_inst i) = i ∷ []

abbrev pub node_insts : Node → List Inst
node_insts (block is) = []
node_insts (select k v cs ds u) = selection_insts k
node_insts (loop b c vs u) = []
node_insts (exit i vs) = i ∷ []

abbrev pub op_insts : DataInstKind → List Inst
op_insts (inst i) = i ∷ []
op_insts (call f) = []
op_insts (ext s n) = []

abbrev pub ctrl_insts : ControlInstKind → List Inst
ctrl_insts unreachable = []
ctrl_insts return = []
ctrl_insts branch = []
ctrl_insts (select_branch k) = selection_insts k
ctrl_insts (exit_invocation i) = i ∷ []

unfoldable pub insts : Func → List Inst
insts F = gather node_insts F.nodes ++ (gather (λ o. op_insts o.kind) F.ops ++ gather (λ c. ctrl_insts c.1.kind) F.ctrls)

-- every `(kind operandkind word)`
unfoldable pub immediates : Func → List Imm
unfolding insts
immediates F = gather (λ i. i.imms) (insts F)

-- every number of `(to R..)`
unfoldable pub targets : Func → List ℕ
targets F = gather (λ c. c.1.to) F.ctrls

-- all regions' lists of nodes, all blocks' lists of ops, and all places of child regions
unfoldable pub node_list : Func → List ℕ
node_list F = gather (λ r. r.nodes) F.regions

abbrev pub block_ops : Node → List ℕ
block_ops (block is) = is
block_ops (select k v cs ds u) = []
block_ops (loop b c vs u) = []
block_ops (exit i vs) = []

unfoldable pub op_list : Func → List ℕ
op_list F = gather block_ops F.nodes

unfoldable pub child_list : Func → List ℕ
child_list F = gather children_of F.nodes

-- every region that a ctrl line names
unfoldable pub ctrl_regions : Func → List ℕ
ctrl_regions F = gather (λ c. c.0 ∷ (c.1.to ++ keys c.1.vals)) F.ctrls

-- every id of the text that 0 cannot stand for: result and function type, constants, types of inputs and outs, callees
abbrev pub callee_ids : DataInstKind → List ℕ
callee_ids (inst i) = []
callee_ids (call f) = f ∷ []
callee_ids (ext s n) = s ∷ []

unfoldable pub required_ids : Func → List ℕ
unfolding decls
required_ids F =
    F.ret
    ∷ F.type
    ∷ (map (λ c. c.id) F.consts ++ (map (λ d. d.type) F.params ++ (map (λ d. d.type) (decls F) ++ gather (λ o. callee_ids o.kind) F.ops)))

-- every id of the text: those, and the result types of ops
unfoldable pub ids : Func → List ℕ
unfolding required_ids
ids F = required_ids F ++ map (λ o. o.type) F.ops
