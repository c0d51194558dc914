-- Document 01, 'The instruction list': the instructions, and the phi pairs of 'Blocks and their order' (`LazyInst::to_inst_and_attrs`).
-- Assumes nothing.
use mathlib.Core.List.{List, [], ◌∷◌, ◌++◌, map}
use Rattle.std.specs.Prelude.{ℕ, zero, suc, get_or}
use Rattle.opcodes.specs.Table.{opcode_of}
use Rattle.opcodes.specs.declared.InstKind.TheVariants.{ExtInst, Function, FunctionParameter, FunctionEnd, FunctionCall, Phi, LoopMerge, SelectionMerge, Label, Branch, BranchConditional, Return, ReturnValue, Unreachable}
use Rattle.lifting.specs.Ast.{Value, const, region_input, data_inst_output, Imm, DataInstKind, inst, call, ext, bool_cond, spv_inst, Decl, ControlInstKind, unreachable, return, branch, select_branch, exit_invocation, Func}
use Rattle.lifting.specs.Parts.{op_of, callee_ids}
use Rattle.lifting.specs.Points.{CfgPoint, Merge, no_merge, selection_merge, loop_merge, Terminator, BlockLifting, Table, edge_of}
use Rattle.lifting.specs.Absorb.{count_in, kept}
use Rattle.lifting.specs.Walk.{walk_of}
use Rattle.lifting.specs.Ids.{the_function, new_id, id_of, label_of}

-- Each instruction is words: opcode, attributes (0 is the default set), result type id, result id (0 for none), immediates, ids.
pub record Instruction : Type 0 where
  pub opcode : ℕ
  pub attrs : ℕ
  pub type : ℕ
  pub result : ℕ
  pub imms : List Imm
  pub ids : List ℕ

-- one short immediate; the operand kinds that lifting itself writes
abbrev pub short : ℕ → ℕ → List Imm
short k w = record { kind = 0; operand = k; word = w } ∷ []

abbrev pub function_control : ℕ
function_control = 1

abbrev pub selection_control : ℕ
selection_control = 2

abbrev pub loop_control : ℕ
loop_control = 3

abbrev pub literal_ext_inst_integer : ℕ
literal_ext_inst_integer = 4

-- an instruction that has neither attributes nor a result
abbrev pub bare : ℕ → List Imm → List ℕ → Instruction
bare op is xs = record { opcode = op; attrs = 0; type = 0; result = 0; imms = is; ids = xs }

-- of an op: opcode (57 for a call, 12 for an ext) and immediates (0 4 N for an ext)
abbrev pub op_opcode : DataInstKind → ℕ
op_opcode (inst i) = i.opcode
op_opcode (call f) = opcode_of FunctionCall
op_opcode (ext s n) = opcode_of ExtInst

abbrev pub op_imms : DataInstKind → List Imm
op_imms (inst i) = i.imms
op_imms (call f) = []
op_imms (ext s n) = short literal_ext_inst_integer n

-- of a way out. ReturnValue stands exactly where a return has an input.
abbrev pub term_opcode : ControlInstKind → List Value → ℕ
term_opcode unreachable vs = opcode_of Unreachable
term_opcode return [] = opcode_of Return
term_opcode return (v ∷ vs) = opcode_of ReturnValue
term_opcode branch vs = opcode_of Branch
term_opcode (select_branch bool_cond) vs = opcode_of BranchConditional
term_opcode (select_branch (spv_inst i)) vs = i.opcode
term_opcode (exit_invocation i) vs = i.opcode

abbrev pub term_imms : ControlInstKind → List Imm
term_imms unreachable = []
term_imms return = []
term_imms branch = []
term_imms (select_branch bool_cond) = []
term_imms (select_branch (spv_inst i)) = i.imms
term_imms (exit_invocation i) = i.imms

abbrev pub if_used : ℕ → List ℕ → List ℕ
if_used zero l = []
if_used (suc n) l = l

module _ (F : Func) (first : ℕ) (T K : Table) where
  -- A phi has one pair, value and label, for each kept block with an edge to it, holding that edge's value; phi pairs follow
  -- kept-block order. This is phi j of the block at q.
  abbrev pub pair_from : CfgPoint × BlockLifting → CfgPoint → ℕ → List ℕ
  pair_from x q j =
      if_used (count_in q x.1.term.targets) (id_of F first T K (get_or (edge_of K x.1.term q) j (const 0)) ∷ label_of F first T K x.0 ∷ [])

  unfoldable pub pairs : Table → CfgPoint → ℕ → List ℕ
  unfolding id_of label_of
  pairs [] q j = []
  pairs (x ∷ L) q j = pair_from x q j ++ pairs L q j

  unfoldable pub phi_inst : CfgPoint → Value → Decl → ℕ → Instruction
  unfolding id_of pairs
  phi_inst q v d j = record { opcode = opcode_of Phi; attrs = d.attrs; type = d.type; result = id_of F first T K v; imms = []; ids = pairs K q j }

  unfoldable pub phi_insts : CfgPoint → List Value → List Decl → ℕ → List Instruction
  unfolding phi_inst
  phi_insts q [] ds j = []
  phi_insts q (k ∷ ks) ds j = phi_inst q k (get_or ds j (record { attrs = 0; type = 0 })) j ∷ phi_insts q ks ds (suc j)

  abbrev pub result_id : ℕ → ℕ → ℕ
  result_id zero i = 0
  result_id (suc t) i = id_of F first T K (data_inst_output i)

  unfoldable pub op_inst : ℕ → Instruction
  unfolding id_of
  op_inst i = record {
    opcode = op_opcode (op_of F i).kind;
    attrs = (op_of F i).attrs;
    type = (op_of F i).type;
    result = result_id (op_of F i).type i;
    imms = op_imms (op_of F i).kind;
    ids = callee_ids (op_of F i).kind ++ map (id_of F first T K) (op_of F i).operands;
  }

  -- Merges carry one short immediate: the control number (document 02, W4).
  unfoldable pub merge_insts : Merge → List Instruction
  unfolding label_of
  merge_insts no_merge = []
  merge_insts (selection_merge a u) = bare (opcode_of SelectionMerge) (short selection_control u) (label_of F first T K a ∷ []) ∷ []
  merge_insts (loop_merge a b u) = bare (opcode_of LoopMerge) (short loop_control u) (label_of F first T K a ∷ label_of F first T K b ∷ []) ∷ []

  unfoldable pub term_inst : Terminator → Instruction
  unfolding id_of label_of
  term_inst t = record {
    opcode = term_opcode t.kind t.ins;
    attrs = t.attrs;
    type = 0;
    result = 0;
    imms = term_imms t.kind;
    ids = map (id_of F first T K) t.ins ++ map (label_of F first T K) t.targets;
  }

  unfoldable pub label_inst : CfgPoint → Instruction
  unfolding label_of
  label_inst q = record { opcode = opcode_of Label; attrs = 0; type = 0; result = label_of F first T K q; imms = []; ids = [] }

  -- per block its label, phis, instructions, merge, terminator
  unfoldable pub body_insts : CfgPoint → BlockLifting → List Instruction
  unfolding phi_insts op_inst merge_insts term_inst
  body_insts q b = phi_insts q b.keys b.decls 0 ++ (map op_inst b.ops ++ (merge_insts b.term.merge ++ (term_inst b.term ∷ [])))

  unfoldable pub block_insts : Table → List Instruction
  unfolding label_inst body_insts
  block_insts [] = []
  block_insts (x ∷ L) = label_inst x.0 ∷ (body_insts x.0 x.1 ++ block_insts L)

  unfoldable pub param_inst : Decl → ℕ → Instruction
  unfolding id_of
  param_inst d i = record { opcode = opcode_of FunctionParameter; attrs = d.attrs; type = d.type; result = id_of F first T K (region_input 0 i); imms = []; ids = [] }

  unfoldable pub param_insts : List Decl → ℕ → List Instruction
  unfolding param_inst
  param_insts [] i = []
  param_insts (d ∷ ds) i = param_inst d i ∷ param_insts ds (suc i)

  unfoldable pub function_inst : Instruction
  unfolding new_id
  function_inst = record {
    opcode = opcode_of Function;
    attrs = F.attrs;
    type = F.ret;
    result = new_id F first T K the_function;
    imms = short function_control F.control;
    ids = F.type ∷ [];
  }

  abbrev pub end_inst : Instruction
  end_inst = bare (opcode_of FunctionEnd) [] []

  -- Order: function, parameters; the blocks; function end.
  unfoldable pub instructions : List Instruction
  unfolding function_inst param_insts block_insts
  instructions = function_inst ∷ (param_insts F.params 0 ++ (block_insts K ++ (end_inst ∷ [])))

-- the list of a text
unfoldable pub list_of : Func → ℕ → List Instruction
unfolding instructions walk_of kept
list_of F first = instructions F first (walk_of F) (kept (walk_of F))
