-- The opcode and the immediates of each kind of op, ctrl line and node. Assumes nothing.
use Rattle.std.specs.Prelude.{◌≡◌, refl, List, [], ◌∷◌, ℕ, zero, suc, length}
use Rattle.std.proofs.Common.{append-nil}
use Rattle.opcodes.specs.Table.{opcode_of}
use Rattle.opcodes.specs.declared.InstKind.TheVariants.{Branch, BranchConditional, ExtInst, FunctionCall, ReturnValue, Unreachable}
use Rattle.lifting.specs.Ast.{ControlInstKind, DataInstKind, Func, Imm, Node, Value, block, bool_cond, branch, call, exit, exit_invocation, ext, inst, loop, return, select, select_branch, spv_inst, unreachable}
use Rattle.lifting.specs.Parts.{callee_ids, ctrl_insts, node_insts, node_values, op_insts}
use Rattle.lifting.specs.Walk.{in_block}
use Rattle.lifting.specs.Instructions.{literal_ext_inst_integer, op_imms, op_opcode, short, term_imms, term_opcode}
use Rattle.func.specs.declared.CtrlKind.{CtrlKind}
use Rattle.func.specs.declared.CtrlKind.TheVariants.{Unreachable as UnreachableCtrl, Return as ReturnCtrl, Branch as BranchCtrl, Bool as BoolCtrl, Inst as InstCtrl, Exit as ExitCtrl}
use Rattle.func.specs.declared.NodeKind.{NodeKind}
use Rattle.func.specs.declared.NodeKind.TheVariants.{Block, SelectBool, SelectInst, Loop, Exit}
use Rattle.func.specs.declared.OpKind.{OpKind}
use Rattle.func.specs.declared.OpKind.TheVariants.{Inst as InstOp, Call, Ext}
use Rattle.func.specs.Keep.{inst_imms, inst_opcode}
use Rattle.func.specs.Kinds.{ctrl_kind, node_kind, kind_of_op}
use Rattle.emit_lists.specs.Named.{return_opcode}
use Rattle.emit_lists.specs.Laws.{by_kind}

-- ---- ops

abbrev kind_opcode : DataInstKind → OpKind → ℕ
kind_opcode d (InstOp a) = a
kind_opcode d (Call f) = opcode_of FunctionCall
kind_opcode d (Ext s n) = opcode_of ExtInst

kind_opcode_law : (d : DataInstKind) → kind_opcode d (kind_of_op d) ≡ op_opcode d
kind_opcode_law (inst i) = refl
kind_opcode_law (call f) = refl
kind_opcode_law (ext s n) = refl

abbrev kind_imms : DataInstKind → OpKind → List Imm
kind_imms d (InstOp a) = inst_imms (op_insts d)
kind_imms d (Call f) = []
kind_imms d (Ext s n) = short literal_ext_inst_integer n

kind_imms_law : (d : DataInstKind) → kind_imms d (kind_of_op d) ≡ op_imms d
kind_imms_law (inst i) = append-nil i.imms
kind_imms_law (call f) = refl
kind_imms_law (ext s n) = refl

abbrev kind_callee : DataInstKind → OpKind → List ℕ
kind_callee d (InstOp a) = []
kind_callee d (Call f) = f ∷ []
kind_callee d (Ext s n) = s ∷ []

kind_callee_law : (d : DataInstKind) → kind_callee d (kind_of_op d) ≡ callee_ids d
kind_callee_law (inst i) = refl
kind_callee_law (call f) = refl
kind_callee_law (ext s n) = refl

module _ (d : DataInstKind) {k x : OpKind} (e : k ≡ kind_of_op d) (q : k ≡ x) where
  pub op_opcode_is : kind_opcode d x ≡ op_opcode d
  op_opcode_is = by_kind kind_of_op kind_opcode op_opcode kind_opcode_law d e q

  pub op_imms_are : kind_imms d x ≡ op_imms d
  op_imms_are = by_kind kind_of_op kind_imms op_imms kind_imms_law d e q

  pub op_callee_is : kind_callee d x ≡ callee_ids d
  op_callee_is = by_kind kind_of_op kind_callee callee_ids kind_callee_law d e q

-- ---- returns

pub return_some : (n : ℕ) → ¬ (n ≡ 0) → opcode_of ReturnValue ≡ return_opcode n
return_some zero h = absurd (h refl)
return_some (suc n) h = refl

pub return_is : (vs : List Value) → return_opcode (length vs) ≡ term_opcode return vs
return_is [] = refl
return_is (v ∷ vs) = refl

-- ---- ctrl lines

module _ (vs : List Value) where
  abbrev line_opcode : ControlInstKind → CtrlKind → ℕ
  line_opcode k UnreachableCtrl = opcode_of Unreachable
  line_opcode k ReturnCtrl = return_opcode (length vs)
  line_opcode k BranchCtrl = opcode_of Branch
  line_opcode k BoolCtrl = opcode_of BranchConditional
  line_opcode k InstCtrl = inst_opcode (ctrl_insts k)
  line_opcode k ExitCtrl = inst_opcode (ctrl_insts k)

  line_opcode_law : (k : ControlInstKind) → line_opcode k (ctrl_kind k) ≡ term_opcode k vs
  line_opcode_law unreachable = refl
  line_opcode_law return = return_is vs
  line_opcode_law branch = refl
  line_opcode_law (select_branch bool_cond) = refl
  line_opcode_law (select_branch (spv_inst i)) = refl
  line_opcode_law (exit_invocation i) = refl

  pub line_opcode_is : (d : ControlInstKind) {k x : CtrlKind} → k ≡ ctrl_kind d → k ≡ x → line_opcode d x ≡ term_opcode d vs
  line_opcode_is = by_kind ctrl_kind line_opcode (λ d. term_opcode d vs) line_opcode_law

pub line_imms : (k : ControlInstKind) → inst_imms (ctrl_insts k) ≡ term_imms k
line_imms unreachable = refl
line_imms return = refl
line_imms branch = refl
line_imms (select_branch bool_cond) = refl
line_imms (select_branch (spv_inst i)) = append-nil i.imms
line_imms (exit_invocation i) = append-nil i.imms

-- ---- the way out of a node's entry

module _ (F : Func) (n : ℕ) where
  abbrev node_opcode : Node → NodeKind → ℕ
  node_opcode d Block = opcode_of Branch
  node_opcode d SelectBool = opcode_of BranchConditional
  node_opcode d SelectInst = inst_opcode (node_insts d)
  node_opcode d Loop = opcode_of Branch
  node_opcode d Exit = inst_opcode (node_insts d)

  node_opcode_law : (d : Node) → node_opcode d (node_kind d) ≡ term_opcode (in_block F d n).term.kind (node_values d)
  node_opcode_law (block is) = refl
  node_opcode_law (select bool_cond v cs ds u) = refl
  node_opcode_law (select (spv_inst i) v cs ds u) = refl
  node_opcode_law (loop b c is u) = refl
  node_opcode_law (exit i vs) = refl

  pub node_term_opcode : (d : Node) {k x : NodeKind} → k ≡ node_kind d → k ≡ x
      → node_opcode d x ≡ term_opcode (in_block F d n).term.kind (node_values d)
  node_term_opcode = by_kind node_kind node_opcode (λ d. term_opcode (in_block F d n).term.kind (node_values d)) node_opcode_law

  pub node_term_imms : (d : Node) → inst_imms (node_insts d) ≡ term_imms (in_block F d n).term.kind
  node_term_imms (block is) = refl
  node_term_imms (select bool_cond v cs ds u) = refl
  node_term_imms (select (spv_inst i) v cs ds u) = append-nil i.imms
  node_term_imms (loop b c is u) = refl
  node_term_imms (exit i vs) = append-nil i.imms
