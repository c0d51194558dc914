-- The code's enums and structs as lifting's parts, and their numbers in a row. Assumes nothing.
--     node_kind_law, op_kind_law, ctrl_kind_law            a kind from its line's number
--     node_number_law, op_number_law, ctrl_number_law      a line's number from its kind
use Rattle.std.specs.Prelude.{◌≡◌, refl, ℕ, zero, suc}
use Rattle.lifting.specs.Ast.{Value, const, region_input, node_output, data_inst_output, Imm, DataInstKind, inst, call, ext, bool_cond, spv_inst, Decl, Node, block, select, loop, exit, ControlInstKind, unreachable, return, branch, select_branch, exit_invocation, Const}
use Rattle.func.specs.declared.Val.{Val}
use Rattle.func.specs.declared.Val.TheVariants.{Const as ConstVal, Input, Output, Result}
use Rattle.func.specs.declared.NodeKind.{NodeKind}
use Rattle.func.specs.declared.NodeKind.TheVariants.{Block, SelectBool, SelectInst, Loop, Exit}
use Rattle.func.specs.declared.OpKind.{OpKind}
use Rattle.func.specs.declared.OpKind.TheVariants.{Inst as InstOp, Call, Ext}
use Rattle.func.specs.declared.CtrlKind.{CtrlKind}
use Rattle.func.specs.declared.CtrlKind.TheVariants.{Unreachable, Return, Branch, Bool, Inst as InstCtrl, Exit as ExitCtrl}
use Rattle.func.specs.declared.Slot.{Slot}
use Rattle.func.specs.declared.Immediate.{Immediate}
use Rattle.func.specs.Decode.{value_from}
use Rattle.func.specs.Keep.{node_number, op_number, op_first, op_second, ctrl_number}

-- parts from their numbers
abbrev pub const_from : ℕ → ℕ → Const
const_from i o = record { id = i; opcode = o }

abbrev pub decl_from : ℕ → ℕ → Decl
decl_from a t = record { attrs = a; type = t }

abbrev pub imm_from : ℕ → ℕ → ℕ → Imm
imm_from k o w = record { kind = k; operand = o; word = w }

abbrev pub as_value : Val → Value
as_value (ConstVal n) = const n
as_value (Input r i) = region_input r i
as_value (Output n i) = node_output n i
as_value (Result i) = data_inst_output i

abbrev pub decl_of_slot : Slot → Decl
decl_of_slot s = record { attrs = s.attrs; type = s.ty }

abbrev pub as_imm : Immediate → Imm
as_imm i = record { kind = i.kind; operand = i.operand; word = i.word }

-- a node's kind
abbrev pub node_kind : Node → NodeKind
node_kind (block is) = Block
node_kind (select bool_cond v cs ds u) = SelectBool
node_kind (select (spv_inst i) v cs ds u) = SelectInst
node_kind (loop b c vs u) = Loop
node_kind (exit i vs) = Exit

abbrev pub node_kind_number : NodeKind → ℕ
node_kind_number Block = 0
node_kind_number SelectBool = 1
node_kind_number SelectInst = 2
node_kind_number Loop = 3
node_kind_number Exit = 4

abbrev pub node_kind_from : ℕ → NodeKind
node_kind_from zero = Block
node_kind_from (suc zero) = SelectBool
node_kind_from (suc (suc zero)) = SelectInst
node_kind_from (suc (suc (suc zero))) = Loop
node_kind_from (suc (suc (suc (suc k)))) = Exit

pub node_kind_law : (n : Node) → node_kind_from (node_number n) ≡ node_kind n
node_kind_law (block is) = refl
node_kind_law (select bool_cond v cs ds u) = refl
node_kind_law (select (spv_inst i) v cs ds u) = refl
node_kind_law (loop b c vs u) = refl
node_kind_law (exit i vs) = refl

pub node_number_law : (n : Node) → node_kind_number (node_kind n) ≡ node_number n
node_number_law (block is) = refl
node_number_law (select bool_cond v cs ds u) = refl
node_number_law (select (spv_inst i) v cs ds u) = refl
node_number_law (loop b c vs u) = refl
node_number_law (exit i vs) = refl

-- an op's kind
abbrev pub kind_of_op : DataInstKind → OpKind
kind_of_op (inst i) = InstOp i.opcode
kind_of_op (call f) = Call f
kind_of_op (ext s n) = Ext s n

abbrev pub op_kind_number : OpKind → ℕ
op_kind_number (InstOp o) = 0
op_kind_number (Call f) = 1
op_kind_number (Ext s n) = 2

abbrev pub op_kind_first : OpKind → ℕ
op_kind_first (InstOp o) = o
op_kind_first (Call f) = f
op_kind_first (Ext s n) = s

abbrev pub op_kind_second : OpKind → ℕ
op_kind_second (InstOp o) = 0
op_kind_second (Call f) = 0
op_kind_second (Ext s n) = n

abbrev pub op_kind_from : ℕ → ℕ → ℕ → OpKind
op_kind_from zero a b = InstOp a
op_kind_from (suc zero) a b = Call a
op_kind_from (suc (suc k)) a b = Ext a b

pub op_kind_law : (k : DataInstKind) → op_kind_from (op_number k) (op_first k) (op_second k) ≡ kind_of_op k
op_kind_law (inst i) = refl
op_kind_law (call f) = refl
op_kind_law (ext s n) = refl

pub op_number_law : (k : DataInstKind) → op_kind_number (kind_of_op k) ≡ op_number k
op_number_law (inst i) = refl
op_number_law (call f) = refl
op_number_law (ext s n) = refl

pub op_first_law : (k : DataInstKind) → op_kind_first (kind_of_op k) ≡ op_first k
op_first_law (inst i) = refl
op_first_law (call f) = refl
op_first_law (ext s n) = refl

pub op_second_law : (k : DataInstKind) → op_kind_second (kind_of_op k) ≡ op_second k
op_second_law (inst i) = refl
op_second_law (call f) = refl
op_second_law (ext s n) = refl

-- a ctrl line's kind
abbrev pub ctrl_kind : ControlInstKind → CtrlKind
ctrl_kind unreachable = Unreachable
ctrl_kind return = Return
ctrl_kind branch = Branch
ctrl_kind (select_branch bool_cond) = Bool
ctrl_kind (select_branch (spv_inst i)) = InstCtrl
ctrl_kind (exit_invocation i) = ExitCtrl

abbrev pub ctrl_kind_number : CtrlKind → ℕ
ctrl_kind_number Unreachable = 0
ctrl_kind_number Return = 1
ctrl_kind_number Branch = 2
ctrl_kind_number Bool = 3
ctrl_kind_number InstCtrl = 4
ctrl_kind_number ExitCtrl = 5

abbrev pub ctrl_kind_from : ℕ → CtrlKind
ctrl_kind_from zero = Unreachable
ctrl_kind_from (suc zero) = Return
ctrl_kind_from (suc (suc zero)) = Branch
ctrl_kind_from (suc (suc (suc zero))) = Bool
ctrl_kind_from (suc (suc (suc (suc zero)))) = InstCtrl
ctrl_kind_from (suc (suc (suc (suc (suc k))))) = ExitCtrl

pub ctrl_kind_law : (k : ControlInstKind) → ctrl_kind_from (ctrl_number k) ≡ ctrl_kind k
ctrl_kind_law unreachable = refl
ctrl_kind_law return = refl
ctrl_kind_law branch = refl
ctrl_kind_law (select_branch bool_cond) = refl
ctrl_kind_law (select_branch (spv_inst i)) = refl
ctrl_kind_law (exit_invocation i) = refl

pub ctrl_number_law : (k : ControlInstKind) → ctrl_kind_number (ctrl_kind k) ≡ ctrl_number k
ctrl_number_law unreachable = refl
ctrl_number_law return = refl
ctrl_number_law branch = refl
ctrl_number_law (select_branch bool_cond) = refl
ctrl_number_law (select_branch (spv_inst i)) = refl
ctrl_number_law (exit_invocation i) = refl

-- the last of a kind's numbers is every number that is none of the others
pub value_rest : (k a b : ℕ) → (k ≡ 0 → ⊥) → (k ≡ 1 → ⊥) → (k ≡ 2 → ⊥) → data_inst_output a ≡ value_from k a b
value_rest zero a b p q r = absurd (p refl)
value_rest (suc zero) a b p q r = absurd (q refl)
value_rest (suc (suc zero)) a b p q r = absurd (r refl)
value_rest (suc (suc (suc k))) a b p q r = refl

pub node_rest : (k : ℕ) → (k ≡ 0 → ⊥) → (k ≡ 1 → ⊥) → (k ≡ 2 → ⊥) → (k ≡ 3 → ⊥) → Exit ≡ node_kind_from k
node_rest zero p q r s = absurd (p refl)
node_rest (suc zero) p q r s = absurd (q refl)
node_rest (suc (suc zero)) p q r s = absurd (r refl)
node_rest (suc (suc (suc zero))) p q r s = absurd (s refl)
node_rest (suc (suc (suc (suc k)))) p q r s = refl

pub op_rest_law : (k a b : ℕ) → (k ≡ 0 → ⊥) → (k ≡ 1 → ⊥) → Ext a b ≡ op_kind_from k a b
op_rest_law zero a b p q = absurd (p refl)
op_rest_law (suc zero) a b p q = absurd (q refl)
op_rest_law (suc (suc k)) a b p q = refl

pub ctrl_rest_law : (k : ℕ) → (k ≡ 0 → ⊥) → (k ≡ 1 → ⊥) → (k ≡ 2 → ⊥) → (k ≡ 3 → ⊥) → (k ≡ 4 → ⊥) → ExitCtrl ≡ ctrl_kind_from k
ctrl_rest_law zero p q r s u = absurd (p refl)
ctrl_rest_law (suc zero) p q r s u = absurd (q refl)
ctrl_rest_law (suc (suc zero)) p q r s u = absurd (r refl)
ctrl_rest_law (suc (suc (suc zero))) p q r s u = absurd (s refl)
ctrl_rest_law (suc (suc (suc (suc zero)))) p q r s u = absurd (u refl)
ctrl_rest_law (suc (suc (suc (suc (suc k))))) p q r s u = refl
