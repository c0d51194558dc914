-- Lists of values and of immediates, each named by the line that it stands in, and the callee of an op. Assumes nothing.
use Rattle.std.specs.Prelude.{◌≡◌, List, [], ◌∷◌, ℕ, zero, suc, ◌<◌, length, Option, None, Some}
use Rattle.opcodes.specs.Table.{opcode_of}
use Rattle.opcodes.specs.declared.InstKind.TheVariants.{Return, ReturnValue}
use Rattle.lifting.specs.Ast.{Func, Imm, Value}
use Rattle.lifting.specs.Parts.{ctrl_insts, node_insts, node_of, node_values, op_insts, op_of, region_of}
use Rattle.lifting.specs.Instructions.{short}
use Rattle.func.specs.Keep.{inst_imms}
use Rattle.func.specs.Decode.{first_value}
use Rattle.func.specs.Tables.{ctrl_line_of}
use Rattle.emit_lists.specs.declared.Values.{Values}
use Rattle.emit_lists.specs.declared.Values.TheVariants.{None as NoValues, Operands, Ins, Node as NodeOf, Test, Outs}
use Rattle.emit_lists.specs.declared.Imms.{Imms}
use Rattle.emit_lists.specs.declared.Imms.TheVariants.{None as NoImms, Node as NodeImms, Op, Ctrl, Short}

module _ (F : Func) where
  -- the values
  abbrev pub values_of : Values → List Value
  values_of NoValues = []
  values_of (Operands o) = (op_of F o).operands
  values_of (Ins c) = (ctrl_line_of F c).1.ins
  values_of (NodeOf n) = node_values (node_of F n)
  values_of (Test n) = first_value (node_values (node_of F n)) ∷ []
  values_of (Outs r) = (region_of F r).outs

  -- their line is one of the text
  abbrev pub ValuesFit : Values → Type 0
  ValuesFit NoValues = Unit {0}
  ValuesFit (Operands o) = o < length F.ops
  ValuesFit (Ins c) = c < length F.ctrls
  ValuesFit (NodeOf n) = n < length F.nodes
  ValuesFit (Test n) = n < length F.nodes
  ValuesFit (Outs r) = r < length F.regions

  -- the immediates
  abbrev pub listed_imms : Imms → List Imm
  listed_imms NoImms = []
  listed_imms (NodeImms n) = inst_imms (node_insts (node_of F n))
  listed_imms (Op o) = inst_imms (op_insts (op_of F o).kind)
  listed_imms (Ctrl c) = inst_imms (ctrl_insts (ctrl_line_of F c).1.kind)
  listed_imms (Short k w) = short k w

  -- their line is one of the text
  abbrev pub ImmsFit : Imms → Type 0
  ImmsFit NoImms = Unit {0}
  ImmsFit (NodeImms n) = n < length F.nodes
  ImmsFit (Op o) = o < length F.ops
  ImmsFit (Ctrl c) = c < length F.ctrls
  ImmsFit (Short k w) = Unit {0}

  -- x names the values vs
  pub record ValuesAre (vs : List Value) (x : Values) : Type 0 where
    pub is : values_of x ≡ vs
    pub fits : ValuesFit x

  -- x names the immediates ms
  pub record ImmsAre (ms : List Imm) (x : Imms) : Type 0 where
    pub is : listed_imms x ≡ ms
    pub fits : ImmsFit x

-- the opcode of a return with n inputs
abbrev pub return_opcode : ℕ → ℕ
return_opcode zero = opcode_of Return
return_opcode (suc n) = opcode_of ReturnValue

-- the ids that an op has before those of its operands
abbrev pub ids_of_callee : Option ℕ → List ℕ
ids_of_callee None = []
ids_of_callee (Some f) = f ∷ []
