-- The parsed text of one function: document 01, 'The text'. Lists of its kinds of lines, each kind numbered from 0, and references by
-- number as in the text. Names are spirt's (lib.rs, cfg.rs), and the fields are the text's own words. Assumes nothing.
use Rattle.std.specs.Prelude.{◌≡◌, List, ℕ}
use Rattle.std.proofs.Math.Decide.{ℕ_discrete}

-- A value V is `(c N)`, `(r R I)`, `(n N I)` or `(d I)`: constant, input I of region R, output I of node N, result of op I.
pub data Value : Type 0 where
  const : ℕ → Value
  region_input : ℕ → ℕ → Value
  node_output : ℕ → ℕ → Value
  data_inst_output : ℕ → Value
  deriving Discrete as Value-discrete

unfoldable pub eq_value : (x y : Value) → Dec (x ≡ y)
eq_value = Value-discrete ℕ_discrete

-- `(kind operandkind word)`: kind 0 is short, 1 a long start, 2 a long continued.
pub record Imm : Type 0 where
  pub kind : ℕ
  pub operand : ℕ
  pub word : ℕ

-- INST is `(inst OP (kind operandkind word)..)`.
pub record Inst : Type 0 where
  pub opcode : ℕ
  pub imms : List Imm

-- X is INST, `(call ID)` or `(ext ID N)`.
pub data DataInstKind : Type 0 where
  inst : Inst → DataInstKind
  call : ℕ → DataInstKind
  ext : ℕ → ℕ → DataInstKind

-- `(op A T X V..)`: T 0 means no result.
pub record Op : Type 0 where
  pub attrs : ℕ
  pub type : ℕ
  pub kind : DataInstKind
  pub operands : List Value

-- K of a selection: `bool` or INST.
pub data SelectionKind : Type 0 where
  bool_cond : SelectionKind
  spv_inst : Inst → SelectionKind

-- `(A T)`, an input or an output: attributes and type id.
pub record Decl : Type 0 where
  pub attrs : ℕ
  pub type : ℕ

-- nodes: `(block I..)`, `(select K V (cases R..) (outs (A T)..) U)`, `(loop R V (init V..) U)`, `(exit INST V..)`.
-- `(select ..)` and `(loop ..)` end in one more number (document 02, W4): U is 0 none, 1 unroll or flatten, 2 don't.
pub data Node : Type 0 where
  block : List ℕ → Node
  select : SelectionKind → Value → List ℕ → List Decl → ℕ → Node
  loop : ℕ → Value → List Value → ℕ → Node
  exit : Inst → List Value → Node

-- `(region (in (A T)..) (nodes N..) (out V..))`.
pub record Region : Type 0 where
  pub ins : List Decl
  pub nodes : List ℕ
  pub outs : List Value

-- K is `unreachable`, `return`, `branch`, `bool`, INST (a selection) or `(exit INST)`.
pub data ControlInstKind : Type 0 where
  unreachable return branch : ControlInstKind
  select_branch : SelectionKind → ControlInstKind
  exit_invocation : Inst → ControlInstKind

-- `A K (ins V..) (to R..) (vals (R V..)..)` of a ctrl line: the way out of a region.
pub record ControlInst : Type 0 where
  pub attrs : ℕ
  pub kind : ControlInstKind
  pub ins : List Value
  pub to : List ℕ
  pub vals : List (ℕ × List Value)

-- `(const ID OP)`: OP 0 if it is no instruction.
pub record Const : Type 0 where
  pub id : ℕ
  pub opcode : ℕ

-- The whole text: `(func A R F C)`, consts, params, then `(imported)` alone or regions, nodes, ops, ctrls. Region 0 is the body; a
-- function without regions is imported. A ctrl line stands under the number of the region that it is for.
pub record Func : Type 0 where
  pub attrs : ℕ
  pub ret : ℕ
  pub type : ℕ
  pub control : ℕ
  pub consts : List Const
  pub params : List Decl
  pub regions : List Region
  pub nodes : List Node
  pub ops : List Op
  pub ctrls : List (ℕ × ControlInst)
