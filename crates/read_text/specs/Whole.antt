-- What reading a text answers: the text is of the forms, and the function that it holds is stored and its ctrl lines are judged; or it is not. Assumes
-- nothing.
--     BodyIs, TailIs     from the regions on, from the consts on
--     TextIs             the whole text
use Rattle.std.specs.Prelude.{◌≡◌, Bool, List, ℕ, drop, Option, None, Some}
use Rattle.std.proofs.Math.Option.{none, some}
use Rattle.lifting.specs.Codec.{Whole}
use Rattle.lifting.specs.Ast.{Const, Decl, Func}
use Rattle.lifting.specs.Grammar.{Regions, const_lines, read}
use Rattle.func.specs.Store.{folds}
use Rattle.func.specs.Whole.{with_ops}
use Rattle.func.specs.Keep.{keep_const, keep_param, keep_region, keep_node, keep_op, keep_func}
use Rattle.read_ctrls.specs.declared.CtrlsFit.{CtrlsFit}
use Rattle.read_ctrls.specs.Judge.{State, keep_judged, start}

-- regions, nodes and ops stored, and ctrl lines judged: from the words w and the marks m
abbrev pub keep_body : Regions → List ℕ → List ℕ
keep_body x w = folds keep_op x.1.1.0 (folds keep_node x.1.0 (folds keep_region x.0 w))

abbrev pub judged_body : Regions → List ℕ → List ℕ → State
judged_body x w m = folds keep_judged x.1.1.1.0 (start (keep_body x w) m)

-- what a state says
pub record Says (s : State) (opcodes edges : Bool) (v : List ℕ) : Type 0 where
  pub func : s.func ≡ v
  pub opcodes_are : s.opcodes ≡ opcodes
  pub edges_are : s.edges ≡ edges

-- W reads the rest of the text
pub record Body (W : Whole Regions) (opcodes edges : Bool) (text : List ℕ) (from : ℕ) (w m v : List ℕ) : Type 0 where
  pub body : Regions
  pub read : W.read (drop from text) ≡ some (body, tt)
  pub says : Says (judged_body body w m) opcodes edges v

abbrev pub BodyIs : Whole Regions → Option CtrlsFit → List ℕ → ℕ → List ℕ → List ℕ → List ℕ → Type 0
BodyIs W (Some x) text from w m v = Body W x.opcodes x.edges text from w m v
BodyIs W None text from w m v = W.read (drop from text) ≡ none

-- consts and params before it
pub record Tail (opcodes edges : Bool) (text : List ℕ) (from : ℕ) (w m v : List ℕ) : Type 0 where
  pub consts : List Const
  pub params : List Decl
  pub body : Regions
  pub read : const_lines.read (drop from text) ≡ some ((consts, (params, body)), tt)
  pub says : Says (judged_body body (folds keep_param params (folds keep_const consts w)) m) opcodes edges v

abbrev pub TailIs : Option CtrlsFit → List ℕ → ℕ → List ℕ → List ℕ → List ℕ → Type 0
TailIs (Some x) text from w m v = Tail x.opcodes x.edges text from w m v
TailIs None text from w m v = const_lines.read (drop from text) ≡ none

-- the whole text: what it holds is stored, and its ctrl lines are judged
pub record Text (opcodes edges : Bool) (text w m v : List ℕ) : Type 0 where
  pub F : Func
  pub read_is : read text ≡ some F
  pub func : keep_func F w ≡ v
  pub opcodes_are : (folds keep_judged F.ctrls (start (with_ops F w) m)).opcodes ≡ opcodes
  pub edges_are : (folds keep_judged F.ctrls (start (with_ops F w) m)).edges ≡ edges

abbrev pub TextIs : Option CtrlsFit → List ℕ → List ℕ → List ℕ → List ℕ → Type 0
TextIs (Some x) text w m v = Text x.opcodes x.edges text w m v
TextIs None text w m v = read text ≡ none
