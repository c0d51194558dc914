-- The text of a function, form by form as document 01 writes them, and at the end its printer and its reader, which are inverse to each
-- other. Assumes nothing.
--     print, read, Fits                              the printer, the reader, and which functions have a text
--     print_of_read, read_of_print, read_exactly     each is the other's inverse
-- To believe: what each form prints, up to `text`, and `Fits`. Of the two functions that `same` and `view_as` take, the second (`of..`) takes a
-- value apart to be printed. `read` is held to these by `read_exactly`; the first functions (`to..`) and the laws on the way (`-to-of`,
-- `-of-to`, `-apart`) are there to prove that.
use Rattle.std.specs.Prelude.{◌≡◌, refl, ◌⊎◌, ℕ}
use Rattle.std.proofs.Common.{inl, inr}
use mathlib.Core.List.{List, [], ◌∷◌, ◌++◌, append_assoc}
use Rattle.std.proofs.Math.Option.{Option, none}
use Prim.Native.String.{String}
use Rattle.lifting.specs.Bytes.{bytes}
use Rattle.lifting.specs.Digits.{number, number_from, digits, digits_to}
use Rattle.lifting.specs.Codec.{Codec, Whole, Led, Every, strip, lit, num, seq, view_as, same, alt, many, read_many, list}
use Rattle.lifting.specs.Whole.{end, skip, read_whole}
use Rattle.lifting.specs.Ast.{Value, const, region_input, node_output, data_inst_output, Imm, Inst, DataInstKind, inst, call, ext, Op, SelectionKind, bool_cond, spv_inst, Decl}
use Rattle.lifting.specs.Ast.{Node, block, select, loop, exit, Region, ControlInstKind, unreachable, return, branch, select_branch, exit_invocation, ControlInst, Const, Func}

-- a literal before, and a literal after
unfoldable pub before : {A : Type 0} (s : List ℕ) → Led s → Codec A → Codec A
before s h C = same (seq (lit s h) C) (λ x. x.1) (λ a. (tt, a)) (λ a. refl) (λ x. refl)

unfoldable pub after_word : {A : Type 0} → Codec A → (s : List ℕ) → Led s → Codec A
after_word C s h = same (seq C (lit s h)) (λ x. x.0) (λ a. (a, tt)) (λ a. refl) (λ x. refl)

-- 'One form a line, single spaces, each line ended by byte 10': the words of a line, which bring the space before them
unfoldable pub spaced : {A : Type 0} → Codec A → Codec A
spaced C = before (bytes " ") refl C

unfoldable pub keyword : String → Codec (Unit {0})
keyword s = lit (bytes " " ++ bytes s) refl

-- ` (s ..`, a form in a line: C brings the closing bracket
unfoldable pub sub : {A : Type 0} → String → Codec A → Codec A
sub s C = before (bytes " (" ++ bytes s) refl C

unfoldable pub closed : {A : Type 0} → Codec A → Codec A
closed C = after_word C (bytes ")") refl

-- `(s ..` and byte 10, a line
unfoldable pub line : {A : Type 0} → String → Codec A → Codec A
line s C = before (bytes "(" ++ bytes s) refl (after_word C (bytes "\n") refl)

-- a number after a space, and one after an opening bracket
unfoldable pub field : Codec ℕ
field = num 32 refl

unfoldable pub open1 : Codec ℕ
open1 = num 40 refl

-- `N)` and `N N)`: what one number or two make of a form
unfoldable pub one_codec : Codec ℕ
one_codec = closed field

unfoldable pub two : Codec (ℕ × ℕ)
two = closed (seq field field)

-- `N..)`: numbers up to the closing bracket
unfoldable pub numbers_codec : Codec (List ℕ)
unfolding field num strip
numbers_codec = list field (bytes ")") refl (λ r. refl)

-- `(A T)`
unfoldable pub decl_codec : Codec (ℕ × ℕ) → Codec Decl
decl_codec C = same C (λ x. record { attrs = x.0; type = x.1 }) (λ d. (d.attrs, d.type)) (λ d. refl) (λ x. refl)

unfoldable pub decl : Codec Decl
decl = decl_codec (spaced (closed (seq open1 field)))

-- `(A T)..)`
unfoldable pub decls_codec : Codec (List Decl)
unfolding decl decl_codec spaced before lit seq same view_as strip
decls_codec = list decl (bytes ")") refl (λ r. refl)

-- 'A value V is `(c N)`, `(r R I)`, `(n N I)` or `(d I)`'
abbrev pub ValueForm : Type 0
ValueForm = ((ℕ ⊎ (ℕ × ℕ)) ⊎ (ℕ × ℕ)) ⊎ ℕ

abbrev pub to_value : ValueForm → Value
to_value (inl (inl (inl n))) = const n
to_value (inl (inl (inr x))) = region_input x.0 x.1
to_value (inl (inr x)) = node_output x.0 x.1
to_value (inr i) = data_inst_output i

abbrev pub of_value : Value → ValueForm
of_value (const n) = inl (inl (inl n))
of_value (region_input r i) = inl (inl (inr (r, i)))
of_value (node_output n i) = inl (inr (n, i))
of_value (data_inst_output i) = inr i

pub value_to_of : (v : Value) → to_value (of_value v) ≡ v
value_to_of (const n) = refl
value_to_of (region_input r i) = refl
value_to_of (node_output n i) = refl
value_to_of (data_inst_output i) = refl

pub value_of_to : (x : ValueForm) → of_value (to_value x) ≡ x
value_of_to (inl (inl (inl n))) = refl
value_of_to (inl (inl (inr x))) = refl
value_of_to (inl (inr x)) = refl
value_of_to (inr i) = refl

unfoldable pub value_form : Codec ValueForm
unfolding sub before lit seq same view_as alt strip
value_form =
    alt (alt (alt (sub "c" one_codec) (sub "r" two) (λ b r. refl)) (sub "n" two) (λ b r. refl)) (sub "d" one_codec) (λ b r. refl)

unfoldable pub value_codec : Codec Value
value_codec = same value_form to_value of_value value_to_of value_of_to

-- `V..)`
unfoldable pub values_codec : Codec (List Value)
unfolding value_codec value_form sub before lit seq same view_as alt strip
values_codec = list value_codec (bytes ")") refl (λ r. refl)

-- 'INST is `(inst OP (kind operandkind word)..)`'
unfoldable pub imm_codec : Codec Imm
imm_codec =
    same (spaced (closed (seq open1 (seq field field)))) (λ x. record { kind = x.0; operand = x.1.0; word = x.1.1 })
    (λ i. (i.kind, (i.operand, i.word))) (λ i. refl) (λ x. refl)

unfoldable pub imms_codec : Codec (List Imm)
unfolding imm_codec spaced before lit seq same view_as strip
imms_codec = list imm_codec (bytes ")") refl (λ r. refl)

unfoldable pub inst_form : Codec Inst
inst_form =
    same (sub "inst" (seq field imms_codec)) (λ x. record { opcode = x.0; imms = x.1 }) (λ i. (i.opcode, i.imms)) (λ i. refl) (λ x. refl)

-- 'X is INST, `(call ID)` or `(ext ID N)`'
abbrev pub OpKindForm : Type 0
OpKindForm = (Inst ⊎ ℕ) ⊎ (ℕ × ℕ)

abbrev pub to_op_kind : OpKindForm → DataInstKind
to_op_kind (inl (inl i)) = inst i
to_op_kind (inl (inr n)) = call n
to_op_kind (inr x) = ext x.0 x.1

abbrev pub of_op_kind : DataInstKind → OpKindForm
of_op_kind (inst i) = inl (inl i)
of_op_kind (call n) = inl (inr n)
of_op_kind (ext n m) = inr (n, m)

pub op_kind_to_of : (k : DataInstKind) → to_op_kind (of_op_kind k) ≡ k
op_kind_to_of (inst i) = refl
op_kind_to_of (call n) = refl
op_kind_to_of (ext n m) = refl

pub op_kind_of_to : (x : OpKindForm) → of_op_kind (to_op_kind x) ≡ x
op_kind_of_to (inl (inl i)) = refl
op_kind_of_to (inl (inr n)) = refl
op_kind_of_to (inr x) = refl

unfoldable pub op_kind_form : Codec OpKindForm
unfolding inst_form sub before lit seq same view_as alt strip
op_kind_form = alt (alt inst_form (sub "call" one_codec) (λ b r. refl)) (sub "ext" two) (λ b r. refl)

unfoldable pub op_kind_codec : Codec DataInstKind
op_kind_codec = same op_kind_form to_op_kind of_op_kind op_kind_to_of op_kind_of_to

-- K of a select, 'with K `bool` or INST'
abbrev pub SelKindForm : Type 0
SelKindForm = Unit {0} ⊎ Inst

abbrev pub to_sel_kind : SelKindForm → SelectionKind
to_sel_kind (inl _) = bool_cond
to_sel_kind (inr i) = spv_inst i

abbrev pub of_sel_kind : SelectionKind → SelKindForm
of_sel_kind bool_cond = inl tt
of_sel_kind (spv_inst i) = inr i

pub sel_kind_to_of : (k : SelectionKind) → to_sel_kind (of_sel_kind k) ≡ k
sel_kind_to_of bool_cond = refl
sel_kind_to_of (spv_inst i) = refl

pub sel_kind_of_to : (x : SelKindForm) → of_sel_kind (to_sel_kind x) ≡ x
sel_kind_of_to (inl _) = refl
sel_kind_of_to (inr i) = refl

unfoldable pub sel_kind_form : Codec SelKindForm
unfolding inst_form keyword sub before lit seq same view_as strip
sel_kind_form = alt (keyword "bool") inst_form (λ b r. refl)

unfoldable pub sel_kind : Codec SelectionKind
sel_kind = same sel_kind_form to_sel_kind of_sel_kind sel_kind_to_of sel_kind_of_to

-- K of a ctrl: 'K is `unreachable`, `return`, `branch`, `bool`, INST (a selection) or `(exit INST)`'
abbrev pub PlainForm : Type 0
PlainForm = ((Unit {0} ⊎ Unit {0}) ⊎ Unit {0}) ⊎ Inst

abbrev pub to_kind : PlainForm ⊎ SelectionKind → ControlInstKind
to_kind (inl (inl (inl (inl _)))) = unreachable
to_kind (inl (inl (inl (inr _)))) = return
to_kind (inl (inl (inr _))) = branch
to_kind (inl (inr i)) = exit_invocation i
to_kind (inr k) = select_branch k

abbrev pub of_kind : ControlInstKind → PlainForm ⊎ SelectionKind
of_kind unreachable = inl (inl (inl (inl tt)))
of_kind return = inl (inl (inl (inr tt)))
of_kind branch = inl (inl (inr tt))
of_kind (exit_invocation i) = inl (inr i)
of_kind (select_branch k) = inr k

pub kind_to_of : (k : ControlInstKind) → to_kind (of_kind k) ≡ k
kind_to_of unreachable = refl
kind_to_of return = refl
kind_to_of branch = refl
kind_to_of (exit_invocation i) = refl
kind_to_of (select_branch k) = refl

pub kind_of_to : (x : PlainForm ⊎ SelectionKind) → of_kind (to_kind x) ≡ x
kind_of_to (inl (inl (inl (inl _)))) = refl
kind_of_to (inl (inl (inl (inr _)))) = refl
kind_of_to (inl (inl (inr _))) = refl
kind_of_to (inl (inr i)) = refl
kind_of_to (inr k) = refl

unfoldable pub plain_form : Codec PlainForm
unfolding keyword sub before lit seq same view_as alt strip
plain_form =
    alt (alt (alt (keyword "unreachable") (keyword "return") (λ b r. refl)) (keyword "branch") (λ b r. refl))
    (sub "exit" (closed inst_form)) (λ b r. refl)

pub plain_apart : (k : SelectionKind) (r : List ℕ) → plain_form.read (sel_kind.print k ++ r) ≡ none
unfolding plain_form sel_kind sel_kind_form inst_form keyword sub before lit seq same view_as alt strip
plain_apart bool_cond r = refl
plain_apart (spv_inst i) r = refl

unfoldable pub kind : Codec ControlInstKind
kind = same (alt plain_form sel_kind plain_apart) to_kind of_kind kind_to_of kind_of_to

-- `(R V..)` of `(vals (R V..)..)`
unfoldable pub entry_codec : Codec (ℕ × List Value)
entry_codec = spaced (seq open1 values_codec)

unfoldable pub entries_codec : Codec (List (ℕ × List Value))
unfolding entry_codec spaced before lit seq same view_as strip
entries_codec = list entry_codec (bytes ")") refl (λ r. refl)

-- `(func A R F C)`: attributes, return type id, function type id, control word
unfoldable pub func_line : Codec (ℕ × (ℕ × (ℕ × ℕ)))
func_line = line "func" (closed (seq field (seq field (seq field field))))

-- `(const ID OP)`
unfoldable pub const_line : Codec Const
const_line = same (line "const" two) (λ x. record { id = x.0; opcode = x.1 }) (λ c. (c.id, c.opcode)) (λ c. refl) (λ x. refl)

-- `(param A T)`
unfoldable pub param_line : Codec Decl
param_line = decl_codec (line "param" two)

-- `(region (in (A T)..) (nodes N..) (out V..))`
unfoldable pub region_line : Codec Region
region_line =
    same (line "region (in" (closed (seq decls_codec (seq (sub "nodes" numbers_codec) (sub "out" values_codec)))))
    (λ x. record { ins = x.0; nodes = x.1.0; outs = x.1.1 }) (λ r. (r.ins, (r.nodes, r.outs))) (λ r. refl) (λ x. refl)

-- `(block I..)`
unfoldable pub block_line : Codec (List ℕ)
block_line = line "block" numbers_codec

-- `(select K V (cases R..) (outs (A T)..) U)`
unfoldable pub select_line : Codec (SelectionKind × ((Value × (List ℕ × List Decl)) × ℕ))
select_line = line "select" (closed (seq sel_kind (seq (seq value_codec (seq (sub "cases" numbers_codec) (sub "outs" decls_codec))) field)))

-- `(loop R V (init V..) U)`
unfoldable pub loop_line : Codec (ℕ × ((Value × List Value) × ℕ))
loop_line = line "loop" (closed (seq field (seq (seq value_codec (sub "init" values_codec)) field)))

-- `(exit INST V..)`
unfoldable pub exit_line : Codec (Inst × List Value)
exit_line = line "exit" (seq inst_form values_codec)

-- nodes: one of these four
abbrev pub NodeForm : Type 0
NodeForm = ((List ℕ ⊎ (SelectionKind × ((Value × (List ℕ × List Decl)) × ℕ))) ⊎ (ℕ × ((Value × List Value) × ℕ))) ⊎ (Inst × List Value)

abbrev pub to_node : NodeForm → Node
to_node (inl (inl (inl x))) = block x
to_node (inl (inl (inr x))) = select x.0 x.1.0.0 x.1.0.1.0 x.1.0.1.1 x.1.1
to_node (inl (inr x)) = loop x.0 x.1.0.0 x.1.0.1 x.1.1
to_node (inr x) = exit x.0 x.1

abbrev pub of_node : Node → NodeForm
of_node (block x) = inl (inl (inl x))
of_node (select k v r o u) = inl (inl (inr (k, ((v, (r, o)), u))))
of_node (loop r v i u) = inl (inr (r, ((v, i), u)))
of_node (exit i v) = inr (i, v)

pub node_to_of : (n : Node) → to_node (of_node n) ≡ n
node_to_of (block x) = refl
node_to_of (select k v r o u) = refl
node_to_of (loop r v i u) = refl
node_to_of (exit i v) = refl

pub node_of_to : (x : NodeForm) → of_node (to_node x) ≡ x
node_of_to (inl (inl (inl x))) = refl
node_of_to (inl (inl (inr x))) = refl
node_of_to (inl (inr x)) = refl
node_of_to (inr x) = refl

unfoldable pub node_form : Codec NodeForm
unfolding block_line select_line loop_line exit_line line before lit seq same view_as alt strip
node_form = alt (alt (alt block_line select_line (λ b r. refl)) loop_line (λ b r. refl)) exit_line (λ b r. refl)

unfoldable pub node_line : Codec Node
node_line = same node_form to_node of_node node_to_of node_of_to

-- `(op A T X V..)`
unfoldable pub op_line : Codec Op
op_line =
    same (line "op" (seq field (seq field (seq op_kind_codec values_codec)))) (λ x. record { attrs = x.0; type = x.1.0; kind = x.1.1.0; operands = x.1.1.1 })
    (λ o. (o.attrs, (o.type, (o.kind, o.operands)))) (λ o. refl) (λ x. refl)

-- `(ctrl R A K (ins V..) (to R..) (vals (R V..)..))`: the way out of region R
unfoldable pub ctrl_line : Codec (ℕ × ControlInst)
ctrl_line =
    same (line "ctrl" (closed (seq field (seq field (seq kind (seq (sub "ins" values_codec) (seq (sub "to" numbers_codec) (sub "vals" entries_codec))))))))
    (λ x. (x.0, record { attrs = x.1.0; kind = x.1.1.0; ins = x.1.1.1.0; to = x.1.1.1.1.0; vals = x.1.1.1.1.1 }))
    (λ c. (c.0, (c.1.attrs, (c.1.kind, (c.1.ins, (c.1.to, c.1.vals)))))) (λ c. refl) (λ x. refl)

-- 'Line order: one func, consts, params, then `(imported)` alone or regions (at least one), nodes, ops, ctrls.' A kind of lines is over
-- where its reader refuses, so it must refuse every line that may come next: the laws `-apart`.
abbrev pub Ctrls : Type 0
Ctrls = List (ℕ × ControlInst) × Unit {0}

abbrev pub Ops : Type 0
Ops = List Op × Ctrls

abbrev pub Nodes : Type 0
Nodes = List Node × Ops

abbrev pub Regions : Type 0
Regions = List Region × Nodes

unfoldable pub ctrl_lines : Whole Ctrls
unfolding ctrl_line line before lit seq same view_as strip end
ctrl_lines = many ctrl_line end (λ b r. refl)

pub op_apart : (b : Ctrls) (r : Unit {0}) → op_line.read (ctrl_lines.print b ++ []) ≡ none
unfolding ctrl_lines op_line ctrl_line line before lit seq same view_as strip many end
op_apart = skip ctrl_line end op_line (λ c r. refl) (λ b r. refl)

unfoldable pub op_lines : Whole Ops
op_lines = many op_line ctrl_lines op_apart

pub node_apart : (b : Ops) (r : Unit {0}) → node_line.read (op_lines.print b ++ []) ≡ none
unfolding op_lines ctrl_lines node_line node_form block_line select_line loop_line exit_line op_line ctrl_line line before lit seq same view_as alt strip many end
node_apart = skip op_line ctrl_lines node_line (λ o r. refl) (skip ctrl_line end node_line (λ c r. refl) (λ b r. refl))

unfoldable pub node_lines : Whole Nodes
node_lines = many node_line op_lines node_apart

pub region_node : (n : Node) (r : List ℕ) → region_line.read (node_line.print n ++ r) ≡ none
unfolding region_line node_line node_form block_line select_line loop_line exit_line line before lit seq same view_as alt strip
region_node (block x) r = refl
region_node (select k v c o u) r = refl
region_node (loop n v i u) r = refl
region_node (exit i v) r = refl

pub region_apart : (b : Nodes) (r : Unit {0}) → region_line.read (node_lines.print b ++ []) ≡ none
unfolding node_lines op_lines ctrl_lines region_line op_line ctrl_line line before lit seq same view_as strip many end
region_apart =
    skip node_line op_lines region_line region_node
    (skip op_line ctrl_lines region_line (λ o r. refl) (skip ctrl_line end region_line (λ c r. refl) (λ b r. refl)))

unfoldable pub region_lines : Whole Regions
region_lines = many region_line node_lines region_apart

-- `(imported)` alone, or at least one region
abbrev pub RestForm : Type 0
RestForm = (Unit {0} × Unit {0}) ⊎ (Region × Regions)

unfoldable pub rest_form : Whole RestForm
unfolding region_line line before lit seq same view_as strip end
rest_form = alt (seq (lit (bytes "(imported)\n") refl) end) (seq region_line region_lines) (λ b r. refl)

-- a function without regions is the imported one
abbrev pub to_rest : RestForm → Regions
to_rest (inl _) = ([], ([], ([], ([], tt))))
to_rest (inr x) = (x.0 ∷ x.1.0, x.1.1)

abbrev pub of_rest : List Region → Nodes → RestForm
of_rest [] x = inl (tt, tt)
of_rest (r ∷ rs) x = inr (r, (rs, x))

-- `(imported)` stands alone: without regions there are no nodes, no ops and no ctrls
abbrev pub Alone : List Region → List Node → List Op → List (ℕ × ControlInst) → Type 0
Alone regions nodes ops ctrls = regions ≡ [] → (nodes ≡ []) × (ops ≡ []) × (ctrls ≡ [])

abbrev pub OkRest : Regions → Type 0
OkRest x = region_lines.Ok x × Alone x.0 x.1.0 x.1.1.0 x.1.1.1.0

unfoldable pub rest_lines : Whole Regions
rest_lines = view_as rest_form to_rest (λ x. of_rest x.0 x.1) OkRest

-- what refuses `(imported)` and a region refuses the rest of the text
pub skip_rest : {A : Type 0} (R : Codec A) → ((r : List ℕ) → R.read (bytes "(imported)\n" ++ r) ≡ none)
    → ((x : Region) (r : List ℕ) → R.read (region_line.print x ++ r) ≡ none) → (x : Regions) (r : Unit {0}) → R.read (rest_lines.print x ++ []) ≡ none
unfolding rest_lines rest_form view_as alt seq lit end
skip_rest R imported region x r = go x.0
  where
    go : (rs : List Region) → R.read (rest_form.print (of_rest rs x.1) ++ []) ≡ none
    go [] = imported []
    go (a ∷ rs) = rw append_assoc (region a (region_lines.print (rs, x.1) ++ []))

pub param_apart : (b : Regions) (r : Unit {0}) → param_line.read (rest_lines.print b ++ []) ≡ none
unfolding param_line decl_codec region_line line before lit seq same view_as strip
param_apart = skip_rest param_line (λ r. refl) (λ x r. refl)

unfoldable pub param_lines : Whole (List Decl × Regions)
param_lines = many param_line rest_lines param_apart

pub const_apart : (b : List Decl × Regions) (r : Unit {0}) → const_line.read (param_lines.print b ++ []) ≡ none
unfolding param_lines const_line param_line decl_codec region_line line before lit seq same view_as strip many
const_apart = skip param_line rest_lines const_line (λ d r. refl) (skip_rest const_line (λ r. refl) (λ x r. refl))

unfoldable pub const_lines : Whole (List Const × (List Decl × Regions))
const_lines = many const_line param_lines const_apart

-- which functions have a text: every number of every line is below the bound, and a function without regions has no other lines
pub record Fits (f : Func) : Type 0 where
  pub func : func_line.Ok (f.attrs, (f.ret, (f.type, f.control)))
  pub consts : Every const_line.Ok f.consts
  pub params : Every param_line.Ok f.params
  pub regions : Every region_line.Ok f.regions
  pub nodes : Every node_line.Ok f.nodes
  pub ops : Every op_line.Ok f.ops
  pub ctrls : Every ctrl_line.Ok f.ctrls
  pub alone : Alone f.regions f.nodes f.ops f.ctrls

abbrev pub TextForm : Type 0
TextForm = (ℕ × (ℕ × (ℕ × ℕ))) × (List Const × (List Decl × Regions))

-- its function
abbrev pub to_func : TextForm → Func
to_func x =
    record {
      attrs = x.0.0;
      ret = x.0.1.0;
      type = x.0.1.1.0;
      control = x.0.1.1.1;
      consts = x.1.0;
      params = x.1.1.0;
      regions = x.1.1.1.0;
      nodes = x.1.1.1.1.0;
      ops = x.1.1.1.1.1.0;
      ctrls = x.1.1.1.1.1.1.0;
    }

abbrev pub of_func : Func → TextForm
of_func f = ((f.attrs, (f.ret, (f.type, f.control))), (f.consts, (f.params, (f.regions, (f.nodes, (f.ops, (f.ctrls, tt)))))))

-- the whole text
unfoldable pub text : Whole Func
text = view_as (seq func_line const_lines) to_func of_func Fits

-- all of the text's definitions opened, so that `unfolding print` or `unfolding read` alone computes
unfoldable pub opened : Whole Func
unfolding text const_lines param_lines rest_lines rest_form region_lines node_lines op_lines ctrl_lines func_line const_line param_line region_line
    node_line node_form block_line select_line loop_line exit_line op_line ctrl_line entries_codec entry_codec kind plain_form sel_kind sel_kind_form op_kind_codec
    op_kind_form inst_form imms_codec imm_codec values_codec value_codec value_form decls_codec decl decl_codec numbers_codec one_codec two open1 field line closed sub keyword spaced before
    after_word lit num seq view_as same alt many read_many list strip number number_from digits digits_to end
opened = text

unfoldable pub print : Func → List ℕ
unfolding opened
print f = opened.print f

unfoldable pub read : List ℕ → Option Func
unfolding opened read_whole
read t = read_whole opened t
