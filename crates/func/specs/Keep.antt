-- What the text of a function stores: the words of each part, the cells of each kind of line, and the keepers, in the order in which a
-- reader meets the parts. A line's row is pushed after its lists. (Of a loop the body's number is pushed after the values, so that all
-- nodes push their lists in one order.) Assumes nothing.
use Rattle.std.specs.Prelude.{List, [], ◌∷◌, ◌++◌, map, ℕ, ◌+◌, ◌*◌, min}
use Rattle.std.proofs.lemmas.List.Edits.{sets}
use Rattle.general_laws.specs.Lists.{gather}
use Rattle.lifting.specs.Ast.{Value, const, region_input, node_output, data_inst_output, Imm, Inst, DataInstKind, inst, call, ext, Op, bool_cond, spv_inst, Decl, Node, block, select, loop, exit, Region, ControlInstKind, unreachable, return, branch, select_branch, exit_invocation, ControlInst, Const, Func}
use Rattle.lifting.specs.Parts.{children_of, outs_of, node_control, node_values, node_insts, op_insts, ctrl_insts, block_ops}
use Rattle.func.specs.Layout.{consts, params, decls, values, imms, targets, node_refs, op_refs, child_refs, entries, regions, nodes, ops, ctrls}
use Rattle.func.specs.Store.{count, push, folds}
use Rattle.func.specs.Lines.{Cell, num, run, pool_span, keep_cells, row_of, keep_row}

-- The words of each part. A value's kind and first number share a word; a first number of 65,535 or more is kept as 65,535.
abbrev pub one_word : ℕ → List ℕ
one_word n = n ∷ []

abbrev pub const_words : Const → List ℕ
const_words c = c.id ∷ c.opcode ∷ []

abbrev pub decl_words : Decl → List ℕ
decl_words d = d.attrs ∷ d.type ∷ []

abbrev pub imm_words : Imm → List ℕ
imm_words i = i.kind ∷ i.operand ∷ i.word ∷ []

abbrev pub pair_words : ℕ → ℕ → ℕ → List ℕ
pair_words kind a b = (kind * 65536 + min a 65535) ∷ b ∷ []

abbrev pub value_words : Value → List ℕ
value_words (const n) = pair_words 0 n 0
value_words (region_input r i) = pair_words 1 r i
value_words (node_output n i) = pair_words 2 n i
value_words (data_inst_output i) = pair_words 3 i 0

-- the opcode and the immediates of a line's INST, if it has one
abbrev pub inst_opcode : List Inst → ℕ
inst_opcode [] = 0
inst_opcode (i ∷ is) = i.opcode

abbrev pub inst_imms : List Inst → List Imm
inst_imms is = gather (λ i. i.imms) is

-- a region
unfoldable pub region_cells : Region → List Cell
region_cells r = run decls (map decl_words r.ins) ∷ run node_refs (map one_word r.nodes) ∷ run values (map value_words r.outs) ∷ []

-- a node: 0 block, 1 select by bool, 2 select by INST, 3 loop, 4 exit
abbrev pub node_number : Node → ℕ
node_number (block is) = 0
node_number (select bool_cond v cs ds u) = 1
node_number (select (spv_inst i) v cs ds u) = 2
node_number (loop b c vs u) = 3
node_number (exit i vs) = 4

unfoldable pub node_cells : Node → List Cell
node_cells n =
    num (node_number n)
    ∷ num (inst_opcode (node_insts n))
    ∷ run imms (map imm_words (inst_imms (node_insts n)))
    ∷ run values (map value_words (node_values n))
    ∷ run op_refs (map one_word (block_ops n))
    ∷ run child_refs (map one_word (children_of n))
    ∷ run decls (map decl_words (outs_of n))
    ∷ num (node_control n)
    ∷ []

-- an op: 0 INST and its opcode, 1 call and its ID, 2 ext, its ID and its N
abbrev pub op_number : DataInstKind → ℕ
op_number (inst i) = 0
op_number (call f) = 1
op_number (ext s n) = 2

abbrev pub op_first : DataInstKind → ℕ
op_first (inst i) = i.opcode
op_first (call f) = f
op_first (ext s n) = s

abbrev pub op_second : DataInstKind → ℕ
op_second (inst i) = 0
op_second (call f) = 0
op_second (ext s n) = n

unfoldable pub op_cells : Op → List Cell
op_cells o =
    num o.attrs
    ∷ num o.type
    ∷ num (op_number o.kind)
    ∷ num (op_first o.kind)
    ∷ num (op_second o.kind)
    ∷ run imms (map imm_words (inst_imms (op_insts o.kind)))
    ∷ run values (map value_words o.operands)
    ∷ []

-- an entry of a ctrl line
unfoldable pub entry_cells : ℕ × List Value → List Cell
entry_cells e = num e.0 ∷ run values (map value_words e.1) ∷ []

-- a ctrl line without its entries: 0 unreachable, 1 return, 2 branch, 3 bool, 4 INST, 5 exit
abbrev pub ctrl_number : ControlInstKind → ℕ
ctrl_number unreachable = 0
ctrl_number return = 1
ctrl_number branch = 2
ctrl_number (select_branch bool_cond) = 3
ctrl_number (select_branch (spv_inst i)) = 4
ctrl_number (exit_invocation i) = 5

unfoldable pub ctrl_cells : ℕ × ControlInst → List Cell
ctrl_cells c =
    num c.0
    ∷ num c.1.attrs
    ∷ num (ctrl_number c.1.kind)
    ∷ num (inst_opcode (ctrl_insts c.1.kind))
    ∷ run imms (map imm_words (inst_imms (ctrl_insts c.1.kind)))
    ∷ run values (map value_words c.1.ins)
    ∷ run targets (map one_word c.1.to)
    ∷ []

-- The keepers of parts.
unfoldable pub keep_head : ℕ → ℕ → ℕ → ℕ → List ℕ → List ℕ
keep_head a r f c w = sets w 0 (a ∷ r ∷ f ∷ c ∷ [])

abbrev pub keep_const : Const → List ℕ → List ℕ
keep_const c w = push consts (const_words c) w

abbrev pub keep_param : Decl → List ℕ → List ℕ
keep_param d w = push params (decl_words d) w

abbrev pub keep_decl : Decl → List ℕ → List ℕ
keep_decl d w = push decls (decl_words d) w

abbrev pub keep_value : Value → List ℕ → List ℕ
keep_value v w = push values (value_words v) w

abbrev pub keep_imm : Imm → List ℕ → List ℕ
keep_imm i w = push imms (imm_words i) w

-- a number, for pool k
abbrev pub keep_number : ℕ → ℕ → List ℕ → List ℕ
keep_number k n w = push k (one_word n) w

abbrev pub keep_target : ℕ → List ℕ → List ℕ
keep_target = keep_number targets

abbrev pub keep_node_ref : ℕ → List ℕ → List ℕ
keep_node_ref = keep_number node_refs

abbrev pub keep_op_ref : ℕ → List ℕ → List ℕ
keep_op_ref = keep_number op_refs

abbrev pub keep_child : ℕ → List ℕ → List ℕ
keep_child = keep_number child_refs

-- The keepers of lines.
unfoldable pub keep_region : Region → List ℕ → List ℕ
keep_region r w = keep_row regions (region_cells r) w

unfoldable pub keep_node : Node → List ℕ → List ℕ
keep_node n w = keep_row nodes (node_cells n) w

unfoldable pub keep_op : Op → List ℕ → List ℕ
keep_op o w = keep_row ops (op_cells o) w

unfoldable pub keep_entry : ℕ × List Value → List ℕ → List ℕ
keep_entry e w = keep_row entries (entry_cells e) w

-- a ctrl line's row: its cells' words, and the run of its entries, which were pushed from the words v to the words u
unfoldable pub ctrl_row : List Cell → List ℕ → List ℕ → List ℕ → List ℕ
ctrl_row cs w v u = row_of cs w v ++ pool_span (count entries v) (count entries u) ∷ []

unfoldable pub keep_ctrl : ℕ × ControlInst → List ℕ → List ℕ
keep_ctrl c w =
    let v = keep_cells (ctrl_cells c) w in
    let u = folds keep_entry c.1.vals v in
    push ctrls (ctrl_row (ctrl_cells c) w v u) u

-- the whole text
unfoldable pub keep_func : Func → List ℕ → List ℕ
keep_func F w =
    folds keep_ctrl F.ctrls
    (folds keep_op F.ops
    (folds keep_node F.nodes
    (folds keep_region F.regions
    (folds keep_param F.params (folds keep_const F.consts (keep_head F.attrs F.ret F.type F.control w))))))
