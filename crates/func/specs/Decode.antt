-- The function that stands in the function slice, decoded through what the pools hold. Assumes nothing.
use Rattle.std.specs.Prelude.{List, [], ◌∷◌, map, ℕ, zero, suc, ◌/◌, ◌%◌, get_or}
use Rattle.lifting.specs.Ast.{Value, const, region_input, node_output, data_inst_output, Imm, Inst, DataInstKind, inst, call, ext, Op, bool_cond, spv_inst, Decl, Node, block, select, loop, exit, Region, ControlInstKind, unreachable, return, branch, select_branch, exit_invocation, ControlInst, Const, Func}
use Rattle.func.specs.Layout.{consts, params, decls, values, imms, targets, node_refs, op_refs, child_refs, entries, regions, nodes, ops, ctrls}
use Rattle.func.specs.Store.{view}
use Rattle.func.specs.Lines.{pool_slice}

-- the parts, from their words
abbrev pub decode_number : List ℕ → ℕ
decode_number e = get_or e 0 0

abbrev pub decode_const : List ℕ → Const
decode_const e = record { id = get_or e 0 0; opcode = get_or e 1 0 }

abbrev pub decode_decl : List ℕ → Decl
decode_decl e = record { attrs = get_or e 0 0; type = get_or e 1 0 }

abbrev pub decode_imm : List ℕ → Imm
decode_imm e = record { kind = get_or e 0 0; operand = get_or e 1 0; word = get_or e 2 0 }

abbrev pub value_from : ℕ → ℕ → ℕ → Value
value_from zero a b = const a
value_from (suc zero) a b = region_input a b
value_from (suc (suc zero)) a b = node_output a b
value_from (suc (suc (suc k))) a b = data_inst_output a

abbrev pub value_of : List ℕ → Value
value_of e = value_from (get_or e 0 0 / 65536) (get_or e 0 0 % 65536) (get_or e 1 0)

-- the lists of a row, from their runs
module _ (w : List ℕ) where
  abbrev pub decls_at : ℕ → List Decl
  decls_at x = map decode_decl (pool_slice decls w x)

  abbrev pub values_at : ℕ → List Value
  values_at x = map value_of (pool_slice values w x)

  abbrev pub imms_at : ℕ → List Imm
  imms_at x = map decode_imm (pool_slice imms w x)

  abbrev pub numbers_at : ℕ → ℕ → List ℕ
  numbers_at k x = map decode_number (pool_slice k w x)

  abbrev pub inst_at : ℕ → ℕ → Inst
  inst_at o x = record { opcode = o; imms = imms_at x }

-- the first of a list, and the others
abbrev pub first_value : List Value → Value
first_value [] = const 0
first_value (v ∷ vs) = v

abbrev pub other_values : List Value → List Value
other_values [] = []
other_values (v ∷ vs) = vs

-- the kinds, from their numbers
unfoldable pub node_from : ℕ → Inst → List Value → List ℕ → List ℕ → List Decl → ℕ → Node
node_from zero i vs os cs ds u = block os
node_from (suc zero) i vs os cs ds u = select bool_cond (first_value vs) cs ds u
node_from (suc (suc zero)) i vs os cs ds u = select (spv_inst i) (first_value vs) cs ds u
node_from (suc (suc (suc zero))) i vs os cs ds u = loop (get_or cs 0 0) (first_value vs) (other_values vs) u
node_from (suc (suc (suc (suc k)))) i vs os cs ds u = exit i vs

unfoldable pub op_from : ℕ → Inst → ℕ → DataInstKind
op_from zero i n = inst i
op_from (suc zero) i n = call i.opcode
op_from (suc (suc k)) i n = ext i.opcode n

unfoldable pub ctrl_from : ℕ → Inst → ControlInstKind
ctrl_from zero i = unreachable
ctrl_from (suc zero) i = return
ctrl_from (suc (suc zero)) i = branch
ctrl_from (suc (suc (suc zero))) i = select_branch bool_cond
ctrl_from (suc (suc (suc (suc zero)))) i = select_branch (spv_inst i)
ctrl_from (suc (suc (suc (suc (suc k))))) i = exit_invocation i

-- the lines, from their rows
unfoldable pub region_at : List ℕ → List ℕ → Region
region_at w e = record { ins = decls_at w (get_or e 0 0); nodes = numbers_at w node_refs (get_or e 1 0); outs = values_at w (get_or e 2 0) }

unfoldable pub node_at : List ℕ → List ℕ → Node
node_at w e =
    node_from (get_or e 0 0) (inst_at w (get_or e 1 0) (get_or e 2 0)) (values_at w (get_or e 3 0)) (numbers_at w op_refs (get_or e 4 0)) (numbers_at w child_refs (get_or e 5 0))
    (decls_at w (get_or e 6 0)) (get_or e 7 0)

unfoldable pub op_at : List ℕ → List ℕ → Op
op_at w e = record {
  attrs = get_or e 0 0;
  type = get_or e 1 0;
  kind = op_from (get_or e 2 0) (inst_at w (get_or e 3 0) (get_or e 5 0)) (get_or e 4 0);
  operands = values_at w (get_or e 6 0);
}

unfoldable pub entry_at : List ℕ → List ℕ → ℕ × List Value
entry_at w e = (get_or e 0 0, values_at w (get_or e 1 0))

unfoldable pub ctrl_at : List ℕ → List ℕ → ℕ × ControlInst
unfolding entry_at
ctrl_at w e = (
  get_or e 0 0,
  record {
    attrs = get_or e 1 0;
    kind = ctrl_from (get_or e 2 0) (inst_at w (get_or e 3 0) (get_or e 4 0));
    ins = values_at w (get_or e 5 0);
    to = numbers_at w targets (get_or e 6 0);
    vals = map (entry_at w) (pool_slice entries w (get_or e 7 0));
  },
)

unfoldable pub func_of : List ℕ → Func
unfolding region_at node_at op_at ctrl_at
func_of w = record {
  attrs = get_or w 0 0;
  ret = get_or w 1 0;
  type = get_or w 2 0;
  control = get_or w 3 0;
  consts = map decode_const (view consts w);
  params = map decode_decl (view params w);
  regions = map (region_at w) (view regions w);
  nodes = map (node_at w) (view nodes w);
  ops = map (op_at w) (view ops w);
  ctrls = map (ctrl_at w) (view ctrls w);
}
