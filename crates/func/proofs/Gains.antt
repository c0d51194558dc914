-- Each kind of line adds to each pool what `specs/Gains` says. Assumes nothing.
--     region_line_law, node_line_law, op_line_law, entry_line      the lines can be kept
--     adds_region, adds_node, adds_op, adds_entry      so each adds its lists, and its row
--     adds_ctrl                                        a ctrl line adds its lists, those of its entries, and its row
use Rattle.std.specs.Prelude.{◌≡◌, refl, true, List, [], ◌++◌, map, ℕ, length}
use Rattle.std.proofs.Common.{sym, ◌∙◌, lit<}
use Rattle.general_laws.specs.Lists.{gather}
use Rattle.lifting.specs.Ast.{Value, const, region_input, node_output, data_inst_output, Imm, Op, Decl, Node, Region, ControlInst, Const}
use Rattle.lifting.specs.Parts.{children_of, outs_of, node_values, node_insts, op_insts, ctrl_insts, block_ops}
use Rattle.general_laws.specs.Gather.{gather_none}
use Rattle.func.specs.Layout.{consts, params, decls, values, imms, targets, node_refs, op_refs, child_refs, entries, regions, nodes, ops, ctrls, shapes, lay, pools, pool_of, width}
use Rattle.func.specs.Store.{folds}
use Rattle.func.specs.Adds.{AddsReady, Adds, Wide}
use Rattle.func.proofs.Adds.{ready_after, adds_then, wide_map, adds_folds, grown_gather}
use Rattle.func.specs.Lines.{keep_cells, row_of, gained, fresh_pool, proper, WideCells, line_gain, Line}
use Rattle.func.proofs.Lines.{adds_cells, adds_row, adds_line}
use Rattle.func.specs.Keep.{one_word, const_words, decl_words, imm_words, value_words, inst_imms, region_cells, node_cells, op_cells, entry_cells, ctrl_cells, keep_region, keep_node, keep_op, keep_entry, ctrl_row, keep_ctrl}
use Rattle.func.specs.Gains.{row_for, gain, region_gain, node_gain, op_gain, entry_gain, entries_gain, ctrl_row_of, ctrl_gain}

-- entries of one pool's width
values_wide : (v : Value) → length (value_words v) ≡ width values
unfolding width pool_of pools shapes lay
values_wide (const n) = refl
values_wide (region_input r i) = refl
values_wide (node_output n i) = refl
values_wide (data_inst_output i) = refl

wide_values : (vs : List Value) → Wide values (map value_words vs)
wide_values vs = wide_map values value_words values_wide vs

wide_decls : (ds : List Decl) → Wide decls (map decl_words ds)
unfolding width pool_of pools shapes lay
wide_decls ds = wide_map decls decl_words (λ d. refl) ds

wide_imms : (is : List Imm) → Wide imms (map imm_words is)
unfolding width pool_of pools shapes lay
wide_imms is = wide_map imms imm_words (λ d. refl) is

wide_numbers : (k : ℕ) → width k ≡ 1 → (ns : List ℕ) → Wide k (map one_word ns)
wide_numbers k e ns = wide_map k one_word (λ n. sym e) ns

pub const_wide : (c : Const) → length (const_words c) ≡ width consts
unfolding width pool_of pools shapes lay
const_wide c = refl

pub param_wide : (d : Decl) → length (decl_words d) ≡ width params
unfolding width pool_of pools shapes lay
param_wide d = refl

-- the lines
pub region_line_law : (r : Region) → Line regions (region_cells r)
unfolding region_cells fresh_pool proper width pool_of pools shapes lay
region_line_law r = record {
  pool = lit< tt;
  own = refl;
  size = refl;
  lists = refl;
  wide = (wide_decls r.ins, (wide_numbers node_refs refl r.nodes, (wide_values r.outs, tt)));
}

pub node_line_law : (n : Node) → Line nodes (node_cells n)
unfolding node_cells fresh_pool proper width pool_of pools shapes lay
node_line_law n = record {
  pool = lit< tt;
  own = refl;
  size = refl;
  lists = refl;
  wide = (
    wide_imms (inst_imms (node_insts n)),
    (wide_values (node_values n), (wide_numbers op_refs refl (block_ops n), (wide_numbers child_refs refl (children_of n), (wide_decls (outs_of n), tt)))),
  );
}

pub op_line_law : (o : Op) → Line ops (op_cells o)
unfolding op_cells fresh_pool proper width pool_of pools shapes lay
op_line_law o = record {
  pool = lit< tt;
  own = refl;
  size = refl;
  lists = refl;
  wide = (wide_imms (inst_imms (op_insts o.kind)), (wide_values o.operands, tt));
}

pub entry_line : (e : ℕ × List Value) → Line entries (entry_cells e)
unfolding entry_cells fresh_pool proper width pool_of pools shapes lay
entry_line e = record { pool = lit< tt; own = refl; size = refl; lists = refl; wide = (wide_values e.1, tt) }

pub adds_region : (r : Region) (w : List ℕ) → AddsReady w → Adds w (keep_region r w) (region_gain r w)
unfolding keep_region gain row_for
adds_region r w h = adds_line regions (region_cells r) (region_line_law r) h

pub adds_node : (n : Node) (w : List ℕ) → AddsReady w → Adds w (keep_node n w) (node_gain n w)
unfolding keep_node gain row_for
adds_node n w h = adds_line nodes (node_cells n) (node_line_law n) h

pub adds_op : (o : Op) (w : List ℕ) → AddsReady w → Adds w (keep_op o w) (op_gain o w)
unfolding keep_op gain row_for
adds_op o w h = adds_line ops (op_cells o) (op_line_law o) h

pub adds_entry : (e : ℕ × List Value) (w : List ℕ) → AddsReady w → Adds w (keep_entry e w) (entry_gain e w)
unfolding keep_entry gain row_for
adds_entry e w h = adds_line entries (entry_cells e) (entry_line e) h

-- a ctrl line: its own lists, then those of its entries, then its row
pub ctrl_lists_law : (c : ℕ × ControlInst) → (proper (ctrl_cells c) ≡ true) × WideCells (ctrl_cells c)
unfolding ctrl_cells fresh_pool proper width pool_of pools shapes lay
ctrl_lists_law c = (refl, (wide_imms (inst_imms (ctrl_insts c.1.kind)), (wide_values c.1.ins, (wide_numbers targets refl c.1.to, tt))))

pub adds_ctrl_cells : (c : ℕ × ControlInst) (w : List ℕ) → AddsReady w → Adds w (keep_cells (ctrl_cells c) w) (gained (ctrl_cells c))
adds_ctrl_cells c w h = adds_cells (ctrl_cells c) (ctrl_lists_law c).0 (ctrl_lists_law c).1 h

pub adds_entries : (c : ℕ × ControlInst) (w : List ℕ) → AddsReady w → Adds (keep_cells (ctrl_cells c) w) (folds keep_entry c.1.vals (keep_cells (ctrl_cells c) w)) (entries_gain c w)
unfolding entries_gain
adds_entries c w h = adds_folds keep_entry entry_gain adds_entry c.1.vals (keep_cells (ctrl_cells c) w) (ready_after h (adds_ctrl_cells c w h))

pub entries_at : (k : ℕ) (p : ℕ × List Value → List (List ℕ)) → ((e : ℕ × List Value) (w : List ℕ) → entry_gain e w k ≡ p e) → (c : ℕ × ControlInst) (w : List ℕ)
    → entries_gain c w k ≡ gather p c.1.vals
unfolding entries_gain
entries_at k p h c w = grown_gather keep_entry entry_gain p k h c.1.vals (keep_cells (ctrl_cells c) w)

none : (c : ℕ × ControlInst) (w : List ℕ) → gained (ctrl_cells c) ctrls ++ entries_gain c w ctrls ≡ []
unfolding gained ctrl_cells
none c w = entries_at ctrls (λ e. []) (λ e w. unfold gain line_gain entry_cells gained in refl) c w ∙ gather_none c.1.vals

pub ctrl_wide : (c : ℕ × ControlInst) (w : List ℕ) → length (ctrl_row_of c w) ≡ width ctrls
unfolding ctrl_row_of ctrl_row ctrl_cells row_of width pool_of pools shapes lay
ctrl_wide c w = refl

pub adds_ctrl : (c : ℕ × ControlInst) (w : List ℕ) → AddsReady w → Adds w (keep_ctrl c w) (ctrl_gain c w)
unfolding keep_ctrl ctrl_gain ctrl_row_of
adds_ctrl c w h =
    adds_row ctrls (ctrl_row_of c w) (λ j. gained (ctrl_cells c) j ++ entries_gain c w j) h (adds_then (adds_ctrl_cells c w h) (adds_entries c w h)) (lit< tt)
    (none c w)
    (ctrl_wide c w)
