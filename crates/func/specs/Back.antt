-- What is asked of a text that is read back, and what its rows say. Definitions. Assumes nothing.
--     RowFits    the function is within its limits
--     Rows       the rows of the lines say what the lines say
use Rattle.std.specs.Prelude.{◌≡◌, Bool, true, ℕ, ◌≤◌, ◌<◌, min, leb, length, get_or}
use mathlib.Core.List.{List}
use Rattle.general_laws.specs.Lists.{every}
use Rattle.lifting.specs.Limits.{max_regions, max_nodes, max_ops, max_consts, max_params, max_values, max_decls, max_immediates, max_targets, within_limits}
use Rattle.lifting.specs.Ast.{Value, const, region_input, node_output, data_inst_output, ControlInst, Func}
use Rattle.lifting.specs.Parts as text
use Rattle.func.specs.Layout.{pool_total, entries, regions, nodes, ops, ctrls, entry_room}
use Rattle.func.specs.Store.{count, view}
use Rattle.func.specs.Lines.{Piece, Row, RowsEach}
use Rattle.func.specs.Keep.{region_cells, node_cells, op_cells, entry_cells, ctrl_cells}
use Rattle.func.specs.Whole.{entry_list}

-- Parts. A value comes back with its first number lowered to 65,535 at most.
abbrev pub lowered : Value → Value
lowered (const n) = const (min n 65535)
lowered (region_input r i) = region_input (min r 65535) i
lowered (node_output n i) = node_output (min n 65535) i
lowered (data_inst_output i) = data_inst_output (min i 65535)

-- the first number of a value, and the test that the slice keeps it whole
abbrev pub first : Value → ℕ
first (const n) = n
first (region_input r i) = r
first (node_output n i) = n
first (data_inst_output i) = i

abbrev pub first_fits : Value → Bool
first_fits v = leb (first v) 65535

-- every pool is within its room
abbrev pub Fit : List ℕ → Type 0
Fit t = (k : ℕ) → k < pool_total → count k t ≤ entry_room k

-- a ctrl line's row: its cells, and at its last word the rows of its entries
pub record CtrlRow (t e : List ℕ) (c : ℕ × ControlInst) : Type 0 where
  pub cells : Row t e (ctrl_cells c)
  pub rows : List (List ℕ)
  pub piece : count entries t ≤ entry_room entries → Piece entries rows t (get_or e 7 0)
  pub vals : RowsEach (λ e v. Row t e (entry_cells v)) rows c.1.vals

-- What a text must keep to for the slice to hold it whole: the limits of 3, what 5 and 7 then give of the lists that 3 does not bound,
-- and first numbers of values that are at most 65,535, as those of values that name something are.
pub record RowFits (F : Func) : Type 0 where
  pub limits : within_limits F ≡ true
  pub node_refs : length (text.node_list F) ≤ max_nodes
  pub op_refs : length (text.op_list F) ≤ max_ops
  pub child_refs : length (text.child_list F) ≤ max_regions
  pub entries : length (entry_list F) ≤ max_targets
  pub ctrls : length F.ctrls ≤ max_regions
  pub firsts : every first_fits (text.values F) ≡ true

-- the nine limits of 3, as orders
pub record Limits (F : Func) : Type 0 where
  pub regions : length F.regions ≤ max_regions
  pub nodes : length F.nodes ≤ max_nodes
  pub ops : length F.ops ≤ max_ops
  pub consts : length F.consts ≤ max_consts
  pub params : length F.params ≤ max_params
  pub values : length (text.values F) ≤ max_values
  pub decls : length (text.decls F) ≤ max_decls
  pub imms : length (text.immediates F) ≤ max_immediates
  pub targets : length (text.targets F) ≤ max_targets

-- the rows of a text, each of which says what its line says, where the pool of rows is within its room
pub record Rows (F : Func) (t : List ℕ) : Type 0 where
  pub regions : count regions t ≤ entry_room regions → RowsEach (λ e r. Row t e (region_cells r)) (view regions t) F.regions
  pub nodes : count nodes t ≤ entry_room nodes → RowsEach (λ e n. Row t e (node_cells n)) (view nodes t) F.nodes
  pub ops : count ops t ≤ entry_room ops → RowsEach (λ e o. Row t e (op_cells o)) (view ops t) F.ops
  pub ctrls : count ctrls t ≤ entry_room ctrls → RowsEach (CtrlRow t) (view ctrls t) F.ctrls
