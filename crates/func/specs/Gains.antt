-- What each kind of line adds to each pool. Definitions. Assumes nothing.
use Rattle.std.specs.Prelude.{true, false, List, [], ◌∷◌, ◌++◌, ℕ, eqb}
use Rattle.lifting.specs.Ast.{Value, Op, Node, Region, ControlInst}
use Rattle.func.specs.Layout.{entries, regions, nodes, ops, ctrls}
use Rattle.func.specs.Store.{folds}
use Rattle.func.specs.Adds.{grown}
use Rattle.func.specs.Lines.{Cell, keep_cells, row_of, gained, line_gain}
use Rattle.func.specs.Keep.{region_cells, node_cells, op_cells, entry_cells, ctrl_cells, keep_entry, ctrl_row}

-- a line's row, and what it gains
unfoldable pub row_for : {A : Type 0} → (A → List Cell) → A → List ℕ → List ℕ
row_for cells a w = row_of (cells a) w (keep_cells (cells a) w)

unfoldable pub gain : {A : Type 0} → ℕ → (A → List Cell) → A → List ℕ → ℕ → List (List ℕ)
unfolding line_gain
gain k cells a w = line_gain k (cells a) (row_for cells a w)

abbrev pub region_gain : Region → List ℕ → ℕ → List (List ℕ)
region_gain = gain regions region_cells

abbrev pub node_gain : Node → List ℕ → ℕ → List (List ℕ)
node_gain = gain nodes node_cells

abbrev pub op_gain : Op → List ℕ → ℕ → List (List ℕ)
op_gain = gain ops op_cells

abbrev pub entry_gain : ℕ × List Value → List ℕ → ℕ → List (List ℕ)
entry_gain = gain entries entry_cells

unfoldable pub entries_gain : ℕ × ControlInst → List ℕ → ℕ → List (List ℕ)
entries_gain c w = grown keep_entry entry_gain c.1.vals (keep_cells (ctrl_cells c) w)

unfoldable pub ctrl_row_of : ℕ × ControlInst → List ℕ → List ℕ
ctrl_row_of c w = ctrl_row (ctrl_cells c) w (keep_cells (ctrl_cells c) w) (folds keep_entry c.1.vals (keep_cells (ctrl_cells c) w))

unfoldable pub ctrl_gain : ℕ × ControlInst → List ℕ → ℕ → List (List ℕ)
unfolding gained
ctrl_gain c w j = elim (eqb ctrls j) [ true ↦ ctrl_row_of c w ∷ [] | false ↦ gained (ctrl_cells c) j ++ entries_gain c w j ]
