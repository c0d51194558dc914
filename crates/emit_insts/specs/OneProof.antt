-- That a function stands whole, said so that there is at most one proof of it, as a type's invariant has to be: rows and lines by number.
-- Assumes nothing.
--     Whole, whole_prop       what `Tables` says
--     whole_of, tables_of     from it and back
use Rattle.std.specs.Prelude.{◌≡◌, refl, true, List, [], ◌∷◌, ℕ, suc, ◌+◌, ◌/◌, ◌%◌, ◌≤◌, ◌<◌, length, get_or, map}
use Rattle.std.proofs.Common.{sym, subst, arith, lit<}
use denote.Struct.Props.{props}
use Rattle.general_laws.specs.Lists.{every}
use Rattle.lifting.specs.Ast.{ControlInst, Value}
use Rattle.lifting.specs.Parts as text
use Rattle.func.specs.Layout.{ctrls, entries, entry_room, func_need, nodes, ops, regions, values}
use Rattle.func.specs.Store.{count, view}
use Rattle.func.specs.Lines.{Cell, CellIs, Row, RowsEach, more, none, num, pool_slice, run}
use Rattle.func.specs.Keep.{ctrl_cells, entry_cells, node_cells, op_cells, region_cells, value_words}
use Rattle.func.specs.Decode.{func_of}
use Rattle.func.specs.Back.{CtrlRow, Fit, first_fits}
use Rattle.func.specs.Tables.{Tables}
use Rattle.func.proofs.Lines.{each_length, rows_each_at}

-- ---- rows and lines, one for one

pub record RowsAt {A : Type 0} (P : List ℕ → A → Type 0) (es : List (List ℕ)) (xs : List A) : Type 0 where
  pub count : length es ≡ length xs
  pub row : (i : ℕ) (d : A) → i < length xs → P (get_or es i []) (get_or xs i d)

rows_at : {A : Type 0} {P : List ℕ → A → Type 0} {es : List (List ℕ)} {xs : List A} → RowsEach P es xs → RowsAt P es xs
rows_at r = record { count = each_length r; row = λ i d h. rows_each_at r i d h }

rows_from : {A : Type 0} {P : List ℕ → A → Type 0} (es : List (List ℕ)) (xs : List A) → RowsAt P es xs → RowsEach P es xs
rows_from [] [] r = none
rows_from [] (x ∷ xs) r = absurd (omega (arith, r.count))
rows_from (e ∷ es) [] r = absurd (omega (arith, r.count))
rows_from (e ∷ es) (x ∷ xs) r = more (r.row 0 x (omega arith)) (rows_from es xs (record { count = omega (arith, r.count); row = λ i d h. r.row (suc i) d (omega arith) }))

rows_map : {A : Type 0} {P Q : List ℕ → A → Type 0} {es : List (List ℕ)} {xs : List A} → ((e : List ℕ) (a : A) → P e a → Q e a) → RowsAt P es xs → RowsAt Q es xs
rows_map f r = record { count = r.count; row = λ i d h. f _ _ (r.row i d h) }

-- ---- a row, and that of a ctrl line: the rows of its entries are the run that its last word names

cell_prop : (w : List ℕ) (x : ℕ) (c : Cell) → IsProp (CellIs w x c)
cell_prop w x (num n) = hlevel props
cell_prop w x (run p es) = hlevel props

pub record CtrlRowAt (w e : List ℕ) (c : ℕ × ControlInst) : Type 0 where
  pub cells : Row w e (ctrl_cells c)
  pub within : get_or e 7 0 / 4096 + get_or e 7 0 % 4096 ≤ count entries w
  pub vals : RowsAt (λ l v. Row w l (entry_cells v)) (pool_slice entries w (get_or e 7 0)) c.1.vals

module _ {w : List ℕ} (f : count entries w ≤ entry_room entries) (e : List ℕ) (c : ℕ × ControlInst) where
  ctrl_at : CtrlRow w e c → CtrlRowAt w e c
  ctrl_at k = record {
    cells = k.cells;
    within = (k.piece f).within;
    vals = rows_at (subst (λ (rs : List (List ℕ)). RowsEach (λ l (v : ℕ × List Value). Row w l (entry_cells v)) rs c.1.vals) (sym (k.piece f).is) k.vals);
  }

  ctrl_from : CtrlRowAt w e c → CtrlRow w e c
  ctrl_from k = record {
    cells = k.cells;
    rows = pool_slice entries w (get_or e 7 0);
    piece = λ h. record { within = k.within; is = refl };
    vals = rows_from _ _ k.vals;
  }

-- ---- the whole function

pub record Whole (w : List ℕ) : Type 0 where
  pub size : func_need ≤ length w
  pub counts : Fit w
  pub regions : RowsAt (λ e r. Row w e (region_cells r)) (view regions w) (func_of w).regions
  pub nodes : RowsAt (λ e n. Row w e (node_cells n)) (view nodes w) (func_of w).nodes
  pub ops : RowsAt (λ e o. Row w e (op_cells o)) (view ops w) (func_of w).ops
  pub ctrls : RowsAt (CtrlRowAt w) (view ctrls w) (func_of w).ctrls
  pub firsts : every first_fits (text.values (func_of w)) ≡ true
  pub pool : view values w ≡ map value_words (text.values (func_of w))

pub whole_prop : (w : List ℕ) → IsProp (Whole w)
whole_prop w = hlevel (props, cell_prop)

pub whole_of : {w : List ℕ} → Tables w → Whole w
whole_of t = record {
  size = t.size;
  counts = t.counts;
  regions = rows_at (t.rows.regions (t.counts _ (lit< tt)));
  nodes = rows_at (t.rows.nodes (t.counts _ (lit< tt)));
  ops = rows_at (t.rows.ops (t.counts _ (lit< tt)));
  ctrls = rows_map (ctrl_at (t.counts entries (lit< tt))) (rows_at (t.rows.ctrls (t.counts _ (lit< tt))));
  firsts = t.firsts;
  pool = t.pool;
}

pub tables_of : {w : List ℕ} → Whole w → Tables w
tables_of k = record {
  size = k.size;
  counts = k.counts;
  rows = record {
    regions = λ h. rows_from _ _ k.regions;
    nodes = λ h. rows_from _ _ k.nodes;
    ops = λ h. rows_from _ _ k.ops;
    ctrls = λ h. rows_from _ _ (rows_map (ctrl_from (k.counts entries (lit< tt))) k.ctrls);
  };
  firsts = k.firsts;
  pool = k.pool;
}
