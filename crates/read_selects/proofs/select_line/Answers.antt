-- K, the lists and the control number are read one behind the other, and the row is that of the lists since the marks (`select_stored`); where one
-- is missed the whole is.
use Rattle.read_insts.specs.Heads.{selection_head}
use Rattle.read_lines.specs.Stores.{head_missed, stores_none}
use Rattle.read_lines.specs.Tails.{controlled, select_rest}
use Rattle.read_lines.specs.Rows.{select_missed, select_open, select_stored}
use Rattle.read_selects.proofs.select_line.Goals as goal

pub returns-in_err-k-clause-stores : goal.returns-in_err-k-clause-stores
returns-in_err-k-clause-stores c = stores_none _ _ _ c.from_residual.ensures (head_missed selection_head.read (λ k t. controlled (select_rest k t)) c.in_err-k.ensures)

pub returns-in_err-d-clause-stores : goal.returns-in_err-d-clause-stores
returns-in_err-d-clause-stores c = stores_none _ _ _ c.from_residual-in_err-d.ensures (select_missed c.in_ok-k.ensures c.in_err-d.ensures.stores)

pub returns-in_err-u-clause-stores : goal.returns-in_err-u-clause-stores
returns-in_err-u-clause-stores c = stores_none _ _ _ c.from_residual-in_err-u.ensures (select_open c.in_ok-k.ensures c.in_ok-d.ensures.stores c.in_err-u.ensures)

pub returns-clause-stores : goal.returns-clause-stores
returns-clause-stores c = select_stored c.begin-marks.ensures c.in_ok-k.ensures c.in_ok-d.ensures.stores c.in_ok-u.ensures c.select_row.ensures.func_after
