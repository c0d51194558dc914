-- The body's number, the values and the control number are read one behind the other; the child is stored behind them, and the row is that of the
-- lists since the marks (`loop_stored`).
use Rattle.lifting.specs.Grammar.{field}
use Rattle.read_lines.specs.Stores.{head_missed, stores_none}
use Rattle.read_lines.specs.Tails.{controlled, loop_rest}
use Rattle.read_lines.specs.Rows.{loop_missed, loop_open, loop_stored}
use Rattle.read_nodes.proofs.nodes.loop_line.Goals as goal

pub returns-in_err-r-clause-stores : goal.returns-in_err-r-clause-stores
returns-in_err-r-clause-stores c = stores_none _ _ _ c.from_residual.ensures (head_missed field.read (λ r t. controlled (loop_rest r t)) c.in_err-r.ensures)

pub returns-in_err-d-clause-stores : goal.returns-in_err-d-clause-stores
returns-in_err-d-clause-stores c = stores_none _ _ _ c.from_residual-in_err-d.ensures (loop_missed c.in_ok-r.ensures c.in_err-d.ensures.stores)

pub returns-in_err-u-clause-stores : goal.returns-in_err-u-clause-stores
returns-in_err-u-clause-stores c = stores_none _ _ _ c.from_residual-in_err-u.ensures (loop_open c.in_ok-r.ensures c.in_ok-d.ensures.stores c.in_err-u.ensures)

pub returns-clause-stores : goal.returns-clause-stores
returns-clause-stores c = loop_stored c.begin-marks.ensures c.in_ok-r.ensures c.in_ok-d.ensures.stores c.in_ok-u.ensures c.keep_number.ensures.func_after c.node_row.ensures.func_after
