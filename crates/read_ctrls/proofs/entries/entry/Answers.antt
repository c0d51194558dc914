-- An entry is a space, a region behind its bracket and its values, read one behind the other; the row, the mark and the judgement are then of
-- what was read (`entry_stored`).
use Rattle.read_ctrls.proofs.Laws.{stores_no, entry_unopened, entry_unnamed, entry_missed, entry_stored}
use Rattle.read_ctrls.proofs.entries.entry.Goals as goal

pub returns-in_err-b-clause-stores : goal.returns-in_err-b-clause-stores
returns-in_err-b-clause-stores c = stores_no _ _ _ c.from_residual.ensures (entry_unopened c.in_err-b.ensures)

pub returns-in_err-r-clause-stores : goal.returns-in_err-r-clause-stores
returns-in_err-r-clause-stores c = stores_no _ _ _ c.from_residual-in_err-r.ensures (entry_unnamed c.in_ok-b.ensures c.in_err-r.ensures)

pub returns-in_err-d-clause-stores : goal.returns-in_err-d-clause-stores
returns-in_err-d-clause-stores c = stores_no _ _ _ c.from_residual-in_err-d.ensures (entry_missed c.in_ok-b.ensures c.in_ok-r.ensures c.in_err-d.ensures.stores)

pub returns-clause-stores : goal.returns-clause-stores
returns-clause-stores c = entry_stored c.in_ok-b.ensures c.in_ok-r.ensures c.args.line c.in_ok-d.ensures.stores c.begin-marks.ensures c.entry_end.ensures.value c.entry_end.ensures.func_after c.entry_end.ensures.work_after
