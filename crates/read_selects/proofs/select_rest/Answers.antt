-- By `bool` the lists follow at once (`bool_lists`); by an INST its immediates stand before them (`inst_lists`, `inst_missed`).
use Rattle.read_lines.specs.Stores.{stores_none}
use Rattle.read_lines.specs.Rows.{bool_lists, inst_lists, inst_missed}
use Rattle.read_selects.proofs.select_rest.Goals as goal

pub returns-in-Bool-clause-stores : goal.returns-in-Bool-clause-stores
returns-in-Bool-clause-stores c = bool_lists _ c.select_lists.result _ _ c.in-Bool.is c.select_lists.ensures.stores

pub returns-in_err-c-in-Inst-clause-stores : goal.returns-in_err-c-in-Inst-clause-stores
returns-in_err-c-in-Inst-clause-stores c = stores_none _ _ _ c.from_residual.ensures (inst_missed _ c.in-Inst.is c.in_err-c-in-Inst.ensures.stores)

pub returns-in_ok-c-in-Inst-clause-stores : goal.returns-in_ok-c-in-Inst-clause-stores
returns-in_ok-c-in-Inst-clause-stores c = inst_lists _ c.in-Inst.is c.select_lists-in-Inst.result _ c.in_ok-c-in-Inst.ensures.stores c.select_lists-in-Inst.ensures.stores
