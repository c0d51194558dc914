-- By the kind of the element: it is read, and then stored.
use Rattle.read_lines.specs.Stores.{stores_none, stored_one}
use Rattle.read_lines.specs.Elements.{element_missed, element_stored}
use Rattle.read_lines.proofs.elements.element.Goals as goal

pub returns-in_err-n-in-Number-clause-stores : goal.returns-in_err-n-in-Number-clause-stores
returns-in_err-n-in-Number-clause-stores c = stores_none _ _ _ c.from_residual.ensures (element_missed c.in-Number.is c.in_err-n-in-Number.ensures)

pub returns-in_default-clause-stores : goal.returns-in_default-clause-stores
returns-in_default-clause-stores c = element_missed c.in-Value.is c.in_default.ensures

pub returns-in_err-attrs-in-Decl-clause-stores : goal.returns-in_err-attrs-in-Decl-clause-stores
returns-in_err-attrs-in-Decl-clause-stores c = stores_none _ _ _ c.from_residual-in_err-attrs-in-Decl.ensures (element_missed c.in-Decl.is c.in_err-attrs-in-Decl.ensures)

pub returns-in_err-kind-in-Imm-clause-stores : goal.returns-in_err-kind-in-Imm-clause-stores
returns-in_err-kind-in-Imm-clause-stores c = stores_none _ _ _ c.from_residual-in_err-kind-in-Imm.ensures (element_missed c.in-Imm.is c.in_err-kind-in-Imm.ensures)

pub returns-in_ok-n-in-Number-clause-stores : goal.returns-in_ok-n-in-Number-clause-stores
returns-in_ok-n-in-Number-clause-stores c = element_stored c.in-Number.is (stored_one c.in_ok-n-in-Number.ensures c.keep_number.ensures.func_after)

pub returns-in-Some-clause-stores : goal.returns-in-Some-clause-stores
returns-in-Some-clause-stores c = element_stored c.in-Value.is (stored_one c.in-Some.ensures c.keep_value.ensures.func_after)

pub returns-in_ok-attrs-in-Decl-clause-stores : goal.returns-in_ok-attrs-in-Decl-clause-stores
returns-in_ok-attrs-in-Decl-clause-stores c = element_stored c.in-Decl.is (stored_one c.in_ok-attrs-in-Decl.ensures c.keep_pair.ensures.func_after)

pub returns-in_ok-kind-in-Imm-clause-stores : goal.returns-in_ok-kind-in-Imm-clause-stores
returns-in_ok-kind-in-Imm-clause-stores c = element_stored c.in-Imm.is (stored_one c.in_ok-kind-in-Imm.ensures c.keep_imm.ensures.func_after)
