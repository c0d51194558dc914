-- The kind tells what is left: an INST has immediates before its operands (`inst_op`), a call and an extended instruction have operands alone
-- (`call_op`, `ext_op`).
use Rattle.read_lines.specs.Rows.{call_op, ext_op, inst_op}
use Rattle.read_nodes.proofs.ops.op_rest.Goals as goal

pub returns-in-Inst-clause-stores : goal.returns-in-Inst-clause-stores
returns-in-Inst-clause-stores c = inst_op _ _ _ c.inst_values.result _ _ c.in-Inst.is c.inst_values.ensures.stores

pub returns-in-Call-clause-stores : goal.returns-in-Call-clause-stores
returns-in-Call-clause-stores c = call_op _ _ _ c.values_end.result _ _ c.in-Call.is c.values_end.ensures.stores

pub returns-in-Ext-clause-stores : goal.returns-in-Ext-clause-stores
returns-in-Ext-clause-stores c = ext_op _ _ _ c.values_end-in-Ext.result _ _ c.in-Ext.is c.values_end-in-Ext.ensures.stores
