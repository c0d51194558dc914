-- A list of values is counted where it stands, in a run, which is at most 4095 long (`list_total`).
use Rattle.std.proofs.Common.{subst, arith}
use Rattle.func.specs.Decode.{func_of}
use Rattle.func.proofs.Tables.{ctrl_ins, node_values_law, op_operands, region_outs}
use Rattle.emit_lists.specs.Named.{ValuesFit, values_of}
use Rattle.emit_lists.specs.Laws.{list_total}
use Rattle.emit_elements.proofs.value_count.Goals as goal

pub returns-in-Operands-clause-upper_bound : goal.returns-in-Operands-clause-upper_bound
returns-in-Operands-clause-upper_bound c = omega (arith, list_total (values_of (func_of c.args.func.now)) c.in-Operands.is (op_operands c.known.ensures c.in-Operands.o (subst (ValuesFit (func_of c.args.func.now)) c.in-Operands.is c.requires.values_fit)) c.operand_count.ensures)

pub returns-in-Ins-clause-upper_bound : goal.returns-in-Ins-clause-upper_bound
returns-in-Ins-clause-upper_bound c = omega (arith, list_total (values_of (func_of c.args.func.now)) c.in-Ins.is (ctrl_ins c.known.ensures c.in-Ins.c (subst (ValuesFit (func_of c.args.func.now)) c.in-Ins.is c.requires.values_fit)) c.ctrl_in_count.ensures)

pub returns-in-Node-clause-upper_bound : goal.returns-in-Node-clause-upper_bound
returns-in-Node-clause-upper_bound c = omega (arith, list_total (values_of (func_of c.args.func.now)) c.in-Node.is (node_values_law c.known.ensures c.in-Node.n (subst (ValuesFit (func_of c.args.func.now)) c.in-Node.is c.requires.values_fit)) c.node_value_count.ensures)

pub returns-in-Outs-clause-upper_bound : goal.returns-in-Outs-clause-upper_bound
returns-in-Outs-clause-upper_bound c = omega (arith, list_total (values_of (func_of c.args.func.now)) c.in-Outs.is (region_outs c.known.ensures c.in-Outs.r (subst (ValuesFit (func_of c.args.func.now)) c.in-Outs.is c.requires.values_fit)) c.region_out_count.ensures)
