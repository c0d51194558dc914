-- A list of immediates is counted where it stands, in a run, which is at most 4095 long (`list_total`).
use Rattle.std.proofs.Common.{subst, arith}
use Rattle.func.specs.Decode.{func_of}
use Rattle.func.proofs.Tables.{ctrl_imms, node_imms, op_imms_law}
use Rattle.emit_lists.specs.Named.{ImmsFit, listed_imms}
use Rattle.emit_lists.specs.Laws.{list_total}
use Rattle.emit_elements.proofs.imm_count.Goals as goal

pub returns-in-Node-clause-upper_bound : goal.returns-in-Node-clause-upper_bound
returns-in-Node-clause-upper_bound c = omega (arith, list_total (listed_imms (func_of c.args.func.now)) c.in-Node.is (node_imms c.known.ensures c.in-Node.n (subst (ImmsFit (func_of c.args.func.now)) c.in-Node.is c.requires.imms_fit)) c.node_imm_count.ensures)

pub returns-in-Op-clause-upper_bound : goal.returns-in-Op-clause-upper_bound
returns-in-Op-clause-upper_bound c = omega (arith, list_total (listed_imms (func_of c.args.func.now)) c.in-Op.is (op_imms_law c.known.ensures c.in-Op.o (subst (ImmsFit (func_of c.args.func.now)) c.in-Op.is c.requires.imms_fit)) c.op_imm_count.ensures)

pub returns-in-Ctrl-clause-upper_bound : goal.returns-in-Ctrl-clause-upper_bound
returns-in-Ctrl-clause-upper_bound c = omega (arith, list_total (listed_imms (func_of c.args.func.now)) c.in-Ctrl.is (ctrl_imms c.known.ensures c.in-Ctrl.c (subst (ImmsFit (func_of c.args.func.now)) c.in-Ctrl.is c.requires.imms_fit)) c.ctrl_imm_count.ensures)
