-- The opcode, the immediates and the values are read one behind the other, and the row is that of the lists since the marks (`exit_stored`).
use Rattle.read_lines.specs.Rows.{exit_stored}
use Rattle.read_nodes.proofs.nodes.exit_line.Goals as goal

pub returns-clause-stores : goal.returns-clause-stores
returns-clause-stores c = exit_stored c.begin-marks.ensures c.in_ok-n.ensures c.in_ok-d.ensures.stores c.node_row.ensures.func_after
