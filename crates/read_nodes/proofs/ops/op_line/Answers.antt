-- The rest of the line is read behind the head, and the row is that of the lists since the marks (`op_stored`).
use Rattle.read_lines.specs.Rows.{op_stored}
use Rattle.read_nodes.proofs.ops.op_line.Goals as goal

pub returns-clause-stores : goal.returns-clause-stores
returns-clause-stores c = op_stored c.begin-marks.ensures _ _ c.args.op.kind c.in_ok-c.ensures.stores c.op_row.ensures.func_after
