-- The ops and the end of the line are read one behind the other, and the row is that of the lists since the marks (`block_stored`).
use Rattle.lifting.specs.Grammar.{numbers_codec}
use Rattle.read_lines.specs.Laws.{stored_ended}
use Rattle.read_lines.specs.Rows.{block_stored}
use Rattle.read_nodes.proofs.nodes.block_line.Goals as goal

pub returns-clause-stores : goal.returns-clause-stores
returns-clause-stores c = block_stored c.begin-marks.ensures (stored_ended numbers_codec c.in_ok-c.ensures.stores c.in_ok-d.ensures) c.node_row.ensures.func_after
