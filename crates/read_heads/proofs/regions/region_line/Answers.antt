-- The lists are read, and the row is that of the lists since the marks (`region_stored`).
use Rattle.read_lines.specs.Rows.{region_stored}
use Rattle.read_heads.proofs.regions.region_line.Goals as goal

pub returns-clause-stores : goal.returns-clause-stores
returns-clause-stores c = region_stored c.begin-marks.ensures c.in_ok-c.ensures.stores c.region_row.ensures.func_after
