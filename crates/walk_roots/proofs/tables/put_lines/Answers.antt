-- The loop's invariant: the table is that of the lines from the i-th on, and `once` says whether no region has two of them.
use borrow.Author.Tests.{not-true, not-false}
use Rattle.walk_roots.specs.Fill.{fill_put, fill_twice, fill_once}
use Rattle.walk_roots.proofs.tables.put_lines.Goals as goal

pub put_line-requires : goal.put_line-requires
put_line-requires c = fill_put c.loop-i.invariant c.loop-i-test.true c.ctrl_region-r.ensures

pub loop-i-preserved-then-not-put_line : goal.loop-i-preserved-then-not-put_line
loop-i-preserved-then-not-put_line c = fill_twice c.loop-i.invariant c.loop-i-test.true c.ctrl_region-r.ensures c.put_line.ensures.value (not-true c.put_line.result c.if-not-put_line.true-raw) c.put_line.ensures.work_after

pub loop-i-preserved : goal.loop-i-preserved
loop-i-preserved c = fill_once c.loop-i.invariant c.loop-i-test.true c.ctrl_region-r.ensures c.put_line.ensures.value (not-false c.put_line.result c.if-not-put_line.false-raw) c.put_line.ensures.work_after
