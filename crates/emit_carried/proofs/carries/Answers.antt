-- Each way out carries the values of its terminator: a ctrl line those of its entries, a way out of a region its outputs, and every other none of
-- its own (`none_carried`).
use Rattle.lifting.specs.Points.{node_entry, node_exit}
use Rattle.func.specs.Decode.{func_of}
use Rattle.emit_lists.specs.Edges.{carries_as}
use Rattle.emit_carried.proofs.carries.Goals as goal

pub returns-in-Join : goal.returns-in-Join
returns-in-Join c =
    let F = func_of c.args.func.now in
    carries_as F c.in-Join.is (c.outs_carry.ensures (node_exit c.in-Join.field-0))

pub returns-in-Repeat : goal.returns-in-Repeat
returns-in-Repeat c =
    let F = func_of c.args.func.now in
    carries_as F c.in-Repeat.is (c.outs_carry-in-Repeat.ensures (node_entry c.in-Repeat.field-0))

pub returns-in-Test : goal.returns-in-Test
returns-in-Test c =
    let F = func_of c.args.func.now in
    carries_as F c.in-Test.is (c.outs_carry-in-Test.ensures (node_entry c.in-Test.field-0))
