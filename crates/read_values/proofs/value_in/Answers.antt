-- The words of a value are read from the start, and they must be the whole of the part: where nothing is left they are (`part_whole`), and else
-- the part is refused (`part_none`, `part_more`).
use Rattle.read_cursor.specs.Chains.{ended_next}
use Rattle.read_values.proofs.Values.{part_none, part_whole, part_more}
use Rattle.read_values.proofs.value_in.Goals as goal

pub returns-in_default : goal.returns-in_default
returns-in_default c = part_none c.in_default.ensures.denied

pub returns-then-end : goal.returns-then-end
returns-then-end c = part_whole c.in-Some.ensures.took c.if-end.true (ended_next _ c.in-Some.ensures c.end.ensures)

pub returns : goal.returns
returns c = part_more c.in-Some.ensures.took c.if-end.false (ended_next _ c.in-Some.ensures c.end.ensures)
