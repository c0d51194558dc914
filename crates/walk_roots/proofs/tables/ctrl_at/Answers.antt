-- The word of a region in the table is 0 where it has no line, and else the line's number plus 1 (`line_is`).
use Rattle.std.proofs.Common.{refl}
use Rattle.walk_roots.specs.Tables.{line_is}
use Rattle.walk_roots.proofs.tables.ctrl_at.Goals as goal

pub returns : goal.returns
returns c F k = line_is k c.args.r c.requires.0 refl c.checked_sub.result c.checked_sub.ensures
