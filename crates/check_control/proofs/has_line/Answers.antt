-- The word of a region in the table of ctrl lines is 0 just where it has none (`line_known`).
use mathlib.Core.Path.{sym}
use Rattle.walk_roots.specs.Tables.{line_known}
use Rattle.check_control.proofs.has_line.Goals as goal

pub returns : goal.returns
returns c = sym (line_known c.requires.indexed c.args.r c.requires.r_bound.0)
