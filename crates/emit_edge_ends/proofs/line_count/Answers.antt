-- A line with entries has an edge for each of them (`line_some`); one without has an edge just where it has a single target (`line_none`).
use mathlib.Core.Path.{◌∙◌}
use Rattle.func.specs.Decode.{func_of}
use Rattle.func.specs.Tables.{ctrl_line_of}
use Rattle.emit_edge_ends.proofs.Ways.{line_some}
use Rattle.emit_edge_ends.proofs.line_count.Goals as goal

pub returns-then-n-ne0 : goal.returns-then-n-ne0
returns-then-n-ne0 c =
    let l = (ctrl_line_of (func_of c.args.func.now) c.args.c).1 in
    c.entry_count-n.ensures ∙ line_some l (λ e. c.if-n-ne0.true (c.entry_count-n.ensures ∙ e))
