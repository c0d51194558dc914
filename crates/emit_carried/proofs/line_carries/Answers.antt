-- A line without entries carries no values of its own (`no_entries`), and any other carries those of its entries (`entries_carried`).
use mathlib.Core.Path.{◌∙◌}
use Rattle.func.specs.Decode.{func_of}
use Rattle.emit_lists.specs.Edges.{entries_carried}
use Rattle.emit_carried.proofs.line_carries.Goals as goal

pub returns : goal.returns
returns c = entries_carried (func_of c.args.func.now) c.requires.c_in_bounds (λ e. c.if-entry_count-eq0.false (c.entry_count.ensures ∙ e))
