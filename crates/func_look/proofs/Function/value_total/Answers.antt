-- The pool of values is within its room, so that its count is how many there are (`value_count`).
use mathlib.Core.Path.{◌∙◌}
use Rattle.func.proofs.Tables.{value_count}
use Rattle.func_look.proofs.Function.value_total.Goals as goal

pub count-requires : goal.count-requires
count-requires c = c.self.invariant.size

pub returns : goal.returns
returns c = rw (← c.self.view_is) (c.count.ensures ∙ value_count c.self.invariant)
