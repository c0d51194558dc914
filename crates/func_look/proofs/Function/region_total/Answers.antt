-- The pool of regions is within its room, so that its count is how many regions the function has (`region_total`).
use mathlib.Core.Path.{sym, ◌∙◌}
use Rattle.func.proofs.Tables.{region_total}
use Rattle.func_look.proofs.Function.region_total.Goals as goal

pub count-requires : goal.count-requires
count-requires c = c.self.invariant.size

pub returns : goal.returns
returns c = rw (← c.self.view_is) (c.count.ensures ∙ sym (region_total c.self.invariant))
