-- The pool of parameters is within its room, so that its count is how many parameters the function has (`param_total`).
use mathlib.Core.Path.{sym, ◌∙◌}
use Rattle.func.proofs.Tables.{param_total}
use Rattle.func_look.proofs.Function.param_total.Goals as goal

pub count-requires : goal.count-requires
count-requires c = c.self.invariant.size

pub returns : goal.returns
returns c = rw (← c.self.view_is) (c.count.ensures ∙ sym (param_total c.self.invariant))
