-- The pool of ctrl lines is within its room, so that its count is how many ctrl lines the function has (`ctrl_total`).
use mathlib.Core.Path.{sym, ◌∙◌}
use Rattle.func.proofs.Tables.{ctrl_total}
use Rattle.func_look.proofs.Function.ctrl_total.Goals as goal

pub count-requires : goal.count-requires
count-requires c = c.self.invariant.size

pub returns : goal.returns
returns c = rw (← c.self.view_is) (c.count.ensures ∙ sym (ctrl_total c.self.invariant))
