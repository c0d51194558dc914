-- The pool of ops is within its room, so that its count is how many ops the function has (`op_total`).
use mathlib.Core.Path.{sym, ◌∙◌}
use Rattle.func.proofs.Tables.{op_total}
use Rattle.func_look.proofs.Function.op_total.Goals as goal

pub count-requires : goal.count-requires
count-requires c = c.self.invariant.size

pub returns : goal.returns
returns c = rw (← c.self.view_is) (c.count.ensures ∙ sym (op_total c.self.invariant))
