-- The pool of constants is within its room, so that its count is how many constants the function has (`const_total`).
use mathlib.Core.Path.{sym, ◌∙◌}
use Rattle.func.proofs.Tables.{const_total}
use Rattle.func_look.proofs.Function.const_total.Goals as goal

pub count-requires : goal.count-requires
count-requires c = c.self.invariant.size

pub returns : goal.returns
returns c = rw (← c.self.view_is) (c.count.ensures ∙ sym (const_total c.self.invariant))
