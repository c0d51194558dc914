-- The pool of nodes is within its room, so that its count is how many nodes the function has (`node_total`).
use mathlib.Core.Path.{sym, ◌∙◌}
use Rattle.func.proofs.Tables.{node_total}
use Rattle.func_look.proofs.Function.node_total.Goals as goal

pub count-requires : goal.count-requires
count-requires c = c.self.invariant.size

pub returns : goal.returns
returns c = rw (← c.self.view_is) (c.count.ensures ∙ sym (node_total c.self.invariant))
