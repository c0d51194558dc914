-- The control number of a node is word 7 of its row (`node_control_is`).
use mathlib.Core.Path.{◌∙◌}
use lib.Dec.{lit<}
use Rattle.func.proofs.Tables.{node_in_law, node_control_is}
use Rattle.func_look.proofs.Function.node_control.Goals as goal

pub word-requires : goal.word-requires
word-requires c = record { within = node_in_law c.self.invariant c.args.n (rw (← c.self.view_is) at c.requires.n_in_bounds); j_bound = lit< tt }

pub returns : goal.returns
returns c = rw (← c.self.view_is) (c.word.ensures ∙ node_control_is c.self.invariant c.args.n (rw (← c.self.view_is) at c.requires.n_in_bounds))
