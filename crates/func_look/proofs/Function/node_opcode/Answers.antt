-- The opcode of a node's INST is word 1 of its row (`node_opcode_is`).
use mathlib.Core.Path.{◌∙◌}
use lib.Dec.{lit<}
use Rattle.func.proofs.Tables.{node_in_law, node_opcode_is}
use Rattle.func_look.proofs.Function.node_opcode.Goals as goal

pub word-requires : goal.word-requires
word-requires c = record { within = node_in_law c.self.invariant c.args.n (rw (← c.self.view_is) at c.requires.n_in_bounds); j_bound = lit< tt }

pub returns : goal.returns
returns c = rw (← c.self.view_is) (c.word.ensures ∙ node_opcode_is c.self.invariant c.args.n (rw (← c.self.view_is) at c.requires.n_in_bounds))
