-- The opcode of the INST of a ctrl line is word 3 of its row (`ctrl_words_are`).
use mathlib.Core.Path.{◌∙◌}
use lib.Dec.{lit<}
use Rattle.func.proofs.Tables.{ctrl_in, ctrl_words_are}
use Rattle.func_look.proofs.Function.ctrl_opcode.Goals as goal

pub word-requires : goal.word-requires
word-requires c = record { within = ctrl_in c.self.invariant c.args.c (rw (← c.self.view_is) at c.requires.c_in_bounds); j_bound = lit< tt }

pub returns : goal.returns
returns c = rw (← c.self.view_is) (c.word.ensures ∙ ctrl_words_are c.self.invariant c.args.c (rw (← c.self.view_is) at c.requires.c_in_bounds) 3 (lit< tt))
