-- The first two words of an op's row are its attributes and its result's type (`op_words_are`).
use mathlib.Core.Path.{◌∙◌}
use lib.Dec.{lit<}
use Rattle.func.proofs.Tables.{op_in_law, op_words_are}
use Rattle.func_look.proofs.Function.op_slot.Goals as goal

pub word-requires : goal.word-requires
word-requires c = record { within = op_in_law c.self.invariant c.args.o (rw (← c.self.view_is) at c.requires); j_bound = lit< tt }

pub word-requires-2 : goal.word-requires-2
word-requires-2 c = record { within = op_in_law c.self.invariant c.args.o (rw (← c.self.view_is) at c.requires); j_bound = lit< tt }

pub returns : goal.returns
returns c = rw (← c.self.view_is) (record {
  attrs = c.word.ensures ∙ op_words_are c.self.invariant c.args.o (rw (← c.self.view_is) at c.requires) 0 (lit< tt);
  ty = c.word-2.ensures ∙ op_words_are c.self.invariant c.args.o (rw (← c.self.view_is) at c.requires) 1 (lit< tt);
})
