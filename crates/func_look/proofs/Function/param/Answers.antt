-- A parameter's entry is its attributes and its type (`param_row`).
use mathlib.Core.Path.{sym, ◌∙◌}
use lib.Dec.{lit<}
use Rattle.func.specs.Kinds.{decl_from}
use Rattle.func.proofs.Tables.{param_in_law, param_row}
use Rattle.func_look.proofs.Function.param.Goals as goal

pub word-requires : goal.word-requires
word-requires c = record { within = param_in_law c.self.invariant c.args.i (rw (← c.self.view_is) at c.requires); j_bound = lit< tt }

pub word-requires-2 : goal.word-requires-2
word-requires-2 c = record { within = param_in_law c.self.invariant c.args.i (rw (← c.self.view_is) at c.requires); j_bound = lit< tt }

pub returns : goal.returns
returns c = rw (← c.self.view_is) ((λ i. decl_from (c.word.ensures i) (c.word-2.ensures i)) ∙ sym (param_row c.self.invariant c.args.i))
