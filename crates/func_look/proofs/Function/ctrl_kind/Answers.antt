-- Word 2 of a ctrl line's row is the number of its kind (`ctrl_words_are`), and from that number comes the kind (`ctrl_kind_law`).
use mathlib.Core.Path.{ap, ◌∙◌}
use lib.Dec.{lit<}
use Rattle.func.specs.Decode.{func_of}
use Rattle.func.specs.Kinds.{ctrl_kind_from, ctrl_kind_law}
use Rattle.func.specs.Tables.{ctrl_line_of}
use Rattle.func.proofs.Tables.{ctrl_in, ctrl_words_are}
use Rattle.func_look.proofs.Function.ctrl_kind.Goals as goal

pub word-requires : goal.word-requires
word-requires c = record { within = ctrl_in c.self.invariant c.args.c (rw (← c.self.view_is) at c.requires.c_in_bounds); j_bound = lit< tt }

pub returns : goal.returns
returns c = rw (← c.self.view_is) (c.from.ensures ∙ ap ctrl_kind_from (c.word.ensures ∙ ctrl_words_are c.self.invariant c.args.c (rw (← c.self.view_is) at c.requires.c_in_bounds) 2 (lit< tt)) ∙ ctrl_kind_law (ctrl_line_of (func_of c.self.inside.words.now) c.args.c).1.kind)
