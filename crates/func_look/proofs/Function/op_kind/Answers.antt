-- Words 2 to 4 of an op's row are the number of its kind and the two numbers behind it (`op_words_are`), and from them comes the kind
-- (`op_kind_law`).
use mathlib.Core.Path.{◌∙◌}
use lib.Dec.{lit<}
use Rattle.lifting.specs.Parts.{op_of}
use Rattle.func.specs.Decode.{func_of}
use Rattle.func.specs.Kinds.{op_kind_from, op_kind_law}
use Rattle.func.proofs.Tables.{op_in_law, op_words_are}
use Rattle.func_look.proofs.Function.op_kind.Goals as goal

pub word-requires : goal.word-requires
word-requires c = record { within = op_in_law c.self.invariant c.args.o (rw (← c.self.view_is) at c.requires.o_in_bounds); j_bound = lit< tt }

pub word-requires-2 : goal.word-requires-2
word-requires-2 c = record { within = op_in_law c.self.invariant c.args.o (rw (← c.self.view_is) at c.requires.o_in_bounds); j_bound = lit< tt }

pub word-requires-3 : goal.word-requires-3
word-requires-3 c = record { within = op_in_law c.self.invariant c.args.o (rw (← c.self.view_is) at c.requires.o_in_bounds); j_bound = lit< tt }

pub returns : goal.returns
returns c = rw (← c.self.view_is) (let k = c.word.ensures ∙ op_words_are c.self.invariant c.args.o (rw (← c.self.view_is) at c.requires.o_in_bounds) 2 (lit< tt) in
    let m = c.word-2.ensures ∙ op_words_are c.self.invariant c.args.o (rw (← c.self.view_is) at c.requires.o_in_bounds) 3 (lit< tt) in
    let n = c.word-3.ensures ∙ op_words_are c.self.invariant c.args.o (rw (← c.self.view_is) at c.requires.o_in_bounds) 4 (lit< tt) in
    c.from_words.ensures ∙ (λ i. op_kind_from (k i) (m i) (n i)) ∙ op_kind_law (op_of (func_of c.self.inside.words.now) c.args.o).kind)
