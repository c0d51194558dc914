-- Word 0 of a node's row is the number of its kind (`node_number_is`), and from that number comes the kind (`node_kind_law`).
use mathlib.Core.Path.{ap, ◌∙◌}
use lib.Dec.{lit<}
use Rattle.lifting.specs.Parts.{node_of}
use Rattle.func.specs.Decode.{func_of}
use Rattle.func.specs.Kinds.{node_kind_from, node_kind_law}
use Rattle.func.proofs.Tables.{node_in_law, node_number_is}
use Rattle.func_look.proofs.Function.node_kind.Goals as goal

pub word-requires : goal.word-requires
word-requires c = record { within = node_in_law c.self.invariant c.args.n (rw (← c.self.view_is) at c.requires.n_in_bounds); j_bound = lit< tt }

pub returns : goal.returns
returns c = rw (← c.self.view_is) (c.from.ensures ∙ ap node_kind_from (c.word.ensures ∙ node_number_is c.self.invariant c.args.n (rw (← c.self.view_is) at c.requires.n_in_bounds)) ∙ node_kind_law (node_of (func_of c.self.inside.words.now) c.args.n))
