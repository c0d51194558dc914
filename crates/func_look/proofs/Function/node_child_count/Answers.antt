-- The row holds the run of a node's children (`node_children`), whose length is the list's (`list_count`).
use mathlib.Core.Path.{◌∙◌}
use lib.Dec.{lit<}
use Rattle.func.proofs.Tables.{node_in_law, node_children, list_count}
use Rattle.func_look.proofs.Function.node_child_count.Goals as goal

pub run_count-requires : goal.run_count-requires
run_count-requires c = record { within = node_in_law c.self.invariant c.args.n (rw (← c.self.view_is) at c.requires.n_in_bounds); j_bound = lit< tt }

pub returns : goal.returns
returns c = rw (← c.self.view_is) (c.run_count.ensures ∙ list_count (node_children c.self.invariant c.args.n (rw (← c.self.view_is) at c.requires.n_in_bounds)))
