-- The row holds the run of a node's values (`node_values_law`), and so far behind its start stands the value, which its two words keep whole
-- (`value_is`, `node_kept`).
use mathlib.Core.Path.{◌∙◌}
use lib.Dec.{lit<}
use Rattle.lifting.specs.Ast.{const}
use Rattle.func.proofs.Tables.{node_in_law, node_values_law, item_low, item_in, value_is, node_kept}
use Rattle.func_look.proofs.Function.node_value.Goals as goal

pub run_at-requires : goal.run_at-requires
run_at-requires c = record { within = node_in_law c.self.invariant c.args.n (rw (← c.self.view_is) at c.requires.n_in_bounds); j_bound = (lit< tt, item_low (node_values_law c.self.invariant c.args.n (rw (← c.self.view_is) at c.requires.n_in_bounds)) c.args.i (rw (← c.self.view_is) at c.requires.i_in_bounds)) }

pub value-requires : goal.value-requires
value-requires c = item_in (node_values_law c.self.invariant c.args.n (rw (← c.self.view_is) at c.requires.n_in_bounds)) c.args.i (rw (← c.self.view_is) at c.requires.i_in_bounds) c.run_at.ensures

pub returns : goal.returns
returns c = rw (← c.self.view_is) (c.value.ensures ∙ value_is (node_values_law c.self.invariant c.args.n (rw (← c.self.view_is) at c.requires.n_in_bounds)) (node_kept c.self.invariant c.args.n (rw (← c.self.view_is) at c.requires.n_in_bounds)) c.args.i (rw (← c.self.view_is) at c.requires.i_in_bounds) (const 0) c.run_at.ensures)
