-- The row holds the run of the line's entries, an entry the run of its values (`entry_values`), and so far behind its start stands the value,
-- which its two words keep whole (`value_is`, `entry_kept`).
use mathlib.Core.Path.{◌∙◌}
use lib.Dec.{lit<}
use Rattle.lifting.specs.Ast.{const}
use Rattle.func.proofs.Tables.{ctrl_in, entry_few, entry_within, entry_values, entry_kept, item_low, item_in, value_is}
use Rattle.func_look.proofs.Function.entry_value.Goals as goal

pub run_at-at-requires : goal.run_at-at-requires
run_at-at-requires c = record { within = ctrl_in c.self.invariant c.args.c (rw (← c.self.view_is) at c.requires.c_in_bounds); j_bound = (lit< tt, entry_few c.self.invariant c.args.c (rw (← c.self.view_is) at c.requires.c_in_bounds) c.args.e (rw (← c.self.view_is) at c.requires.e_in_bounds)) }

pub run_at-requires : goal.run_at-requires
run_at-requires c = record { within = entry_within c.self.invariant c.args.c (rw (← c.self.view_is) at c.requires.c_in_bounds) c.args.e (rw (← c.self.view_is) at c.requires.e_in_bounds) c.run_at-at.ensures; j_bound = (lit< tt, item_low (entry_values c.self.invariant c.args.c (rw (← c.self.view_is) at c.requires.c_in_bounds) c.args.e (rw (← c.self.view_is) at c.requires.e_in_bounds) c.run_at-at.result c.run_at-at.ensures) c.args.i (rw (← c.self.view_is) at c.requires.i_in_bounds)) }

pub value-requires : goal.value-requires
value-requires c = item_in (entry_values c.self.invariant c.args.c (rw (← c.self.view_is) at c.requires.c_in_bounds) c.args.e (rw (← c.self.view_is) at c.requires.e_in_bounds) c.run_at-at.result c.run_at-at.ensures) c.args.i (rw (← c.self.view_is) at c.requires.i_in_bounds) c.run_at.ensures

pub returns : goal.returns
returns c = rw (← c.self.view_is) (c.value.ensures ∙ value_is (entry_values c.self.invariant c.args.c (rw (← c.self.view_is) at c.requires.c_in_bounds) c.args.e (rw (← c.self.view_is) at c.requires.e_in_bounds) c.run_at-at.result c.run_at-at.ensures) (entry_kept c.self.invariant c.args.c (rw (← c.self.view_is) at c.requires.c_in_bounds) c.args.e (rw (← c.self.view_is) at c.requires.e_in_bounds)) c.args.i (rw (← c.self.view_is) at c.requires.i_in_bounds) (const 0) c.run_at.ensures)
