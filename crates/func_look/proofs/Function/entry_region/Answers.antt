-- The row holds the run of the line's entries (`entry_within`), and the first word of an entry is its region (`entry_region_is`).
use mathlib.Core.Path.{◌∙◌}
use lib.Dec.{lit<}
use Rattle.func.proofs.Tables.{ctrl_in, entry_few, entry_within, entry_region_is}
use Rattle.func_look.proofs.Function.entry_region.Goals as goal

pub run_at-requires : goal.run_at-requires
run_at-requires c = record { within = ctrl_in c.self.invariant c.args.c (rw (← c.self.view_is) at c.requires.c_in_bounds); j_bound = (lit< tt, entry_few c.self.invariant c.args.c (rw (← c.self.view_is) at c.requires.c_in_bounds) c.args.e (rw (← c.self.view_is) at c.requires.e_in_bounds)) }

pub word-requires : goal.word-requires
word-requires c = record { within = entry_within c.self.invariant c.args.c (rw (← c.self.view_is) at c.requires.c_in_bounds) c.args.e (rw (← c.self.view_is) at c.requires.e_in_bounds) c.run_at.ensures; j_bound = lit< tt }

pub returns : goal.returns
returns c = rw (← c.self.view_is) (c.word.ensures ∙ entry_region_is c.self.invariant c.args.c (rw (← c.self.view_is) at c.requires.c_in_bounds) c.args.e (rw (← c.self.view_is) at c.requires.e_in_bounds) c.run_at.result c.run_at.ensures)
