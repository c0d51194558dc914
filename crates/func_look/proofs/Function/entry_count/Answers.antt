-- The row of a ctrl line holds the run of its entries, whose length is how many there are (`entry_count`).
use mathlib.Core.Path.{◌∙◌}
use lib.Dec.{lit<}
use Rattle.func.proofs.Tables.{ctrl_in, entry_count}
use Rattle.func_look.proofs.Function.entry_count.Goals as goal

pub run_count-requires : goal.run_count-requires
run_count-requires c = record { within = ctrl_in c.self.invariant c.args.c (rw (← c.self.view_is) at c.requires.c_in_bounds); j_bound = lit< tt }

pub returns : goal.returns
returns c = rw (← c.self.view_is) (c.run_count.ensures ∙ entry_count c.self.invariant c.args.c (rw (← c.self.view_is) at c.requires.c_in_bounds))
