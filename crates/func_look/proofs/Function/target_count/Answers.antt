-- The row holds the run of a ctrl line's targets (`ctrl_targets`), whose length is the list's (`list_count`).
use mathlib.Core.Path.{◌∙◌}
use lib.Dec.{lit<}
use Rattle.func.proofs.Tables.{ctrl_in, ctrl_targets, list_count}
use Rattle.func_look.proofs.Function.target_count.Goals as goal

pub run_count-requires : goal.run_count-requires
run_count-requires c = record { within = ctrl_in c.self.invariant c.args.c (rw (← c.self.view_is) at c.requires.c_in_bounds); j_bound = lit< tt }

pub returns : goal.returns
returns c = rw (← c.self.view_is) (c.run_count.ensures ∙ list_count (ctrl_targets c.self.invariant c.args.c (rw (← c.self.view_is) at c.requires.c_in_bounds)))
