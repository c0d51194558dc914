-- The row holds the run of a ctrl line's immediates (`ctrl_imms`), whose length is the list's (`list_count`).
use mathlib.Core.Path.{◌∙◌}
use lib.Dec.{lit<}
use Rattle.func.proofs.Tables.{ctrl_in, ctrl_imms, list_count}
use Rattle.func_look.proofs.Function.ctrl_imm_count.Goals as goal

pub run_count-requires : goal.run_count-requires
run_count-requires c = record { within = ctrl_in c.self.invariant c.args.c (rw (← c.self.view_is) at c.requires.c_in_bounds); j_bound = lit< tt }

pub returns : goal.returns
returns c = rw (← c.self.view_is) (c.run_count.ensures ∙ list_count (ctrl_imms c.self.invariant c.args.c (rw (← c.self.view_is) at c.requires.c_in_bounds)))
