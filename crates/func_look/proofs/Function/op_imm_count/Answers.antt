-- The row holds the run of an op's immediates (`op_imms_law`), whose length is the list's (`list_count`).
use mathlib.Core.Path.{◌∙◌}
use lib.Dec.{lit<}
use Rattle.func.proofs.Tables.{op_in_law, op_imms_law, list_count}
use Rattle.func_look.proofs.Function.op_imm_count.Goals as goal

pub run_count-requires : goal.run_count-requires
run_count-requires c = record { within = op_in_law c.self.invariant c.args.o (rw (← c.self.view_is) at c.requires.o_in_bounds); j_bound = lit< tt }

pub returns : goal.returns
returns c = rw (← c.self.view_is) (c.run_count.ensures ∙ list_count (op_imms_law c.self.invariant c.args.o (rw (← c.self.view_is) at c.requires.o_in_bounds)))
