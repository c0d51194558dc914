-- The row holds the run of an op's immediates (`op_imms_law`), and so far behind its start stands the list's element (`item_is`).
use mathlib.Core.Path.{ap, ◌∙◌}
use lib.Dec.{lit<}
use Rattle.func.specs.Decode.{decode_imm}
use Rattle.func.proofs.Tables.{op_in_law, op_imms_law, item_low, item_in, item_is}
use Rattle.func_look.proofs.Function.op_imm.Goals as goal

pub run_at-requires : goal.run_at-requires
run_at-requires c = record { within = op_in_law c.self.invariant c.args.o (rw (← c.self.view_is) at c.requires.o_in_bounds); j_bound = (lit< tt, item_low (op_imms_law c.self.invariant c.args.o (rw (← c.self.view_is) at c.requires.o_in_bounds)) c.args.i (rw (← c.self.view_is) at c.requires.i_in_bounds)) }

pub imm-requires : goal.imm-requires
imm-requires c = item_in (op_imms_law c.self.invariant c.args.o (rw (← c.self.view_is) at c.requires.o_in_bounds)) c.args.i (rw (← c.self.view_is) at c.requires.i_in_bounds) c.run_at.ensures

pub returns : goal.returns
returns c = rw (← c.self.view_is) (c.imm.ensures ∙ ap decode_imm (item_is (op_imms_law c.self.invariant c.args.o (rw (← c.self.view_is) at c.requires.o_in_bounds)) c.args.i (rw (← c.self.view_is) at c.requires.i_in_bounds) _ c.run_at.ensures))
