-- The row holds the run of an op's operands (`op_operands`), and so far behind its start stands the value, which its two words keep whole
-- (`value_is`, `op_kept`).
use mathlib.Core.Path.{◌∙◌}
use lib.Dec.{lit<}
use Rattle.lifting.specs.Ast.{const}
use Rattle.func.proofs.Tables.{op_in_law, op_operands, item_low, item_in, value_is, op_kept}
use Rattle.func_look.proofs.Function.operand.Goals as goal

pub run_at-requires : goal.run_at-requires
run_at-requires c = record { within = op_in_law c.self.invariant c.args.o (rw (← c.self.view_is) at c.requires.o_in_bounds); j_bound = (lit< tt, item_low (op_operands c.self.invariant c.args.o (rw (← c.self.view_is) at c.requires.o_in_bounds)) c.args.i (rw (← c.self.view_is) at c.requires.i_in_bounds)) }

pub value-requires : goal.value-requires
value-requires c = item_in (op_operands c.self.invariant c.args.o (rw (← c.self.view_is) at c.requires.o_in_bounds)) c.args.i (rw (← c.self.view_is) at c.requires.i_in_bounds) c.run_at.ensures

pub returns : goal.returns
returns c = rw (← c.self.view_is) (c.value.ensures ∙ value_is (op_operands c.self.invariant c.args.o (rw (← c.self.view_is) at c.requires.o_in_bounds)) (op_kept c.self.invariant c.args.o (rw (← c.self.view_is) at c.requires.o_in_bounds)) c.args.i (rw (← c.self.view_is) at c.requires.i_in_bounds) (const 0) c.run_at.ensures)
