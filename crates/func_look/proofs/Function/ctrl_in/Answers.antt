-- The row holds the run of a ctrl line's inputs (`ctrl_ins`), and so far behind its start stands the value, which its two words keep whole
-- (`value_is`, `ins_kept`).
use mathlib.Core.Path.{◌∙◌}
use lib.Dec.{lit<}
use Rattle.lifting.specs.Ast.{const}
use Rattle.func.proofs.Tables.{ctrl_in, ctrl_ins, item_low, item_in, value_is, ins_kept}
use Rattle.func_look.proofs.Function.ctrl_in.Goals as goal

pub run_at-requires : goal.run_at-requires
run_at-requires c = record { within = ctrl_in c.self.invariant c.args.c (rw (← c.self.view_is) at c.requires.c_in_bounds); j_bound = (lit< tt, item_low (ctrl_ins c.self.invariant c.args.c (rw (← c.self.view_is) at c.requires.c_in_bounds)) c.args.i (rw (← c.self.view_is) at c.requires.i_in_bounds)) }

pub value-requires : goal.value-requires
value-requires c = item_in (ctrl_ins c.self.invariant c.args.c (rw (← c.self.view_is) at c.requires.c_in_bounds)) c.args.i (rw (← c.self.view_is) at c.requires.i_in_bounds) c.run_at.ensures

pub returns : goal.returns
returns c = rw (← c.self.view_is) (c.value.ensures ∙ value_is (ctrl_ins c.self.invariant c.args.c (rw (← c.self.view_is) at c.requires.c_in_bounds)) (ins_kept c.self.invariant c.args.c (rw (← c.self.view_is) at c.requires.c_in_bounds)) c.args.i (rw (← c.self.view_is) at c.requires.i_in_bounds) (const 0) c.run_at.ensures)
