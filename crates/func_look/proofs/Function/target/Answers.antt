-- The row holds the run of a ctrl line's targets (`ctrl_targets`), and so far behind its start stands the list's element (`item_is`).
use mathlib.Core.Path.{ap, ◌∙◌}
use lib.Dec.{lit<}
use Rattle.func.specs.Decode.{decode_number}
use Rattle.func.proofs.Tables.{ctrl_in, ctrl_targets, item_low, item_in, item_is}
use Rattle.func_look.proofs.Function.target.Goals as goal

pub run_at-requires : goal.run_at-requires
run_at-requires c = record { within = ctrl_in c.self.invariant c.args.c (rw (← c.self.view_is) at c.requires.c_in_bounds); j_bound = (lit< tt, item_low (ctrl_targets c.self.invariant c.args.c (rw (← c.self.view_is) at c.requires.c_in_bounds)) c.args.i (rw (← c.self.view_is) at c.requires.i_in_bounds)) }

pub reference-requires : goal.reference-requires
reference-requires c = item_in (ctrl_targets c.self.invariant c.args.c (rw (← c.self.view_is) at c.requires.c_in_bounds)) c.args.i (rw (← c.self.view_is) at c.requires.i_in_bounds) c.run_at.ensures

pub returns : goal.returns
returns c = rw (← c.self.view_is) (c.reference.ensures ∙ ap decode_number (item_is (ctrl_targets c.self.invariant c.args.c (rw (← c.self.view_is) at c.requires.c_in_bounds)) c.args.i (rw (← c.self.view_is) at c.requires.i_in_bounds) _ c.run_at.ensures))
