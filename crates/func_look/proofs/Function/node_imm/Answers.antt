-- The row holds the run of a node's immediates (`node_imms`), and so far behind its start stands the list's element (`item_is`).
use mathlib.Core.Path.{ap, ◌∙◌}
use lib.Dec.{lit<}
use Rattle.func.specs.Decode.{decode_imm}
use Rattle.func.proofs.Tables.{node_in_law, node_imms, item_low, item_in, item_is}
use Rattle.func_look.proofs.Function.node_imm.Goals as goal

pub run_at-requires : goal.run_at-requires
run_at-requires c = record { within = node_in_law c.self.invariant c.args.n (rw (← c.self.view_is) at c.requires.n_in_bounds); j_bound = (lit< tt, item_low (node_imms c.self.invariant c.args.n (rw (← c.self.view_is) at c.requires.n_in_bounds)) c.args.i (rw (← c.self.view_is) at c.requires.i_in_bounds)) }

pub imm-requires : goal.imm-requires
imm-requires c = item_in (node_imms c.self.invariant c.args.n (rw (← c.self.view_is) at c.requires.n_in_bounds)) c.args.i (rw (← c.self.view_is) at c.requires.i_in_bounds) c.run_at.ensures

pub returns : goal.returns
returns c = rw (← c.self.view_is) (c.imm.ensures ∙ ap decode_imm (item_is (node_imms c.self.invariant c.args.n (rw (← c.self.view_is) at c.requires.n_in_bounds)) c.args.i (rw (← c.self.view_is) at c.requires.i_in_bounds) _ c.run_at.ensures))
