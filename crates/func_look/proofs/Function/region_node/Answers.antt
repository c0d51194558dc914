-- The row holds the run of a region's nodes (`region_nodes`), and so far behind its start stands the list's element (`item_is`).
use mathlib.Core.Path.{ap, ◌∙◌}
use lib.Dec.{lit<}
use Rattle.func.specs.Decode.{decode_number}
use Rattle.func.proofs.Tables.{region_in, region_nodes, item_low, item_in, item_is}
use Rattle.func_look.proofs.Function.region_node.Goals as goal

pub run_at-requires : goal.run_at-requires
run_at-requires c = record { within = region_in c.self.invariant c.args.r (rw (← c.self.view_is) at c.requires.r_in_bounds); j_bound = (lit< tt, item_low (region_nodes c.self.invariant c.args.r (rw (← c.self.view_is) at c.requires.r_in_bounds)) c.args.i (rw (← c.self.view_is) at c.requires.i_in_bounds)) }

pub reference-requires : goal.reference-requires
reference-requires c = item_in (region_nodes c.self.invariant c.args.r (rw (← c.self.view_is) at c.requires.r_in_bounds)) c.args.i (rw (← c.self.view_is) at c.requires.i_in_bounds) c.run_at.ensures

pub returns : goal.returns
returns c = rw (← c.self.view_is) (c.reference.ensures ∙ ap decode_number (item_is (region_nodes c.self.invariant c.args.r (rw (← c.self.view_is) at c.requires.r_in_bounds)) c.args.i (rw (← c.self.view_is) at c.requires.i_in_bounds) _ c.run_at.ensures))
