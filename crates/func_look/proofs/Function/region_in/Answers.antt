-- The row holds the run of a region's inputs (`region_ins`), and so far behind its start stands the list's element (`item_is`).
use mathlib.Core.Path.{ap, ◌∙◌}
use lib.Dec.{lit<}
use Rattle.func.specs.Decode.{decode_decl}
use Rattle.func.proofs.Tables.{region_in, region_ins, item_low, item_in, item_is}
use Rattle.func_look.proofs.Function.region_in.Goals as goal

pub run_at-requires : goal.run_at-requires
run_at-requires c = record { within = region_in c.self.invariant c.args.r (rw (← c.self.view_is) at c.requires.r_in_bounds); j_bound = (lit< tt, item_low (region_ins c.self.invariant c.args.r (rw (← c.self.view_is) at c.requires.r_in_bounds)) c.args.i (rw (← c.self.view_is) at c.requires.i_in_bounds)) }

pub decl-requires : goal.decl-requires
decl-requires c = item_in (region_ins c.self.invariant c.args.r (rw (← c.self.view_is) at c.requires.r_in_bounds)) c.args.i (rw (← c.self.view_is) at c.requires.i_in_bounds) c.run_at.ensures

pub returns : goal.returns
returns c = rw (← c.self.view_is) (c.decl.ensures ∙ ap decode_decl (item_is (region_ins c.self.invariant c.args.r (rw (← c.self.view_is) at c.requires.r_in_bounds)) c.args.i (rw (← c.self.view_is) at c.requires.i_in_bounds) _ c.run_at.ensures))
