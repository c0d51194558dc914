-- The row holds the run of a region's outputs (`region_outs`), and so far behind its start stands the value, which its two words keep whole
-- (`value_is`, `region_kept`).
use mathlib.Core.Path.{◌∙◌}
use lib.Dec.{lit<}
use Rattle.lifting.specs.Ast.{const}
use Rattle.func.proofs.Tables.{region_in, region_outs, item_low, item_in, value_is, region_kept}
use Rattle.func_look.proofs.Function.region_out.Goals as goal

pub run_at-requires : goal.run_at-requires
run_at-requires c = record { within = region_in c.self.invariant c.args.r (rw (← c.self.view_is) at c.requires.r_in_bounds); j_bound = (lit< tt, item_low (region_outs c.self.invariant c.args.r (rw (← c.self.view_is) at c.requires.r_in_bounds)) c.args.i (rw (← c.self.view_is) at c.requires.i_in_bounds)) }

pub value-requires : goal.value-requires
value-requires c = item_in (region_outs c.self.invariant c.args.r (rw (← c.self.view_is) at c.requires.r_in_bounds)) c.args.i (rw (← c.self.view_is) at c.requires.i_in_bounds) c.run_at.ensures

pub returns : goal.returns
returns c = rw (← c.self.view_is) (c.value.ensures ∙ value_is (region_outs c.self.invariant c.args.r (rw (← c.self.view_is) at c.requires.r_in_bounds)) (region_kept c.self.invariant c.args.r (rw (← c.self.view_is) at c.requires.r_in_bounds)) c.args.i (rw (← c.self.view_is) at c.requires.i_in_bounds) (const 0) c.run_at.ensures)
