-- The row holds the run of a region's inputs (`region_ins`), whose length is the list's (`list_count`).
use mathlib.Core.Path.{◌∙◌}
use lib.Dec.{lit<}
use Rattle.func.proofs.Tables.{region_in, region_ins, list_count}
use Rattle.func_look.proofs.Function.region_in_count.Goals as goal

pub run_count-requires : goal.run_count-requires
run_count-requires c = record { within = region_in c.self.invariant c.args.r (rw (← c.self.view_is) at c.requires.r_in_bounds); j_bound = lit< tt }

pub returns : goal.returns
returns c = rw (← c.self.view_is) (c.run_count.ensures ∙ list_count (region_ins c.self.invariant c.args.r (rw (← c.self.view_is) at c.requires.r_in_bounds)))
