-- The roots outlast the table of parents, both tables outlast the points, and no other word is written.
use mathlib.Core.Path.{◌∙◌}
use native.Mathlib.Omega.{arith}
use Rattle.walk_points.proofs.Roots.{roots_kept, tables_end_law}
use Rattle.walk_points.proofs.walk.Goals as goal

pub walk_roots-requires-clause-n_value : goal.walk_roots-requires-clause-n_value
walk_roots-requires-clause-n_value c = (roots_kept c.reached-n.result c.parents.ensures.aside (omega (arith, c.reached-n.ensures.upper_bound, c.requires.walkable.named.few)) ∙ c.reached-n.ensures.result_after, c.reached-n.ensures.upper_bound)

pub returns : goal.returns
returns c =
    let e = tables_end_law c.known.ensures c.requires.walkable (omega (arith, c.requires.work_need_in_bounds, c.reached-n.ensures.work_len_unchanged, c.parents.ensures.work_len_unchanged)) c.walk_roots.ensures.walked c.parents.ensures.parents c.parents.ensures.aside c.reached-n.ensures.indexed c.reached-n.ensures.aside in
    record { value = e.count; result_after = e.points; upper_bound = e.most; parents = e.parents; indexed = e.lines; walk_words = e.words; work_len_unchanged = c.walk_roots.ensures.work_len_unchanged ∙ c.parents.ensures.work_len_unchanged ∙ c.reached-n.ensures.work_len_unchanged }
