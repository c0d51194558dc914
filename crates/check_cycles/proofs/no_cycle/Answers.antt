-- The table holds for each region its parent, which is a region or none (`table_low`), so that there is no cycle in it just where there is none
-- among the regions (`table_acyclic`).
use mathlib.Core.Path.{ap, ◌∙◌}
use native.Mathlib.Omega.{arith}
use Rattle.check_marks.specs.Test.{parent_in, acyclic}
use Rattle.check_cycles.proofs.Laws.{table_low, table_acyclic}
use Rattle.check_cycles.proofs.no_cycle.Goals as goal

pub clear_stamps-requires : goal.clear_stamps-requires
clear_stamps-requires c = (
  omega (arith, c.count-n.ensures, c.args.func.now.whole.safe.region_room),
  omega (arith, c.requires, c.adopt_all.ensures.work_len_unchanged, c.clear.ensures.work_len_unchanged),
  table_low c.args.func.now.words.now c.count-n.result c.clear.new.work c.adopt_all.new.work (omega (arith, c.clear.ensures.work_len_unchanged, c.count-n.ensures, c.args.func.now.whole.safe.region_room, c.requires)) (λ x h. c.clear.ensures.cleared.blank x (omega arith) h) c.adopt_all.ensures.work_after,
)

pub returns-clause-value : goal.returns-clause-value
returns-clause-value c =
    c.none_around.ensures.value
    ∙ table_acyclic c.args.func.now.words.now c.count-n.result c.clear.new.work c.adopt_all.new.work (omega (arith, c.clear.ensures.work_len_unchanged, c.count-n.ensures, c.args.func.now.whole.safe.region_room, c.requires)) (λ x h. c.clear.ensures.cleared.blank x (omega arith) h) c.adopt_all.ensures.work_after c.clear_stamps.new.work c.clear_stamps.ensures.stamped.same
    ∙ ap (λ n. acyclic (parent_in c.args.func.now.words.now n) n) c.count-n.ensures
