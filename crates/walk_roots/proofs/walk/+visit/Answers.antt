-- Each step of the loop is a step of the walk along the targets (`turn_visited`, `turn_passed`), and what the loop leaves is the walk from the
-- region (`turn_done`).
use Rattle.std.proofs.Common.{sym, ◌∙◌, arith}
use Rattle.walk_roots.proofs.Turns.{fewer, turn_first, turn_done, turn_mark, turn_passed, turn_call, turn_visited}
use Rattle.walk_roots.proofs.walk.+visit.Goals as goal

pub loop-i-init : goal.loop-i-init
loop-i-init t c = turn_first c.requires c.set_mark.ensures c.way_count-i.ensures

pub word-requires : goal.word-requires
word-requires t c = omega (arith, turn_mark c.loop-i.invariant c.loop-i-test.true c.way-t.ensures)

pub visit-at-requires : goal.visit-at-requires
visit-at-requires t c = (
  omega (arith, c.loop-i.invariant.less, c.decreases, fewer c.requires c.set_mark.ensures),
  turn_call c.loop-i.invariant c.loop-i-test.true c.way-t.ensures (sym c.word.ensures ∙ c.if-word-eq0.true),
)

pub loop-i-preserved-then-word-eq0 : goal.loop-i-preserved-then-word-eq0
loop-i-preserved-then-word-eq0 t c =
    turn_visited c.loop-i.invariant c.loop-i-test.true c.way-t.ensures (sym c.word.ensures ∙ c.if-word-eq0.true) c.visit-at.ensures.work_len_unchanged c.visit-at.ensures.roots_visited

pub loop-i-preserved : goal.loop-i-preserved
loop-i-preserved t c = turn_passed c.loop-i.invariant c.loop-i-test.true c.way-t.ensures (λ e. c.if-word-eq0.false (c.word.ensures ∙ e))

pub returns : goal.returns
returns t c = record {
  roots_visited = turn_done c.requires c.set_mark.ensures c.loop-i.invariant c.loop-i-test.false c.leave.ensures.value c.leave.ensures.work_after;
  work_len_unchanged = c.leave.auto.work ∙ c.loop-i.invariant.same ∙ c.set_mark.auto.work;
}
