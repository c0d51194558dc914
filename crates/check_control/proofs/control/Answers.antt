-- Refusal 7 is its tests in this order: two lines of one region (`control_twice`), a line that does not fit (`control_line`), no line at all
-- (`control_none`), and else a root without a line (`control_reached`).
use mathlib.Core.Path.{sym, ap, ◌∙◌}
use lib.Dec.{lit≤}
use borrow.Author.Tests.{not-true, not-false}
use Rattle.general_laws.specs.Lists.{every, within, keys}
use Rattle.func.specs.Decode.{func_of}
use Rattle.work.specs.Aside.{aside_more, aside_wider}
use Rattle.check_control.specs.Loops.{control_twice, control_line, control_none, control_reached}
use Rattle.check_control.proofs.control.Goals as goal

pub returns-then-not-index : goal.returns-then-not-index
returns-then-not-index c = (sym (control_twice (func_of c.args.func.now) (sym c.index.ensures.value ∙ not-true c.index.result c.if-not-index.true-raw)), c.index.ensures.work_len_unchanged, c.index.ensures.aside)

pub returns-then-not-lines_fit : goal.returns-then-not-lines_fit
returns-then-not-lines_fit c = (
  sym (control_line (func_of c.args.func.now) (sym c.index.ensures.value ∙ not-false c.index.result c.if-not-index.false-raw) (sym c.lines_fit.ensures ∙ not-true c.lines_fit.result c.if-not-lines_fit.true-raw)),
  c.mark_nodes.ensures.work_len_unchanged ∙ c.index.ensures.work_len_unchanged,
  aside_more c.index.ensures.aside (aside_wider c.mark_nodes.ensures.aside (lit≤ tt) (lit≤ tt)),
)

pub returns-then-ctrl_total-eq0 : goal.returns-then-ctrl_total-eq0
returns-then-ctrl_total-eq0 c = (
  sym (control_none (func_of c.args.func.now) (sym c.index.ensures.value ∙ not-false c.index.result c.if-not-index.false-raw) (sym c.lines_fit.ensures ∙ not-false c.lines_fit.result c.if-not-lines_fit.false-raw) (sym c.ctrl_total.ensures ∙ c.if-ctrl_total-eq0.true)),
  c.mark_nodes.ensures.work_len_unchanged ∙ c.index.ensures.work_len_unchanged,
  aside_more c.index.ensures.aside (aside_wider c.mark_nodes.ensures.aside (lit≤ tt) (lit≤ tt)),
)

pub returns : goal.returns
returns c =
    let F = func_of c.args.func.now in (
      c.have_ctrls.ensures
          ∙ ap (every (λ r. within r (keys F.ctrls))) c.order-n.ensures.result_after
          ∙ sym (control_reached F (sym c.index.ensures.value ∙ not-false c.index.result c.if-not-index.false-raw) (sym c.lines_fit.ensures ∙ not-false c.lines_fit.result c.if-not-lines_fit.false-raw) (λ e. c.if-ctrl_total-eq0.false (c.ctrl_total.ensures ∙ e))),
      c.order-n.ensures.work_len_unchanged ∙ c.mark_nodes.ensures.work_len_unchanged ∙ c.index.ensures.work_len_unchanged,
      aside_more (aside_more c.index.ensures.aside (aside_wider c.mark_nodes.ensures.aside (lit≤ tt) (lit≤ tt))) c.order-n.ensures.aside,
    )
