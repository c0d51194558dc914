-- The line ends where the first line's end stands among the first bytes.
use Rattle.std.proofs.Common.{ap, arith, length, length-take}
use Rattle.command.specs.Opened.{line_room, opened_none, opened_line}
use Rattle.command.proofs.opened.Goals as goal

pub returns-then-end-head-clause-at_value : goal.returns-then-end-head-clause-at_value
returns-then-end-head-clause-at_value c =
    opened_none c.args.case.now c.front-head.result.now c.find-end.result c.front-head.ensures c.find-end.ensures.place c.if-end-head.true

pub returns-clause-at_value : goal.returns-clause-at_value
returns-clause-at_value c =
    opened_line c.args.case.now c.front-head.result.now c.find-end.result c.front-head.ensures c.find-end.ensures.place c.if-end-head.false
    c.first_word-command.result c.first_word-command.ensures

pub returns-clause-at_in_bounds : goal.returns-clause-at_in_bounds
returns-clause-at_in_bounds c =
    omega (arith, c.find-end.ensures.in_bounds, ap length c.front-head.ensures, length-take line_room c.args.case.now, c.if-end-head.false)
