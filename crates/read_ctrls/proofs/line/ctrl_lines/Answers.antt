-- The lines are read, and then the text must be at its end: else it is refused (`lines_more`), and there the lines are all (`lines_whole`).
use borrow.Author.Tests.{not-true, not-false}
use Rattle.read_ctrls.proofs.Laws.{lines_more, lines_whole}
use Rattle.read_ctrls.proofs.line.ctrl_lines.Goals as goal

pub returns-then-not-end : goal.returns-then-not-end
returns-then-not-end c = record { ctrls_are = lines_more c.args.func.now c.args.work.now c.lines.new.func c.lines.new.work c.in_ok-j.ensures.lines_are c.end.result c.end.ensures (not-true _ c.if-not-end.true-raw); func_len_unchanged = c.lines.ensures.func_len_unchanged; work_len_unchanged = c.lines.ensures.work_len_unchanged }

pub returns : goal.returns
returns c = record { ctrls_are = lines_whole c.args.func.now c.args.work.now c.lines.new.func c.lines.new.work c.in_ok-j.ensures.lines_are c.end.result c.end.ensures (not-false _ c.if-not-end.false-raw); func_len_unchanged = c.lines.ensures.func_len_unchanged; work_len_unchanged = c.lines.ensures.work_len_unchanged }
