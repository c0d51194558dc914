-- The loop stands before a line, and what is still to be stored from there is what was to be stored from the start.
use Rattle.read_lines.specs.Kinds.{kind_lines_more, lines_over, lines_wrong}
use borrow.Author.Rules.{rules}
use Rattle.read_kinds.proofs.lines.Goals as goal

pub returns-in-Err-Other-clause-lined : goal.returns-in-Err-Other-clause-lined
returns-in-Err-Other-clause-lined c = lines_over c.args.kind c.loop-d.invariant (rw c.in-Err-Other.field-0-is at c.in-Err-Other.ensures.line_is)

pub returns-in-Err-Refused-clause-lined : goal.returns-in-Err-Refused-clause-lined
returns-in-Err-Refused-clause-lined c = lines_wrong c.args.kind c.loop-d.invariant (rw c.in-Err-Refused.field-0-is at c.in-Err-Refused.ensures.line_is)

pub loop-d-preserved : goal.loop-d-preserved
loop-d-preserved c = kind_lines_more c.args.kind c.loop-d.invariant c.in-Ok.ensures.line_is (search rules)
