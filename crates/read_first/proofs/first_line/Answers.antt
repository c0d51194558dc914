-- The opening word, a number with the closing bracket and the end of the line are read one behind the other, as the format lines them up; where
-- one is missed the whole is.
use Rattle.lifting.specs.Grammar.{line}
use Rattle.read_cursor.specs.Chains.{before_missed, before_open, before_reached, after_missed, after_open, after_reached}
use Rattle.read_first.specs.Opening.{first_line_form}
use Rattle.read_first.proofs.first_line.Goals as goal

pub returns-in_err-a : goal.returns-in_err-a
unfolding first_line_form line
returns-in_err-a c = rw c.from_residual.ensures ((before_missed _ _ _ c.in_err-a.ensures).denied)

pub returns-in_err-n : goal.returns-in_err-n
unfolding first_line_form line
returns-in_err-n c = rw c.from_residual-in_err-n.ensures ((before_open _ _ _ c.in_ok-a.ensures (after_missed _ _ _ c.in_err-n.ensures)).denied)

pub returns-in_err-c : goal.returns-in_err-c
unfolding first_line_form line
returns-in_err-c c = rw c.from_residual-in_err-c.ensures ((before_open _ _ _ c.in_ok-a.ensures (after_open _ _ _ c.in_ok-n.ensures c.in_err-c.ensures)).denied)

pub returns : goal.returns
unfolding first_line_form line
returns c = (before_reached _ _ _ c.in_ok-a.ensures (after_reached _ _ _ c.in_ok-n.ensures c.in_ok-c.ensures)).took
