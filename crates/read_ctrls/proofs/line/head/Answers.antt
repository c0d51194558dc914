-- The word, two numbers and the head of K are read one behind the other, as `ctrl_head` lines them up; where one is missed the whole is.
use Rattle.read_cursor.specs.Chains.{no_value, behind_missed, behind_open, behind_reached, headed_missed, headed_open, headed_reached}
use Rattle.read_ctrls.specs.Tails.{ctrl_head, ctrl_head_form}
use Rattle.read_ctrls.proofs.line.head.Goals as goal

pub returns-in_err-word : goal.returns-in_err-word
unfolding ctrl_head_form ctrl_head
returns-in_err-word c = no_value _ c.from_residual.ensures (headed_missed _ _ _ _ _ _ _ (behind_missed _ _ c.in_err-word.ensures))

pub returns-in_err-region : goal.returns-in_err-region
unfolding ctrl_head_form ctrl_head
returns-in_err-region c =
    no_value _ c.from_residual-in_err-region.ensures (headed_missed _ _ _ _ _ _ _ (behind_open _ _ c.in_ok-word.ensures c.in_err-region.ensures))

pub returns-in_err-kind : goal.returns-in_err-kind
unfolding ctrl_head_form ctrl_head
returns-in_err-kind c =
    let numbers = behind_reached _ _ c.in_ok-word.ensures c.in_ok-region.ensures in
    no_value _ c.from_residual-in_err-kind.ensures (headed_open _ _ _ _ _ _ _ numbers c.in_err-kind.ensures)

pub returns : goal.returns
unfolding ctrl_head_form ctrl_head
returns c = headed_reached _ _ _ _ _ _ _ (behind_reached _ _ c.in_ok-word.ensures c.in_ok-region.ensures) c.in_ok-kind.ensures
