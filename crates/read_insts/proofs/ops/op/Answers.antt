-- The word, two numbers and the head of X are read one behind the other, as `op_head` lines them up; where one is missed the whole is.
use Rattle.read_insts.specs.Heads.{op_head, op_head_form}
use Rattle.read_cursor.specs.Chains.{no_value, behind_missed, behind_open, behind_reached, headed_missed, headed_open, headed_reached}
use Rattle.read_insts.proofs.ops.op.Goals as goal

pub returns-in_err-word : goal.returns-in_err-word
unfolding op_head_form op_head
returns-in_err-word c = no_value _ c.from_residual.ensures (headed_missed _ _ _ _ _ _ _ (behind_missed _ _ c.in_err-word.ensures))

pub returns-in_err-attrs : goal.returns-in_err-attrs
unfolding op_head_form op_head
returns-in_err-attrs c =
    no_value _ c.from_residual-in_err-attrs.ensures (headed_missed _ _ _ _ _ _ _ (behind_open _ _ c.in_ok-word.ensures c.in_err-attrs.ensures))

pub returns-in_err-kind : goal.returns-in_err-kind
unfolding op_head_form op_head
returns-in_err-kind c =
    let numbers = behind_reached _ _ c.in_ok-word.ensures c.in_ok-attrs.ensures in
    no_value _ c.from_residual-in_err-kind.ensures (headed_open _ _ _ _ _ _ _ numbers c.in_err-kind.ensures)

pub returns : goal.returns
unfolding op_head_form op_head
returns c = headed_reached _ _ _ _ _ _ _ (behind_reached _ _ c.in_ok-word.ensures c.in_ok-attrs.ensures) c.in_ok-kind.ensures
