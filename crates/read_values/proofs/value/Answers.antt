-- Behind the space and the bracket stands the part that `form` hands back, and what `value_in` says of it is what the grammar says of the words
-- (`value_reached`, `value_unread`).
use Rattle.read_cursor.specs.Chains.{no_value}
use Rattle.read_values.proofs.Values.{value_missed, value_unread, value_reached}
use Rattle.read_values.proofs.value.Goals as goal

pub returns-in_err-c : goal.returns-in_err-c
returns-in_err-c c = no_value _ c.from_residual.ensures (value_missed c.in_err-c.ensures)

pub returns-in_default : goal.returns-in_default
returns-in_default c = value_unread c.in_ok-c.ensures c.form-part.ensures c.in_default.ensures

pub returns : goal.returns
returns c = value_reached c.in_ok-c.ensures c.form-part.ensures c.in-Some.v c.in-Some.ensures
