-- The form is its word, the entries and the end of the line, read one behind the other; where one of them is missed the whole is.
use Rattle.lifting.specs.Bytes.{bytes}
use Rattle.lifting.specs.Grammar.{sub, entries_codec}
use Rattle.read_cursor.specs.Chains.{sub_missed, sub_open, sub_reached}
use Rattle.read_lines.specs.Stores.{stored_behind, stored_sub}
use Rattle.read_lines.specs.Laws.{last_missed, last_open, stored_last}
use Rattle.read_ctrls.specs.Tails.{edges_form}
use Rattle.read_ctrls.proofs.Laws.{stores_no}
use Rattle.read_ctrls.proofs.entries.edges.Goals as goal

pub returns-in_err-c-clause-stores : goal.returns-in_err-c-clause-stores
unfolding edges_form
returns-in_err-c-clause-stores c = stores_no _ _ _ c.from_residual.ensures (last_missed (sub "vals" entries_codec) (sub_missed "vals" entries_codec c.in_err-c.ensures))

pub returns-in_err-fit-clause-stores : goal.returns-in_err-fit-clause-stores
unfolding edges_form
returns-in_err-fit-clause-stores c =
    stores_no _ _ _ c.from_residual-in_err-fit.ensures (last_missed (sub "vals" entries_codec) (sub_open "vals" entries_codec c.in_ok-c.ensures c.in_err-fit.ensures.stores))

pub returns-in_err-e-clause-stores : goal.returns-in_err-e-clause-stores
unfolding edges_form
returns-in_err-e-clause-stores c =
    stores_no _ _ _ c.from_residual-in_err-e.ensures (last_open (sub "vals" entries_codec) (sub_reached "vals" entries_codec c.in_ok-c.ensures c.in_ok-fit.ensures.stores.reached) c.in_err-e.ensures)

pub returns-clause-stores : goal.returns-clause-stores
unfolding edges_form
returns-clause-stores c =
    stored_last (sub "vals" entries_codec) (stored_sub "vals" entries_codec (stored_behind (bytes " (vals") entries_codec.read c.in_ok-c.ensures c.in_ok-fit.ensures.stores)) c.in_ok-e.ensures
