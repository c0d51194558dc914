-- The loop's invariant (`Open`) says how far it has come and how many brackets are open there; they are at most as many as the bytes passed, so
-- that their count does not wrap. The part up to the bracket that closes the form is handed back (`open_close`).
use Rattle.read_forms.proofs.Laws.{Open}
use Rattle.read_forms.proofs.form.Given as goal

abbrev pub invariant-loop-i : goal.invariant-loop-i
invariant-loop-i l = Open l.text l.at l.d l.i
