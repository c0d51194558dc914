-- The test is what writing at once asks; a list that might be refused is counted first.
use mathlib.Core.Path.{sym, ◌∙◌}
use Rattle.emit_output.proofs.written.Goals as goal

pub at_once-requires : goal.at_once-requires
at_once-requires c = record { first_value = c.requires.first_value; next_value = c.requires.next_value; out_value = sym c.is_sure.ensures ∙ c.if-is_sure.true }
