-- The immediates, the bracket that closes the exit and the lists are read one behind the other (`stored_closed`, `stores_both`).
use Rattle.lifting.specs.Grammar.{closed, imms_codec}
use Rattle.read_lines.specs.Stores.{stored_closed, stores_both}
use Rattle.read_ctrls.specs.Tails.{ctrl_lists}
use Rattle.read_ctrls.specs.Answers.{keep_forms}
use Rattle.read_ctrls.proofs.kinds.exit_forms.Goals as goal

pub returns-clause-stores : goal.returns-clause-stores
returns-clause-stores c = stores_both (closed imms_codec) ctrl_lists keep_forms c.forms.result _ (stored_closed imms_codec c.in_ok-c.ensures.stores c.in_ok-d.ensures) c.forms.ensures.stores
