-- The immediates and the lists are read and stored one behind the other (`stores_both`).
use Rattle.lifting.specs.Grammar.{imms_codec}
use Rattle.read_lines.specs.Stores.{stores_both}
use Rattle.read_ctrls.specs.Tails.{ctrl_lists}
use Rattle.read_ctrls.specs.Answers.{keep_forms}
use Rattle.read_ctrls.proofs.kinds.inst_forms.Goals as goal

pub returns-clause-stores : goal.returns-clause-stores
returns-clause-stores c = stores_both imms_codec ctrl_lists keep_forms c.forms.result _ c.in_ok-c.ensures.stores c.forms.ensures.stores
