-- The inputs and the targets are read and stored one behind the other (`stores_both`).
use Rattle.lifting.specs.Grammar.{sub, values_codec, numbers_codec}
use Rattle.func.specs.Store.{folds}
use Rattle.func.specs.Keep.{keep_target}
use Rattle.read_lines.specs.Stores.{stored_sub, stores_both}
use Rattle.read_lines.specs.Laws.{stores_sub}
use Rattle.read_ctrls.specs.Tails.{ctrl_lists}
use Rattle.read_ctrls.proofs.kinds.forms.Goals as goal

pub returns-clause-stores : goal.returns-clause-stores
unfolding ctrl_lists
returns-clause-stores c =
    let ins = stored_sub "ins" values_codec c.in_ok-c.ensures.stores in
    let to = stores_sub "to" numbers_codec (folds keep_target) _ c.form-2.result _ _ c.form-2.ensures.stores in
    stores_both (sub "ins" values_codec) (sub "to" numbers_codec) (folds keep_target) c.form-2.result _ ins to
