-- The condition is read and stored, and the initial values behind it (`stores_both`).
use Rattle.lifting.specs.Grammar.{sub, value_codec, values_codec}
use Rattle.func.specs.Store.{folds}
use Rattle.func.specs.Keep.{keep_value}
use Rattle.read_lines.specs.Stores.{stores_both}
use Rattle.read_lines.specs.Laws.{stores_sub}
use Rattle.read_lines.specs.Tails.{loop_lists}
use Rattle.read_nodes.proofs.nodes.loop_lists.Goals as goal

pub returns-clause-stores : goal.returns-clause-stores
unfolding loop_lists
returns-clause-stores c =
    let initial = stores_sub "init" values_codec (folds keep_value) _ c.form.result _ _ c.form.ensures.stores in
    stores_both value_codec (sub "init" values_codec) (folds keep_value) c.form.result _ c.in-Some.ensures.stores initial
