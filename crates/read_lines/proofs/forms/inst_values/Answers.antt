-- The immediates and the values are read and stored one behind the other (`stores_both`).
use Rattle.lifting.specs.Grammar.{imms_codec, values_codec}
use Rattle.func.specs.Store.{folds}
use Rattle.func.specs.Keep.{keep_value}
use Rattle.read_lines.specs.Stores.{stores_both}
use Rattle.read_lines.specs.Tails.{ended_by, inst_values}
use Rattle.read_lines.proofs.forms.inst_values.Goals as goal

pub returns-clause-stores : goal.returns-clause-stores
unfolding inst_values
returns-clause-stores c = stores_both imms_codec (ended_by values_codec) (folds keep_value) c.values_end.result _ c.in_ok-c.ensures.stores c.values_end.ensures.stores
