-- The values are read behind their word, and the end of the line behind them (`stores_last`).
use Rattle.lifting.specs.Grammar.{sub, values_codec}
use Rattle.read_lines.specs.Stores.{stored_sub}
use Rattle.read_lines.specs.Laws.{stores_last}
use Rattle.read_lines.proofs.forms.out_form.Goals as goal

pub returns-clause-stores : goal.returns-clause-stores
returns-clause-stores c = stores_last (sub "out" values_codec) c.word.result (stored_sub "out" values_codec c.in_ok-c.ensures.stores) c.word.ensures
