-- The inputs, the nodes and the outputs are read and stored one behind the other (`stores_both`).
use Rattle.lifting.specs.Grammar.{decls_codec, numbers_codec, sub, values_codec}
use Rattle.func.specs.Store.{folds}
use Rattle.func.specs.Keep.{keep_value}
use Rattle.read_lines.specs.Stores.{stored_sub, stores_both}
use Rattle.read_lines.specs.Tails.{last_form, region_forms, region_lists}
use Rattle.read_lines.specs.Keepers.{keep_region_rest}
use Rattle.read_heads.proofs.regions.region_lists.Goals as goal

pub returns-clause-stores : goal.returns-clause-stores
unfolding region_lists region_forms
returns-clause-stores c =
    let nodes = stored_sub "nodes" numbers_codec c.in_ok-b.ensures.stores in
    stores_both decls_codec region_forms keep_region_rest c.out_form.result _ c.in_ok-a.ensures.stores
    (stores_both (sub "nodes" numbers_codec) (last_form (sub "out" values_codec)) (folds keep_value) c.out_form.result _ nodes c.out_form.ensures.stores)
