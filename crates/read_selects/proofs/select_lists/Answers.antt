-- The scrutinee is read and stored, and the cases and the outputs behind it (`stores_both`).
use Rattle.lifting.specs.Grammar.{decls_codec, numbers_codec, sub, value_codec}
use Rattle.func.specs.Store.{folds}
use Rattle.func.specs.Keep.{keep_decl}
use Rattle.read_lines.specs.Stores.{stored_sub, stores_both}
use Rattle.read_lines.specs.Laws.{stores_sub}
use Rattle.read_lines.specs.Tails.{select_forms, select_lists}
use Rattle.read_lines.specs.Keepers.{keep_select_rest}
use Rattle.read_selects.proofs.select_lists.Goals as goal

pub returns-clause-stores : goal.returns-clause-stores
unfolding select_lists select_forms
returns-clause-stores c =
    let cases = stored_sub "cases" numbers_codec c.in_ok-d.ensures.stores in
    let outs = stores_sub "outs" decls_codec (folds keep_decl) _ c.form-2.result _ _ c.form-2.ensures.stores in
    stores_both value_codec select_forms keep_select_rest c.form-2.result _ c.in-Some.ensures.stores
    (stores_both (sub "cases" numbers_codec) (sub "outs" decls_codec) (folds keep_decl) c.form-2.result _ cases outs)
