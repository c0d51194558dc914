-- The ops come first; the absorption word is 1 just where the point absorbs the next one, and there the block has no end yet.
use mathlib.Core.Path.{sym, ap, ◌∙◌}
use mathlib.Core.Bool.{Bool}
use mathlib.Core.List.{◌++◌, append-nil}
use Rattle.func.specs.Decode.{func_of}
use Rattle.terminators.specs.At.{visited_block}
use Rattle.block_absorbs.specs.Absorbs.{absorbs}
use Rattle.emit_words.specs.Writes.{writes_more, writes_same}
use Rattle.emit_list.specs.Points.{end_if, op_items_at}
use Rattle.emit_list.specs.Laws.{absorbs_false, absorbs_true}
use Rattle.emit_list.proofs.put_rest.Goals as goal

pub returns-then-word-eq1 : goal.returns-then-word-eq1
returns-then-word-eq1 c =
    let F = func_of c.args.e.now.func.now in
    writes_same c.put_ops.ensures
    (sym (append-nil (op_items_at F c.args.e.now.first c.args.i))
    ∙ ap (λ (b : Bool). op_items_at F c.args.e.now.first c.args.i ++ end_if F c.args.e.now.first b (visited_block F c.args.i).term) (sym (absorbs_true (absorbs F c.args.i) (sym (c.word.ensures ∙ c.args.e.now.ready.absorbing.absorb c.args.i c.requires.i_lt_count) ∙ c.if-word-eq1.true))))

pub returns : goal.returns
returns c =
    let F = func_of c.args.e.now.func.now in
    writes_same (writes_more c.put_ops.ensures c.put_end.ensures)
    (ap (λ (b : Bool). op_items_at F c.args.e.now.first c.args.i ++ end_if F c.args.e.now.first b (visited_block F c.args.i).term) (sym (absorbs_false (absorbs F c.args.i) (λ e. c.if-word-eq1.false (c.word.ensures ∙ c.args.e.now.ready.absorbing.absorb c.args.i c.requires.i_lt_count ∙ e)))))
