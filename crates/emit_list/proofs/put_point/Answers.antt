-- The status word tells the three cases of what a point gives: 0 that it gives nothing, its own number plus 1 that a block starts there, any
-- other that the block goes on.
use mathlib.Core.Path.{sym, ap, ◌∙◌}
use native.Mathlib.Omega.{arith}
use borrow.Author.Rules.{rules}
use Rattle.func.specs.Decode.{func_of}
use Rattle.terminators.specs.At.{point_at}
use Rattle.lifting_blocks.specs.Flat.{Status}
use Rattle.block_absorbs.specs.Absorbs.{stands, status_word, word_gone}
use Rattle.emit_names.specs.Standing.{not_here, number_is, starts_here}
use Rattle.std.proofs.Common.{subst, ◌++◌}
use Rattle.emit_words.specs.declared.Writer.{Writer}
use Rattle.emit_words.specs.Writes.{Writes, writes_more, writes_none, writes_same}
use Rattle.emit_list.specs.Points.{end_at, items_gone, items_goes, items_starts, op_items_at}
use Rattle.emit_list.specs.Laws.{goes_with}
use Rattle.emit_insts.specs.Emitting.{emit_ready}
use Rattle.emit_list.proofs.put_point.Goals.{then-s-number, else-s-number}
use Rattle.emit_list.proofs.put_point.Goals as goal

pub returns-then-s-eq0 : goal.returns-then-s-eq0
returns-then-s-eq0 c =
    let F = func_of c.args.l.now.emission.func.now in
    writes_same (writes_none (omega arith))
    (sym (items_gone F c.args.l.now.emission.first c.args.i (word_gone (stands F c.args.i) (point_at F c.args.i) (sym (c.args.l.now.emission.ready.absorbing.status c.args.i c.requires.i_lt_count) ∙ sym c.number-s.ensures ∙ c.if-s-eq0.true))))

pub overflow_add-number : goal.overflow_add-number
overflow_add-number c =
    let F = func_of c.args.l.now.emission.func.now in
    let f = (number_is (emit_ready c.args.l.now.emission.ready).laid c.args.i c.requires.i_lt_count c.number.ensures).1 in search rules

pub put_start-requires : goal.put_start-requires
put_start-requires c =
    let F = func_of c.args.l.now.emission.func.now in
    record { i_lt_count = (c.requires.i_lt_count, starts_here (emit_ready c.args.l.now.emission.ready).laid c.args.i c.requires.i_lt_count c.number.ensures c.number-s.ensures c.if-s-number.true) }

pub returns : goal.returns
returns c =
    let F = func_of c.args.l.now.emission.func.now in
    elim c.if-s-number.branch [
      | then-s-number w ↦
          let s = starts_here (emit_ready c.args.l.now.emission.ready).laid c.args.i c.requires.i_lt_count c.number.ensures c.number-s.ensures w.if-s-number.true in
          writes_same (writes_more w.put_start.ensures (subst (λ (o : Writer). Writes o (op_items_at F c.args.l.now.emission.first c.args.i ++ end_at F c.args.l.now.emission.first c.args.i) c.put_rest.new.out) w.out-is c.put_rest.ensures))
          (sym (items_starts F c.args.l.now.emission.first c.args.i s))
      | else-s-number w ↦
          let n = not_here (emit_ready c.args.l.now.emission.ready).laid c.args.i c.requires.i_lt_count c.number.ensures c.number-s.ensures w.if-s-number.false in
          let g = goes_with (stands F c.args.i) (λ e. c.if-s-eq0.false (c.number-s.ensures ∙ c.args.l.now.emission.ready.absorbing.status c.args.i c.requires.i_lt_count ∙ ap (λ (s : Status). status_word s (point_at F c.args.i)) e)) n in
          writes_same (subst (λ (o : Writer). Writes o (op_items_at F c.args.l.now.emission.first c.args.i ++ end_at F c.args.l.now.emission.first c.args.i) c.put_rest.new.out) w.out-is c.put_rest.ensures)
          (sym (items_goes F c.args.l.now.emission.first c.args.i g.1))
    ]
