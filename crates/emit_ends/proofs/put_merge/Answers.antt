-- The count of merge labels tells the merge: none (`merge_none`), a select's with one label (`merge_one`) or a loop's with two (`merge_two`),
-- each a front with its labels behind it.
use mathlib.Core.Path.{refl, ap, ◌∙◌}
use native.Mathlib.Omega.{arith}
use Rattle.lifting.specs.Walk.{walk_of}
use Rattle.lifting.specs.Absorb.{kept}
use Rattle.lifting.specs.Instructions.{loop_control, selection_control, short}
use Rattle.func.specs.Decode.{func_of}
use Rattle.terminators.specs.Kinds.{merge_of}
use Rattle.emit_words.specs.Writes.{writes_more, writes_none, writes_same}
use Rattle.emit_insts.specs.Parts.{front_same, merge_none, merge_one, merge_two}
use Rattle.emit_ends.proofs.put_merge.Goals as goal

pub returns-then-count-eq0 : goal.returns-then-count-eq0
returns-then-count-eq0 c =
    let F = func_of c.args.e.now.func.now in
    let g = merge_of c.args.w in
    let T = walk_of F in
    writes_same (writes_none (omega arith)) (merge_none F c.args.e.now.first T (kept T) g (omega arith))

pub returns-then-count-eq1 : goal.returns-then-count-eq1
returns-then-count-eq1 c =
    let F = func_of c.args.e.now.func.now in
    let g = merge_of c.args.w in
    let T = walk_of F in
    writes_same (writes_more (writes_same c.put_front.ensures (front_same _ c.opcode.ensures refl refl refl (ap (short selection_control) c.merge_control-u.ensures))) c.put_merge_label.ensures)
    (merge_one F c.args.e.now.first T (kept T) g (omega arith))

pub returns : goal.returns
returns c =
    let F = func_of c.args.e.now.func.now in
    let g = merge_of c.args.w in
    let T = walk_of F in
    writes_same (writes_more (writes_same c.put_front-2.ensures (front_same _ c.opcode-2.ensures refl refl refl (ap (short loop_control) c.merge_control-u.ensures))) (writes_more c.put_merge_label-2.ensures c.put_merge_label-3.ensures))
    (merge_two F c.args.e.now.first T (kept T) g (λ e. c.if-count-eq0.false (c.merges-count.ensures ∙ e)) (λ e. c.if-count-eq1.false (c.merges-count.ensures ∙ e)))
