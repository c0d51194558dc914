-- A label is a front alone (`label_is`), and the word of point number q in the table of labels is the label's id.
use mathlib.Core.Path.{sym, ap₂, ◌∙◌}
use mathlib.Core.List.{[]}
use Prim.Native.Nat.{ℕ}
use Rattle.lifting.specs.Walk.{walk_of}
use Rattle.lifting.specs.Absorb.{kept}
use Rattle.lifting.specs.Ids.{label_of}
use Rattle.func.specs.Decode.{func_of}
use Rattle.walk_points.specs.Numbers.{point_of}
use Rattle.emit_words.specs.Writes.{writes_same}
use Rattle.emit_insts.specs.Parts.{front_items, label_is}
use Rattle.emit_ends.proofs.put_label.Goals as goal

pub returns : goal.returns
unfolding label_of
returns c =
    let F = func_of c.args.e.now.func.now in
    writes_same c.put_front.ensures
    (ap₂ (λ (o l : ℕ). front_items o 0 0 l [] 0) c.opcode.ensures (c.label_of.ensures ∙ c.args.e.now.ready.ids.label c.args.q c.requires.q_bound)
    ∙ sym (label_is F c.args.e.now.first (walk_of F) (kept (walk_of F)) (point_of c.args.q)))
