-- The merge label is a point whose number is below 512, and the word of that number in the table of labels is its id (`label_at`).
use mathlib.Core.Path.{ap, ◌∙◌}
use mathlib.Core.List.{[], ◌∷◌}
use Prim.Native.Nat.{ℕ, ◌+◌}
use native.Mathlib.Omega.{arith}
use lib.ListN.{get_or}
use Rattle.lifting.specs.Points.{region_entry}
use Rattle.lifting.specs.Absorb.{merge_labels}
use Rattle.general_laws.specs.Members.{all_in, in_get_or}
use Rattle.work.specs.Layout.{label_ids_at}
use Rattle.walk_points.specs.Numbers.{Small, point_low}
use Rattle.terminators.specs.Kinds.{merge_of}
use Rattle.emit_words.specs.Put.Item.{id}
use Rattle.emit_words.specs.Writes.{writes_same}
use Rattle.emit_insts.specs.Ready.{label_at}
use Rattle.emit_insts.specs.Emitting.{emit_ready}
use Rattle.emit_ends.proofs.put_merge_label.Goals as goal

pub label_of-requires : goal.label_of-requires
label_of-requires c =
    let ps = merge_labels (merge_of c.args.w) in
    let s : Small (get_or ps c.args.k (region_entry 0)) = all_in Small ps c.requires.known.1 _ (in_get_or ps c.args.k (region_entry 0) c.requires.k_in_bounds) in
    (omega (arith, c.merge.ensures, point_low (get_or ps c.args.k (region_entry 0)) s), omega (arith, c.args.e.now.ready.size))

pub returns : goal.returns
returns c =
    let ps = merge_labels (merge_of c.args.w) in
    let s : Small (get_or ps c.args.k (region_entry 0)) = all_in Small ps c.requires.known.1 _ (in_get_or ps c.args.k (region_entry 0) c.requires.k_in_bounds) in
    writes_same c.put_id.ensures
    (ap (λ (x : ℕ). id x ∷ []) (c.label_of.ensures ∙ ap (λ (q : ℕ). get_or c.args.e.now.work.now (label_ids_at + q) 0) c.merge.ensures ∙ label_at (emit_ready c.args.e.now.ready) (get_or ps c.args.k (region_entry 0)) s))
