-- The loop's invariant: the labels of the first k targets are appended. Each target's number is below 512, and there the table holds its label
-- (`label_at`).
use Rattle.std.proofs.Common.{ap, ◌∙◌, ℕ, ◌+◌, ◌<◌, [], ◌∷◌, get_or, length, arith}
use Rattle.lifting.specs.Points.{CfgPoint, region_entry}
use Rattle.func.specs.Decode.{func_of}
use Rattle.general_laws.specs.Members.{all_in, in_get_or}
use Rattle.work.specs.Layout.{label_ids_at}
use Rattle.walk_points.specs.Numbers.{Small}
use Rattle.terminators.specs.Kinds.{term_of}
use Rattle.emit_words.specs.Put.Item.{id}
use Rattle.emit_words.specs.Writes.{loop_start, loop_turn, writes_same}
use Rattle.emit_names.specs.Ids.{label_in}
use Rattle.emit_insts.specs.Parts.{loop_gather}
use Rattle.emit_insts.specs.Emitting.{emit_ready}
use Rattle.emit_insts.specs.Ready.{label_at}
use Rattle.emit_insts.proofs.emission.Emission.put_targets.Goals as goal

pub loop-k-init : goal.loop-k-init
loop-k-init c = loop_start _ _ (omega arith)

pub loop-k-preserved : goal.loop-k-preserved
loop-k-preserved c =
    let ps = (term_of (func_of c.args.self.now.func.now) c.args.w).targets in
    let h : c.loop-k.k < length ps = omega arith in
    let s = all_in Small ps c.requires.1 _ (in_get_or ps c.loop-k.k (region_entry 0) h) in
    loop_turn c.loop-k.invariant h
    (writes_same c.put_id.ensures
    (ap (λ (x : ℕ). id x ∷ []) (c.label_of.ensures ∙ ap (λ (q : ℕ). get_or c.args.self.now.work.now (label_ids_at + q) 0) c.target_at.ensures ∙ label_at (emit_ready c.args.self.now.ready) _ s)))

pub returns : goal.returns
returns c =
    let F = func_of c.args.self.now.func.now in
    loop_gather (λ (q : CfgPoint). id (label_in F c.args.self.now.first q) ∷ []) (term_of F c.args.w).targets (region_entry 0) c.loop-k.invariant (omega arith)
