-- The loop's invariant: the ids of the first k values are appended. Each value of the list names something, so that it has an id.
use Rattle.std.proofs.Common.{ap, ◌∙◌, ℕ, [], ◌∷◌, arith}
use Rattle.lifting.specs.Ast.{Value, const}
use Rattle.func.specs.Decode.{func_of}
use Rattle.emit_lists.specs.Named.{values_of}
use Rattle.emit_words.specs.Put.Item.{id}
use Rattle.emit_words.specs.Writes.{loop_start, loop_turn, writes_same}
use Rattle.emit_names.specs.Ids.{id_in}
use Rattle.emit_insts.specs.Parts.{loop_gather}
use Rattle.emit_insts.proofs.emission.Emission.put_values.Goals as goal

pub loop-k-init : goal.loop-k-init
loop-k-init c = loop_start _ _ (omega arith)

pub loop-k-preserved : goal.loop-k-preserved
loop-k-preserved c =
    loop_turn c.loop-k.invariant (omega arith)
    (writes_same c.put_id.ensures (ap (λ (x : ℕ). id x ∷ []) (c.id_of.ensures ∙ ap (id_in (func_of c.args.self.now.func.now) c.args.self.now.first) c.value_at.ensures)))

pub returns : goal.returns
returns c =
    let F = func_of c.args.self.now.func.now in
    loop_gather (λ (v : Value). id (id_in F c.args.self.now.first v) ∷ []) (values_of F c.args.l) (const 0) c.loop-k.invariant (omega arith)
