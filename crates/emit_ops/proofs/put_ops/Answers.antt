-- Only a node's entry has ops, which are the node's; at each other point the list is empty (`ops_at`), and nothing is appended.
use mathlib.Core.Path.{sym, ap, subst, ◌∙◌}
use Prim.Native.Nat.{◌<◌}
use native.Mathlib.Omega.{arith}
use lib.ListN.{length}
use Rattle.general_laws.specs.Lists.{gather}
use Rattle.lifting.specs.Walk.{walk_of}
use Rattle.func.specs.Decode.{func_of}
use Rattle.emit_words.specs.Writes.{writes_none, writes_same}
use Rattle.std.proofs.Common.{◌≡◌, refl, ℕ, []}
use Rattle.lifting.specs.Ast.{Func}
use Rattle.terminators.specs.declared.Point.{Point}
use Rattle.terminators.specs.declared.Point.TheVariants.{RegionEntry, RegionExit, NodeEntry, NodeExit}
use Rattle.terminators.specs.At.{InText, in_text_law}
use Rattle.terminators.specs.Kinds.{as_point}
use Rattle.emit_insts.specs.Parts.{op_in}
use Rattle.emit_insts.specs.Ready.{ready_visited}
use Rattle.emit_insts.specs.Fits.{ops_at, ops_of}
use Rattle.emit_insts.specs.Emitting.{emit_ready}
use Rattle.emit_ops.proofs.put_ops.Goals as goal

-- no point but a node's entry has ops
no_ops : (F : Func) (x : Point) → ((n : ℕ) → ¬ (x ≡ NodeEntry n)) → ops_of F (as_point x) ≡ []
no_ops F (RegionEntry r) n = refl
no_ops F (RegionExit r) n = refl
no_ops F (NodeEntry r) n = absurd (n r refl)
no_ops F (NodeExit r) n = refl

pub invariant_of-visits : goal.invariant_of-visits
invariant_of-visits c = record { visited = ∣ ready_visited (emit_ready c.args.e.now.ready) c.args.i c.requires.i_lt_count ∣₁ }

pub put_node_ops-requires : goal.put_node_ops-requires
put_node_ops-requires c =
    let F = func_of c.args.e.now.func.now in
    let k = ready_visited (emit_ready c.args.e.now.ready) c.args.i c.requires.i_lt_count in
    let h : c.args.i < length (walk_of F) = omega (arith, c.requires.i_lt_count, k.count) in
    record { count_nonzero = (omega (arith, c.requires.i_lt_count), subst (InText F) (sym c.point.ensures ∙ ap as_point c.in-NodeEntry.is) (in_text_law F k.walkable c.args.i h)) }

pub returns-in-NodeEntry : goal.returns-in-NodeEntry
returns-in-NodeEntry c =
    let F = func_of c.args.e.now.func.now in
    let k = ready_visited (emit_ready c.args.e.now.ready) c.args.i c.requires.i_lt_count in
    let h : c.args.i < length (walk_of F) = omega (arith, c.requires.i_lt_count, k.count) in
    writes_same c.put_node_ops.ensures (sym (ap (gather (op_in F c.args.e.now.first)) (ops_at F k.walkable c.args.i h ∙ ap (ops_of F) (sym c.point.ensures) ∙ ap (λ (x : Point). ops_of F (as_point x)) c.in-NodeEntry.is)))

pub returns-in_default : goal.returns-in_default
returns-in_default c =
    let F = func_of c.args.e.now.func.now in
    let k = ready_visited (emit_ready c.args.e.now.ready) c.args.i c.requires.i_lt_count in
    let h : c.args.i < length (walk_of F) = omega (arith, c.requires.i_lt_count, k.count) in
    writes_same (writes_none (omega arith))
    (sym (ap (gather (op_in F c.args.e.now.first)) (ops_at F k.walkable c.args.i h ∙ ap (ops_of F) (sym c.point.ensures) ∙ no_ops F _ c.in_default.not-NodeEntry)))
