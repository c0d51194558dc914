-- The status word of a position in a kept block is 1 + the number of the point that the block starts with (`head_number`), and the table holds
-- that point's label (`label_at`).
use mathlib.Core.Path.{ap, ◌∙◌}
use Prim.Native.Nat.{ℕ, ◌+◌}
use native.Mathlib.Omega.{arith}
use lib.ListN.{get_or}
use Rattle.func.specs.Decode.{func_of}
use Rattle.work.specs.Layout.{label_ids_at}
use Rattle.walk_points.specs.Numbers.{point_low}
use Rattle.emit_edge_ends.specs.Ends.{head_at}
use Rattle.emit_insts.specs.Ready.{label_at, ready_visited}
use Rattle.emit_phis.specs.Along.{head_small}
use Rattle.emit_phis.proofs.Steps.{head_number}
use Rattle.emit_insts.specs.Emitting.{emit_ready}
use Rattle.emit_phis.proofs.pairs.block_label.Goals as goal

pub overflow_sub-number : goal.overflow_sub-number
overflow_sub-number c = omega (arith, c.number.ensures, head_number (emit_ready c.args.e.now.ready) c.args.p c.requires.p_lt_count c.requires.not_stands)

pub label_of-requires : goal.label_of-requires
label_of-requires c =
    let F = func_of c.args.e.now.func.now in
    let s = head_small (ready_visited (emit_ready c.args.e.now.ready) c.args.p c.requires.p_lt_count) c.args.p c.requires.p_lt_count in
    (omega (arith, c.number.ensures, head_number (emit_ready c.args.e.now.ready) c.args.p c.requires.p_lt_count c.requires.not_stands, point_low (head_at F c.args.p) s), omega (arith, c.args.e.now.ready.size))

pub returns : goal.returns
returns c =
    let F = func_of c.args.e.now.func.now in
    let s = head_small (ready_visited (emit_ready c.args.e.now.ready) c.args.p c.requires.p_lt_count) c.args.p c.requires.p_lt_count in
    c.label_of.ensures
    ∙ ap (λ (q : ℕ). get_or c.args.e.now.work.now (label_ids_at + q) 0) (omega (arith, c.number.ensures, head_number (emit_ready c.args.e.now.ready) c.args.p c.requires.p_lt_count c.requires.not_stands))
    ∙ label_at (emit_ready c.args.e.now.ready) (head_at F c.args.p) s
