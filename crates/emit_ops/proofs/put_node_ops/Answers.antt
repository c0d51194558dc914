-- The loop's invariant: the first k ops of the node are appended. The measure is how many are left; a node of a text that passes the tests lists
-- ops of the text alone.
use mathlib.Core.Path.{sym, ap, subst}
use Prim.Native.Nat.{ℕ, ◌<◌}
use native.Mathlib.Omega.{arith}
use lib.ListN.{length}
use Rattle.lifting.specs.Parts.{block_ops, node_of}
use Rattle.func.specs.Decode.{func_of}
use Rattle.general_laws.specs.Members.{in_get_or}
use Rattle.lifting_runs.specs.Refers.{refers}
use Rattle.emit_words.specs.Writes.{loop_start, loop_turn, writes_same}
use Rattle.emit_insts.specs.Parts.{op_in, loop_gather}
use Rattle.emit_insts.specs.Fits.{node_ops_low}
use Rattle.emit_ops.proofs.put_node_ops.Goals as goal

pub loop-k-init : goal.loop-k-init
loop-k-init c = loop_start _ _ (omega arith)

pub put_op-requires : goal.put_op-requires
put_op-requires c =
    let F = func_of c.args.e.now.func.now in
    let is = block_ops (node_of F c.args.n) in
    record {
      count_nonzero = (
        c.requires.count_nonzero.0,
        subst (λ (o : ℕ). o < length F.ops) (sym c.node_op.ensures)
            (node_ops_low F (refers F c.args.e.now.ready.passes.references) c.args.n _ (in_get_or is c.loop-k.k 0 (omega (arith, c.node_op_count-k-end.ensures)))),
      );
    }

pub loop-k-preserved : goal.loop-k-preserved
loop-k-preserved c =
    let F = func_of c.args.e.now.func.now in
    loop_turn c.loop-k.invariant (omega (arith, c.node_op_count-k-end.ensures)) (writes_same c.put_op.ensures (ap (op_in F c.args.e.now.first) c.node_op.ensures))

pub returns : goal.returns
returns c =
    let F = func_of c.args.e.now.func.now in
    loop_gather (op_in F c.args.e.now.first) (block_ops (node_of F c.args.n)) 0 c.loop-k.invariant (omega arith)
