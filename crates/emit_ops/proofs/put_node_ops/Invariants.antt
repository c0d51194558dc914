-- The loop's invariant: the first k ops of the node are appended. The measure is how many are left; a node of a text that passes the tests lists
-- ops of the text alone.
use lib.ListN.{get_or, length}
use Rattle.lifting.specs.Parts.{block_ops, node_of}
use Rattle.func.specs.Decode.{func_of}
use Rattle.emit_words.specs.Writes.{Loop}
use Rattle.emit_insts.specs.Parts.{op_in}
use Rattle.emit_ops.proofs.put_node_ops.Given as goal

abbrev pub invariant-loop-k : goal.invariant-loop-k
invariant-loop-k l = Loop (λ j. op_in (func_of l.e.func.now) l.e.first (get_or (block_ops (node_of (func_of l.e.func.now) l.n)) j 0)) (length (block_ops (node_of (func_of l.e.func.now) l.n))) l.initial.out l.k l.out
