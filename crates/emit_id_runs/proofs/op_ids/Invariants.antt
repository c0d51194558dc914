-- The loop's invariant: the results of the ops before the j-th have their ids. The measure is how many are left.
use Rattle.lifting.specs.Parts.{block_ops, node_of}
use Rattle.func.specs.Decode.{func_of}
use Rattle.emit_id_runs.specs.Giving.{Results}
use Rattle.emit_id_runs.proofs.op_ids.Given as goal

abbrev pub invariant-loop-j : goal.invariant-loop-j
invariant-loop-j l = Results (func_of l.func) (block_ops (node_of (func_of l.func) l.n)) l.initial.work l.j-end l.first l.j l.work l.k
