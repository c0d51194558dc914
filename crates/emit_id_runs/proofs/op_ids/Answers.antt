-- The loop's invariant: the results of the ops before the j-th have their ids. The measure is how many are left.
use Rattle.emit_names.specs.Names.{few_node_ops}
use Rattle.emit_names.specs.Numbered.{gives_length}
use Rattle.emit_id_runs.specs.Giving.{result_done, result_first, result_next, result_room}
use Rattle.emit_id_runs.proofs.op_ids.Goals as goal

pub loop-j-init : goal.loop-j-init
loop-j-init c = result_first c.node_op_count-j-end.ensures (few_node_ops c.known.ensures c.args.n c.requires.n_in_bounds) c.requires.work_need_in_bounds.0

pub result_id-k-requires : goal.result_id-k-requires
result_id-k-requires c = record { work_need_in_bounds = (c.loop-j.invariant.size, result_room c.loop-j.invariant c.requires.work_need_in_bounds.1) }

pub loop-j-preserved : goal.loop-j-preserved
loop-j-preserved c = result_next c.loop-j.invariant c.loop-j-test.true c.node_op.ensures c.result_id-k.ensures

pub shape_of-work : goal.shape_of-work
shape_of-work c = gives_length c.loop-j.invariant.given

pub returns : goal.returns
returns c = result_done c.loop-j.invariant c.loop-j-test.false
