-- The front, the id that is called and the operands are appended one behind the other, with the count of the latter two for the ids: that is the
-- op (`op_is`), and the tests of the text name its operands.
use native.Mathlib.Omega.{arith}
use Rattle.lifting.specs.Walk.{walk_of}
use Rattle.lifting.specs.Absorb.{kept}
use Rattle.func.specs.Decode.{func_of}
use Rattle.lifting_runs.specs.Refers.{refers}
use Rattle.emit_words.specs.Writes.{writes_more, writes_same}
use Rattle.emit_insts.specs.Parts.{op_is}
use Rattle.emit_ops.proofs.put_op.Goals as goal

pub op_front-requires : goal.op_front-requires
op_front-requires c =
    let F = func_of c.args.e.now.func.now in
    record { o_in_bounds = (c.requires.count_nonzero.1, omega (arith, c.value_count.ensures.upper_bound, c.callee_count.ensures.upper_bound)) }

pub put_values-requires : goal.put_values-requires
put_values-requires c =
    let F = func_of c.args.e.now.func.now in
    record { count_nonzero = c.requires.count_nonzero.0; values_fit = (c.requires.count_nonzero.1, (refers F c.args.e.now.ready.passes.references).named.operands c.args.o) }

pub returns : goal.returns
returns c =
    let F = func_of c.args.e.now.func.now in
    writes_same (writes_more c.op_front.ensures (writes_more c.put_callee.ensures c.put_values.ensures))
    (op_is F c.args.e.now.first (walk_of F) (kept (walk_of F)) c.args.o _ _ (omega (arith, c.value_count.ensures.value, c.callee_count.ensures.value)) c.callee-called.ensures)
