-- The loop's invariant: the first k parameters are appended. The measure is how many are left, and all of them are the parameters' items
-- (`params_are`).
use native.Mathlib.Omega.{arith}
use Rattle.func.specs.Decode.{func_of}
use Rattle.emit_words.specs.Writes.{writes_same}
use Rattle.emit_words.specs.Writes.{loop_end, loop_start, loop_turn}
use Rattle.emit_list.specs.Points.{params_are}
use Rattle.emit_list.proofs.put_params.Goals as goal

pub loop-k-init : goal.loop-k-init
loop-k-init c = loop_start _ _ (omega arith)

pub loop-k-preserved : goal.loop-k-preserved
loop-k-preserved c = loop_turn c.loop-k.invariant (omega (arith, c.param_total-k-end.ensures)) c.put_param.ensures

pub returns : goal.returns
returns c =
    let F = func_of c.args.e.now.func.now in
    writes_same (loop_end c.loop-k.invariant (omega (arith, c.param_total-k-end.ensures))) (params_are F c.args.e.now.first)
