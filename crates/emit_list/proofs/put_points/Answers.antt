-- The loop's invariant: what the first k visited points give is appended. The measure is how many are left.
use native.Mathlib.Omega.{arith}
use Rattle.emit_words.specs.Writes.{loop_end, loop_start, loop_turn}
use Rattle.emit_list.proofs.put_points.Goals as goal

pub loop-k-init : goal.loop-k-init
loop-k-init c = loop_start _ _ (omega arith)

pub loop-k-preserved : goal.loop-k-preserved
loop-k-preserved c = loop_turn c.loop-k.invariant (omega arith) c.put_point.ensures

pub returns : goal.returns
returns c = loop_end c.loop-k.invariant (omega arith)
