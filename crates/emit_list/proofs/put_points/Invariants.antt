-- The loop's invariant: what the first k visited points give is appended. The measure is how many are left.
use Rattle.func.specs.Decode.{func_of}
use Rattle.emit_words.specs.Writes.{Loop}
use Rattle.emit_list.specs.Points.{point_items}
use Rattle.emit_list.proofs.put_points.Given as goal

abbrev pub invariant-loop-k : goal.invariant-loop-k
invariant-loop-k l = Loop (point_items (func_of l.l.emission.func.now) l.l.emission.first) l.l.emission.count l.initial.out l.k l.out
