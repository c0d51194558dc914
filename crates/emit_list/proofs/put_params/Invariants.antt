-- The loop's invariant: the first k parameters are appended. The measure is how many are left, and all of them are the parameters' items
-- (`params_are`).
use lib.ListN.{length}
use Rattle.func.specs.Decode.{func_of}
use Rattle.emit_words.specs.Writes.{Loop}
use Rattle.emit_list.specs.Points.{param_in}
use Rattle.emit_list.proofs.put_params.Given as goal

abbrev pub invariant-loop-k : goal.invariant-loop-k
invariant-loop-k l = Loop (param_in (func_of l.e.func.now) l.e.first) (length (func_of l.e.func.now).params) l.initial.out l.k l.out
