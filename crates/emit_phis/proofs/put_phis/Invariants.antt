-- The loop's invariant: the first j phis are appended. The measure is how many are left; the edges into the point, and so the count of ids, are
-- the same for all of them.
use lib.ListN.{length}
use Rattle.func.specs.Decode.{func_of}
use Rattle.terminators.specs.At.{visited_block}
use Rattle.emit_words.specs.Writes.{Loop}
use Rattle.emit_phis.specs.Items.{phi_in}
use Rattle.emit_phis.proofs.put_phis.Given as goal

abbrev pub invariant-loop-j : goal.invariant-loop-j
invariant-loop-j l = Loop (phi_in (func_of l.e.func.now) l.e.first l.i) (length (visited_block (func_of l.e.func.now) l.i).keys) l.initial.out l.j l.out
