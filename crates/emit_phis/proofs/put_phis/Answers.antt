-- The loop's invariant: the first j phis are appended. The measure is how many are left; the edges into the point, and so the count of ids, are
-- the same for all of them.
use mathlib.Core.Path.{ap, ◌∙◌}
use Prim.Native.Nat.{◌*◌}
use native.Mathlib.Omega.{arith}
use lib.ListN.{length}
use Rattle.func.specs.Decode.{func_of}
use Rattle.emit_words.specs.Writes.{loop_end, loop_start, loop_turn, writes_same}
use Rattle.emit_insts.specs.Ready.{ready_visited}
use Rattle.emit_insts.specs.Emitting.{emit_ready}
use Rattle.emit_phis.specs.Items.{phis_each}
use Rattle.emit_phis.proofs.put_phis.Goals as goal

pub invariant_of-visits : goal.invariant_of-visits
invariant_of-visits c = record { visited = ∣ ready_visited (emit_ready c.args.e.now.ready) c.args.i c.requires.i_lt_count ∣₁ }

pub loop-j-init : goal.loop-j-init
loop-j-init c = loop_start _ _ (omega arith)

pub loop-j-preserved : goal.loop-j-preserved
loop-j-preserved c = loop_turn c.loop-j.invariant (omega (arith, c.phi_count-j-end.ensures)) c.put_phi.ensures

pub put_phi-requires : goal.put_phi-requires
put_phi-requires c = record { linked = c.requires.linked; i_lt_count = (c.requires.i_lt_count, omega (arith, c.phi_count-j-end.ensures)); first_into = c.first_into-from.ensures; ids_value = (c.pair_words-ids.ensures.value ∙ ap (λ l. 2 * length l) c.first_into-from.ensures.all, c.pair_words-ids.ensures.upper_bound) }

pub returns : goal.returns
returns c = writes_same (loop_end c.loop-j.invariant (omega (arith, c.phi_count-j-end.ensures))) (phis_each (func_of c.args.e.now.func.now) c.args.e.now.first c.args.i)
