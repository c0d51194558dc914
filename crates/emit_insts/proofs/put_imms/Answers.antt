-- The loop's invariant: the first k immediates are appended; all of them one behind the other are the list's items (`loop_gather`).
use Rattle.std.proofs.Common.{ap, arith}
use Rattle.func.specs.Decode.{func_of}
use Rattle.func.specs.Kinds.{imm_from}
use Rattle.emit_lists.specs.Named.{listed_imms}
use Rattle.emit_words.specs.Writes.{loop_start, loop_turn, writes_same}
use Rattle.emit_insts.specs.Parts.{imm_items, loop_gather}
use Rattle.emit_insts.proofs.put_imms.Goals as goal

pub loop-k-init : goal.loop-k-init
loop-k-init c = loop_start _ _ (omega arith)

pub loop-k-preserved : goal.loop-k-preserved
loop-k-preserved c = loop_turn c.loop-k.invariant (omega arith) (writes_same c.put_imm.ensures (ap imm_items c.imm_at.ensures))

pub returns : goal.returns
returns c = loop_gather imm_items (listed_imms (func_of c.args.func.now) c.args.l) (imm_from 0 0 0) c.loop-k.invariant (omega arith)
