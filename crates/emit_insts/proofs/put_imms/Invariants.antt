-- The loop's invariant: the first k immediates are appended; all of them one behind the other are the list's items (`loop_gather`).
use Rattle.std.proofs.Common.{get_or, length}
use Rattle.func.specs.Decode.{func_of}
use Rattle.func.specs.Kinds.{imm_from}
use Rattle.emit_lists.specs.Named.{listed_imms}
use Rattle.emit_insts.specs.Parts.{imm_items}
use Rattle.emit_words.specs.Writes.{Loop}
use Rattle.emit_insts.proofs.put_imms.Given as goal

abbrev pub invariant-loop-k : goal.invariant-loop-k
invariant-loop-k l = Loop (λ j. imm_items (get_or (listed_imms (func_of l.func) l.l) j (imm_from 0 0 0))) (length (listed_imms (func_of l.func) l.l)) l.initial.out l.k l.out
