-- Where no function is called nothing is appended, and else the one id.
use Rattle.std.proofs.Common.{sym, ap, ℕ, arith}
use Rattle.std.specs.Prelude.{Option}
use Rattle.emit_lists.specs.Named.{ids_of_callee}
use Rattle.emit_words.specs.Writes.{writes_none, writes_same}
use Rattle.emit_insts.specs.Parts.{id_each}
use Rattle.emit_ops.proofs.put_callee.Goals as goal

pub returns-in_default : goal.returns-in_default
returns-in_default c = writes_same (writes_none (omega arith)) (sym (ap (λ (x : Option ℕ). id_each (λ (n : ℕ). n) (ids_of_callee x)) c.in_default.is))
