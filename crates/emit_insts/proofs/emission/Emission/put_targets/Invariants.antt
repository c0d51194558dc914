-- The loop's invariant: the labels of the first k targets are appended. Each target's number is below 512, and there the table holds its label
-- (`label_at`).
use Rattle.std.proofs.Common.{[], ◌∷◌, get_or, length}
use Rattle.lifting.specs.Points.{region_entry}
use Rattle.func.specs.Decode.{func_of}
use Rattle.terminators.specs.Kinds.{term_of}
use Rattle.emit_names.specs.Ids.{label_in}
use Rattle.emit_words.specs.Put.Item.{id}
use Rattle.emit_words.specs.Writes.{Loop}
use Rattle.emit_insts.proofs.emission.Emission.put_targets.Given as goal

abbrev pub invariant-loop-k : goal.invariant-loop-k
invariant-loop-k l = Loop (λ j. id (label_in (func_of l.self.func.now) l.self.first (get_or (term_of (func_of l.self.func.now) l.w).targets j (region_entry 0))) ∷ []) (length (term_of (func_of l.self.func.now) l.w).targets) l.initial.out l.k l.out
