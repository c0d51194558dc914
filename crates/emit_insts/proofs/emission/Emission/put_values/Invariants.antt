-- The loop's invariant: the ids of the first k values are appended. Each value of the list names something, so that it has an id.
use Rattle.std.proofs.Common.{[], ◌∷◌, get_or, length}
use Rattle.lifting.specs.Ast.{const}
use Rattle.func.specs.Decode.{func_of}
use Rattle.emit_lists.specs.Named.{values_of}
use Rattle.emit_names.specs.Ids.{id_in}
use Rattle.emit_words.specs.Put.Item.{id}
use Rattle.emit_words.specs.Writes.{Loop}
use Rattle.emit_insts.proofs.emission.Emission.put_values.Given as goal

abbrev pub invariant-loop-k : goal.invariant-loop-k
invariant-loop-k l = Loop (λ j. id (id_in (func_of l.self.func.now) l.self.first (get_or (values_of (func_of l.self.func.now) l.l) j (const 0))) ∷ []) (length (values_of (func_of l.self.func.now) l.l)) l.initial.out l.k l.out
