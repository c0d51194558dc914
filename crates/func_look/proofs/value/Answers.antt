-- The first word of the entry holds the kind above its low 16 bits and the first number in them, the second word the second number, as `value_of`
-- reads them.
use mathlib.Core.Path.{◌∙◌}
use Prim.Native.Nat.{◌/◌, ◌%◌}
use Rattle.func.specs.Decode.{value_from}
use Rattle.func_look.proofs.value.Goals as goal

pub returns : goal.returns
returns c = c.from_words.ensures ∙ (λ i. value_from (c.word-x.ensures i / 65536) (c.word-x.ensures i % 65536) (c.word-b.ensures i))
