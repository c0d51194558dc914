-- Document 02, W7: a conditional branch may not name one label twice. Definitions. Assumes nothing.
use Rattle.std.specs.Prelude.{◌≡◌, ℕ}
use mathlib.Core.List.{[], ◌∷◌}
use Rattle.opcodes.specs.Table.{opcode_of}
use Rattle.opcodes.specs.declared.InstKind.TheVariants.{BranchConditional}
use Rattle.lifting.specs.Instructions.{Instruction}

-- of a conditional branch: a condition and two labels, which differ
pub record TwoLabels (i : Instruction) : Type 0 where
  pub condition : ℕ
  pub true_label : ℕ
  pub false_label : ℕ
  pub ids_are : i.ids ≡ condition ∷ true_label ∷ false_label ∷ []
  pub differ : ¬ (true_label ≡ false_label)

-- what is claimed of each instruction
abbrev pub LabelsDiffer : Instruction → Type 0
LabelsDiffer i = i.opcode ≡ opcode_of BranchConditional → TwoLabels i
