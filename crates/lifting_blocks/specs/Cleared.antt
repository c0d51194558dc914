-- Document 02, W4: the Rust writes 0 for a merge's control number, so merges compare equal to it with that word cleared. An instruction with it
-- cleared. Definitions. Assumes nothing.
use Rattle.std.specs.Prelude.{Bool}
use Rattle.std.proofs.Math.Bool.{true, false}
use mathlib.Core.List.{map}
use Rattle.lifting.specs.Ast.{Imm}
use Rattle.lifting.specs.Instructions.{Instruction}
use Rattle.lifting.specs.BlockRun.{is_merge}

-- ---- the list

-- a merge with its number cleared, and any other instruction
abbrev cleared_imm : Imm → Imm
cleared_imm m = record { kind = m.kind; operand = m.operand; word = 0 }

abbrev pub clear_if : Bool → Instruction → Instruction
clear_if true i = record { opcode = i.opcode; attrs = i.attrs; type = i.type; result = i.result; imms = map cleared_imm i.imms; ids = i.ids }
clear_if false i = i

abbrev pub cleared_inst : Instruction → Instruction
cleared_inst i = clear_if (is_merge i) i
