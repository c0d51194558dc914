-- Demand 3, the claim: running the regions of a text and running the blocks of a list reach the same lists of executed instructions, and one
-- ends exactly if the other does, alike. Assumes nothing.
use Rattle.std.specs.Prelude.{◌≡◌, true, List, ℕ}
use Rattle.opcodes.specs.Table.{opcode_of}
use Rattle.opcodes.specs.declared.InstKind.TheVariants.{ConstantTrue}
use Rattle.lifting.specs.Machine.{Alike}
use Rattle.lifting.specs.Ast.{Func}
use Rattle.lifting.specs.Parts.{const_of}
use Rattle.lifting.specs.Instructions.{Instruction}
use Rattle.lifting.specs.World.{World}
use Rattle.lifting.specs.RegionRun.{region_step, region_log, region_start}
use Rattle.lifting.specs.BlockRun.{parts, block_step, block_log, block_start}

-- constants' values with opcode 41 true
abbrev pub TrueConstants : (F : Func) {Val : Type 0} (W : World Val) → Type 0
TrueConstants F W = (c : ℕ) → (const_of F c).opcode ≡ opcode_of ConstantTrue → W.truth (W.constant c) ≡ true

abbrev pub AlikeRuns : (F : Func) (l : List Instruction) {Val : Type 0} (W : World Val) → Type 0
AlikeRuns F l W =
    Alike (region_step F W) (region_log F W) (block_step W (parts l).blocks) (block_log W (parts l).blocks) (region_start F W) (block_start W F.consts l)
