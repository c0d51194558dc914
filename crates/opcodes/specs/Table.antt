-- Document 01: 'A table fixes the opcodes'. What src/lib.rt's constant table holds, the opcode of each kind of instruction, and whether a
-- number is one of the table's. Assumes nothing.
use Rattle.std.specs.Prelude.{Bool, false, ◌||◌, List, [], ◌∷◌, ℕ, eqb, get_or}
use Rattle.opcodes.specs.declared.InstKind.{InstKind}
use Rattle.opcodes.specs.declared.InstKind.TheVariants.{ExtInst, ConstantTrue, Function, FunctionParameter, FunctionEnd, FunctionCall, Phi, LoopMerge, SelectionMerge, Label, Branch, BranchConditional, Return, ReturnValue, Unreachable}

-- ExtInst 12, ConstantTrue 41, Function 54, FunctionParameter 55, FunctionEnd 56, FunctionCall 57, Phi 245, LoopMerge 246, SelectionMerge
-- 247, Label 248, Branch 249, BranchConditional 250, Return 253, ReturnValue 254, Unreachable 255.
abbrev pub table : List ℕ
table = 12 ∷ 41 ∷ 54 ∷ 55 ∷ 56 ∷ 57 ∷ 245 ∷ 246 ∷ 247 ∷ 248 ∷ 249 ∷ 250 ∷ 253 ∷ 254 ∷ 255 ∷ []

-- a kind's place in the table
abbrev pub place_of : InstKind → ℕ
place_of ExtInst = 0
place_of ConstantTrue = 1
place_of Function = 2
place_of FunctionParameter = 3
place_of FunctionEnd = 4
place_of FunctionCall = 5
place_of Phi = 6
place_of LoopMerge = 7
place_of SelectionMerge = 8
place_of Label = 9
place_of Branch = 10
place_of BranchConditional = 11
place_of Return = 12
place_of ReturnValue = 13
place_of Unreachable = 14

abbrev pub opcode_of : InstKind → ℕ
opcode_of k = get_or table (place_of k) 0

-- a number stands in a list, and in the table
abbrev pub among : ℕ → List ℕ → Bool
among n [] = false
among n (x ∷ l) = eqb n x || among n l

abbrev pub in_table : ℕ → Bool
in_table n = among n table
