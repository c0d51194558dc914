-- How the block run leaves a block, by computation, for lists that nobody emits too: a row is the instructions of block 1 and the end of the
-- run. And what each machine does where it cannot go on. Assumes nothing.
use Rattle.std.specs.Prelude.{◌≡◌, refl, List, [], ◌∷◌, ◌++◌, map, ℕ}
use Rattle.std.proofs.Math.Decide.{ℕ_discrete}
use Rattle.lifting.specs.Machine.{Out, halt, state_after}
use Rattle.lifting.specs.Ast.{Const, Func, Value}
use Rattle.lifting.specs.Instructions.{Instruction}
use Rattle.lifting.specs.World.{World, End, returned, exited, dead, unset, stuck, Mem}
use Rattle.lifting.specs.RegionRun.{region_step}
use Rattle.lifting.specs.BlockRun.{BlockState, parts, go_to, block_step, block_start}
use Rattle.lifting.specs.Witness.{world}

abbrev bare : ℕ → ℕ → List ℕ → Instruction
bare opcode result ids = record { opcode = opcode; attrs = 0; type = 0; result = result; imms = []; ids = ids }

abbrev way : ℕ → List ℕ → List Instruction
way opcode ids = bare opcode 0 ids ∷ []

-- block 1, and block 2, which returns 9; ids 5 and 6 are the constants 8 and 9, which are not true
abbrev two_blocks : List Instruction → List Instruction
two_blocks l = bare 248 1 [] ∷ (l ++ (bare 248 2 [] ∷ way 254 (6 ∷ [])))

abbrev consts : List Const
consts = record { id = 5; opcode = 43 } ∷ record { id = 6; opcode = 43 } ∷ []

abbrev last : List Instruction → Out (BlockState ℕ) (End ℕ)
last l = let step = block_step world (parts (two_blocks l)).blocks in step (state_after step 2 (block_start world consts (two_blocks l)))

abbrev exit_by : ℕ → List ℕ → End ℕ
exit_by opcode vs = exited (record { opcode = opcode; imms = [] }) vs

abbrev pub endings : List (List Instruction × End ℕ)
endings =
    -- 253 and 254 return, 255 is unreachable
    (way 253 [], returned []) ∷ (way 254 (5 ∷ []), returned (8 ∷ [])) ∷ (way 255 [], dead)
    -- 249 goes to its target, any other with targets to the one that the rule picks
    ∷ (way 249 (2 ∷ []), returned (9 ∷ [])) ∷ (way 250 (5 ∷ 1 ∷ 2 ∷ []), returned (9 ∷ [])) ∷ (way 251 (5 ∷ 2 ∷ 1 ∷ []), returned (9 ∷ []))
    -- and one without is an exit
    ∷ (way 249 [], exit_by 249 []) ∷ (way 250 (5 ∷ []), exit_by 250 (8 ∷ [])) ∷ (way 252 (5 ∷ 6 ∷ []), exit_by 252 (8 ∷ 9 ∷ []))
    -- an id that is no label is an input, and 3 is never set
    ∷ (way 249 (3 ∷ []), unset)
    -- a pick beyond the targets, and a block without instructions
    ∷ (way 250 (5 ∷ 2 ∷ []), stuck) ∷ ([], stuck) ∷ []

pub endings_hold : map (λ r. last r.0) endings ≡ map (λ r. halt r.1) endings
unfolding world ℕ_discrete
endings_hold = refl

pub no_such_label : (m : Mem ℕ ℕ) → go_to world (parts (two_blocks [])).blocks 1 3 m ≡ halt stuck
unfolding ℕ_discrete
no_such_label m = refl

module _ {Val : Type 0} (W : World Val) where
  pub no_block : (cs : List Const) → block_step W [] (block_start W cs []) ≡ halt stuck
  no_block cs = refl

  pub no_task : (F : Func) (m : Mem Val Value) → region_step F W (record { todo = []; mem = m }) ≡ halt stuck
  no_task F m = refl
