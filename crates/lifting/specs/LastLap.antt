-- A text with a loop whose body's output is set only after the loop: only if the condition is true are the outputs read, so here they never
-- are, and neither run ends for want of them. Its list, and both runs computed in the witness's world. Assumes nothing.
use Rattle.std.specs.Prelude.{◌≡◌, refl, List, [], ◌∷◌, ℕ}
use Rattle.std.proofs.Math.Option.{none}
use Rattle.std.proofs.Math.Decide.{ℕ_discrete}
use Rattle.lifting.specs.Bytes.{bytes}
use Rattle.lifting.specs.Ast.{eq_value, Func}
use Rattle.lifting.specs.Grammar.{read}
use Rattle.lifting.specs.Limits.{func_words, work_words}
use Rattle.lifting.specs.Words.{list_from}
use Rattle.lifting.specs.Answer.{listed, answer}
use Rattle.lifting.specs.World.{Executed, returned}
use Rattle.lifting.specs.RegionRun.{region_step, region_log, region_start}
use Rattle.lifting.specs.BlockRun.{parts, block_step, block_log, block_start}
use Rattle.lifting.specs.Witness.{or_empty, world, done, Comes}

-- (func 0 2 3 0)
-- (const 5 43)
-- (region (in) (nodes 0 1) (out (d 0)))
-- (region (in (0 4)) (nodes) (out (d 0)))
-- (loop 1 (c 0) (init (c 0)) 0)
-- (block 0)
-- (op 0 4 (inst 128) (r 1 0))
unfoldable pub text : List ℕ
text = bytes "(func 0 2 3 0)\n(const 5 43)\n(region (in) (nodes 0 1) (out (d 0)))\n(region (in (0 4)) (nodes) (out (d 0)))\n(loop 1 (c 0) (init (c 0)) 0)\n(block 0)\n(op 0 4 (inst 128) (r 1 0))\n"

unfoldable pub written_words : List ℕ
written_words = 54 ∷ 0 ∷ 2 ∷ 10 ∷ 1 ∷ 0 ∷ 1 ∷ 0 ∷ 1 ∷ 3 ∷ 248 ∷ 0 ∷ 0 ∷ 13 ∷ 0 ∷ 0 ∷ 249 ∷ 0 ∷ 0 ∷ 0 ∷ 0 ∷ 1 ∷ 14 ∷ 248 ∷ 0 ∷ 0 ∷ 14 ∷ 0 ∷ 0 ∷ 245 ∷ 0 ∷ 4 ∷ 11 ∷ 0 ∷ 4 ∷ 5 ∷ 13 ∷ 12 ∷ 16 ∷ 246 ∷ 0 ∷ 0 ∷ 0 ∷ 1 ∷ 0 ∷ 3 ∷ 0 ∷ 2 ∷ 17 ∷ 16 ∷ 249 ∷ 0 ∷ 0 ∷ 0 ∷ 0 ∷ 1 ∷ 15 ∷ 248 ∷ 0 ∷ 0 ∷ 15 ∷ 0 ∷ 0 ∷ 249 ∷ 0 ∷ 0 ∷ 0 ∷ 0 ∷ 1 ∷ 16 ∷ 248 ∷ 0 ∷ 0 ∷ 16 ∷ 0 ∷ 0 ∷ 250 ∷ 0 ∷ 0 ∷ 0 ∷ 0 ∷ 3 ∷ 5 ∷ 14 ∷ 17 ∷ 248 ∷ 0 ∷ 0 ∷ 17 ∷ 0 ∷ 0 ∷ 128 ∷ 0 ∷ 4 ∷ 12 ∷ 0 ∷ 1 ∷ 11 ∷ 254 ∷ 0 ∷ 0 ∷ 0 ∷ 0 ∷ 1 ∷ 12 ∷ 56 ∷ 0 ∷ 0 ∷ 0 ∷ 0 ∷ 0 ∷ []

pub is_listed : answer text 10 func_words work_words 16384 ≡ listed written_words 18
unfolding answer text written_words
is_listed = refl

unfoldable pub function : Func
unfolding read text
function = or_empty (read text)

-- one lap, then the op with the value that the loop began with
abbrev executed : List (Executed ℕ)
executed = done 128 4 none (8 ∷ []) ∷ []

pub regions_come : Comes (region_step function world) (region_log function world) (region_start function world) executed (returned (1 ∷ []))
unfolding function world eq_value ℕ_discrete
regions_come = (refl, refl)

pub blocks_come : Comes (block_step world (parts (list_from written_words)).blocks) (block_log world (parts (list_from written_words)).blocks) (block_start world function.consts (list_from written_words))
    executed (returned (1 ∷ []))
unfolding function world list_from written_words ℕ_discrete
blocks_come = (refl, refl)
