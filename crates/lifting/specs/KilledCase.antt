-- A text with a case that ends in an exit and has no outputs beside a select with outs (document 02, W2): its list, and both runs computed in
-- the witness's world. The first lap takes the other case, whose value the loop goes on with; the second takes the exit. Assumes nothing.
use Rattle.std.specs.Prelude.{◌≡◌, refl, List, [], ◌∷◌, ℕ}
use Rattle.std.proofs.Math.Option.{none}
use Rattle.std.proofs.Math.Decide.{ℕ_discrete}
use Rattle.lifting.specs.Bytes.{bytes}
use Rattle.lifting.specs.Ast.{eq_value, Func}
use Rattle.lifting.specs.Grammar.{read}
use Rattle.lifting.specs.Limits.{func_words, work_words}
use Rattle.lifting.specs.Words.{list_from}
use Rattle.lifting.specs.Answer.{listed, answer}
use Rattle.lifting.specs.World.{End, Executed, exited}
use Rattle.lifting.specs.RegionRun.{region_step, region_log, region_start}
use Rattle.lifting.specs.BlockRun.{parts, block_step, block_log, block_start}
use Rattle.lifting.specs.Witness.{or_empty, world, done, Comes}

-- (func 0 2 3 0)
-- (const 5 43)
-- (const 6 43)
-- (region (in) (nodes 0) (out))
-- (region (in (0 4)) (nodes 1 2) (out (n 2 0)))
-- (region (in) (nodes) (out (c 1)))
-- (region (in) (nodes 3) (out))
-- (loop 1 (d 0) (init (c 0)) 0)
-- (block 0)
-- (select bool (d 0) (cases 2 3) (outs (0 4)) 0)
-- (exit (inst 252) (r 1 0))
-- (op 0 4 (inst 128) (r 1 0))
unfoldable pub text : List ℕ
text = bytes "(func 0 2 3 0)\n(const 5 43)\n(const 6 43)\n(region (in) (nodes 0) (out))\n(region (in (0 4)) (nodes 1 2) (out (n 2 0)))\n(region (in) (nodes) (out (c 1)))\n(region (in) (nodes 3) (out))\n(loop 1 (d 0) (init (c 0)) 0)\n(block 0)\n(select bool (d 0) (cases 2 3) (outs (0 4)) 0)\n(exit (inst 252) (r 1 0))\n(op 0 4 (inst 128) (r 1 0))\n"

-- the phi of the select, id 12, has one pair, from block 17; block 18 exits
unfoldable pub written_words : List ℕ
written_words = 54 ∷ 0 ∷ 2 ∷ 10 ∷ 1 ∷ 0 ∷ 1 ∷ 0 ∷ 1 ∷ 3 ∷ 248 ∷ 0 ∷ 0 ∷ 14 ∷ 0 ∷ 0 ∷ 249 ∷ 0 ∷ 0 ∷ 0 ∷ 0 ∷ 1 ∷ 15 ∷ 248 ∷ 0 ∷ 0 ∷ 15 ∷ 0 ∷ 0 ∷ 245 ∷ 0 ∷ 4 ∷ 11 ∷ 0 ∷ 4 ∷ 5 ∷ 14 ∷ 12 ∷ 20 ∷ 246 ∷ 0 ∷ 0 ∷ 0 ∷ 1 ∷ 0 ∷ 3 ∷ 0 ∷ 2 ∷ 21 ∷ 20 ∷ 249 ∷ 0 ∷ 0 ∷ 0 ∷ 0 ∷ 1 ∷ 16 ∷ 248 ∷ 0 ∷ 0 ∷ 16 ∷ 0 ∷ 0 ∷ 128 ∷ 0 ∷ 4 ∷ 13 ∷ 0 ∷ 1 ∷ 11 ∷ 247 ∷ 0 ∷ 0 ∷ 0 ∷ 1 ∷ 0 ∷ 2 ∷ 0 ∷ 1 ∷ 19 ∷ 250 ∷ 0 ∷ 0 ∷ 0 ∷ 0 ∷ 3 ∷ 13 ∷ 17 ∷ 18 ∷ 248 ∷ 0 ∷ 0 ∷ 17 ∷ 0 ∷ 0 ∷ 249 ∷ 0 ∷ 0 ∷ 0 ∷ 0 ∷ 1 ∷ 19 ∷ 248 ∷ 0 ∷ 0 ∷ 18 ∷ 0 ∷ 0 ∷ 252 ∷ 0 ∷ 0 ∷ 0 ∷ 0 ∷ 1 ∷ 11 ∷ 248 ∷ 0 ∷ 0 ∷ 19 ∷ 0 ∷ 0 ∷ 245 ∷ 0 ∷ 4 ∷ 12 ∷ 0 ∷ 2 ∷ 6 ∷ 17 ∷ 249 ∷ 0 ∷ 0 ∷ 0 ∷ 0 ∷ 1 ∷ 20 ∷ 248 ∷ 0 ∷ 0 ∷ 20 ∷ 0 ∷ 0 ∷ 250 ∷ 0 ∷ 0 ∷ 0 ∷ 0 ∷ 3 ∷ 13 ∷ 15 ∷ 21 ∷ 248 ∷ 0 ∷ 0 ∷ 21 ∷ 0 ∷ 0 ∷ 253 ∷ 0 ∷ 0 ∷ 0 ∷ 0 ∷ 0 ∷ 56 ∷ 0 ∷ 0 ∷ 0 ∷ 0 ∷ 0 ∷ []

pub is_listed : answer text 10 func_words work_words 16384 ≡ listed written_words 22
unfolding answer text written_words
is_listed = refl

unfoldable pub function : Func
unfolding read text
function = or_empty (read text)

-- two laps, and OpKill with the value that the second began with
abbrev executed : List (Executed ℕ)
executed = done 128 4 none (8 ∷ []) ∷ done 128 4 none (9 ∷ []) ∷ []

abbrev killed : End ℕ
killed = exited (record { opcode = 252; imms = [] }) (9 ∷ [])

pub regions_come : Comes (region_step function world) (region_log function world) (region_start function world) executed killed
unfolding function world eq_value ℕ_discrete
regions_come = (refl, refl)

pub blocks_come : Comes (block_step world (parts (list_from written_words)).blocks) (block_log world (parts (list_from written_words)).blocks) (block_start world function.consts (list_from written_words)) executed killed
unfolding function world list_from written_words ℕ_discrete
blocks_come = (refl, refl)
