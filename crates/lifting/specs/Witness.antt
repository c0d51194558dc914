-- A text with a loop that swaps two values and a select: its list, and both runs computed in one world, so that nobody can think the claim
-- of demand 3 empty. The loop runs two laps, the select takes its second case. Assumes nothing.
use Rattle.std.specs.Prelude.{◌≡◌, refl, Bool, true, false, List, [], ◌∷◌, ℕ, zero, suc, ◌+◌, get_or}
use Rattle.std.proofs.Math.Option.{Option, none, some}
use Rattle.std.proofs.Math.Decide.{ℕ_discrete}
use Rattle.lifting.specs.Bytes.{bytes}
use Rattle.lifting.specs.Ast.{eq_value, Func}
use Rattle.lifting.specs.Grammar.{read}
use Rattle.lifting.specs.Limits.{func_words, work_words}
use Rattle.lifting.specs.Words.{list_from}
use Rattle.lifting.specs.Answer.{listed, answer}
use Rattle.lifting.specs.Machine.{Out, halt, state_after}
use Rattle.lifting.specs.World.{World, Executed, End, returned}
use Rattle.lifting.specs.RegionRun.{region_step, region_log, region_start}
use Rattle.lifting.specs.BlockRun.{parts, block_step, block_log, block_start}

-- (func 0 2 3 0)
-- (const 5 43)
-- (const 6 43)
-- (region (in) (nodes 0 3 4) (out (n 3 0)))
-- (region (in (0 4) (0 4)) (nodes 1) (out (r 1 1) (r 1 0)))
-- (region (in) (nodes) (out (c 0)))
-- (region (in) (nodes 2) (out (d 1)))
-- (loop 1 (d 0) (init (c 0) (c 1)) 0)
-- (block 0)
-- (block 1)
-- (select bool (c 1) (cases 2 3) (outs (0 4)) 0)
-- (block 2)
-- (op 0 4 (inst 128) (r 1 0) (r 1 1))
-- (op 0 4 (inst 129) (r 1 0))
-- (op 0 0 (call 7) (n 3 0))
unfoldable pub text : List ℕ
text = bytes "(func 0 2 3 0)\n(const 5 43)\n(const 6 43)\n(region (in) (nodes 0 3 4) (out (n 3 0)))\n(region (in (0 4) (0 4)) (nodes 1) (out (r 1 1) (r 1 0)))\n(region (in) (nodes) (out (c 0)))\n(region (in) (nodes 2) (out (d 1)))\n(loop 1 (d 0) (init (c 0) (c 1)) 0)\n(block 0)\n(block 1)\n(select bool (c 1) (cases 2 3) (outs (0 4)) 0)\n(block 2)\n(op 0 4 (inst 128) (r 1 0) (r 1 1))\n(op 0 4 (inst 129) (r 1 0))\n(op 0 0 (call 7) (n 3 0))\n"

unfoldable pub written_words : List ℕ
written_words = 54 ∷ 0 ∷ 2 ∷ 10 ∷ 1 ∷ 0 ∷ 1 ∷ 0 ∷ 1 ∷ 3 ∷ 248 ∷ 0 ∷ 0 ∷ 16 ∷ 0 ∷ 0 ∷ 249 ∷ 0 ∷ 0 ∷ 0 ∷ 0 ∷ 1 ∷ 17 ∷ 248 ∷ 0 ∷ 0 ∷ 17 ∷ 0 ∷ 0 ∷ 245 ∷ 0 ∷ 4 ∷ 11 ∷ 0 ∷ 4 ∷ 5 ∷ 16 ∷ 12 ∷ 19 ∷ 245 ∷ 0 ∷ 4 ∷ 12 ∷ 0 ∷ 4 ∷ 6 ∷ 16 ∷ 11 ∷ 19 ∷ 246 ∷ 0 ∷ 0 ∷ 0 ∷ 1 ∷ 0 ∷ 3 ∷ 0 ∷ 2 ∷ 20 ∷ 19 ∷ 249 ∷ 0 ∷ 0 ∷ 0 ∷ 0 ∷ 1 ∷ 18 ∷ 248 ∷ 0 ∷ 0 ∷ 18 ∷ 0 ∷ 0 ∷ 128 ∷ 0 ∷ 4 ∷ 14 ∷ 0 ∷ 2 ∷ 11 ∷ 12 ∷ 249 ∷ 0 ∷ 0 ∷ 0 ∷ 0 ∷ 1 ∷ 19 ∷ 248 ∷ 0 ∷ 0 ∷ 19 ∷ 0 ∷ 0 ∷ 250 ∷ 0 ∷ 0 ∷ 0 ∷ 0 ∷ 3 ∷ 14 ∷ 17 ∷ 20 ∷ 248 ∷ 0 ∷ 0 ∷ 20 ∷ 0 ∷ 0 ∷ 247 ∷ 0 ∷ 0 ∷ 0 ∷ 1 ∷ 0 ∷ 2 ∷ 0 ∷ 1 ∷ 23 ∷ 250 ∷ 0 ∷ 0 ∷ 0 ∷ 0 ∷ 3 ∷ 6 ∷ 21 ∷ 22 ∷ 248 ∷ 0 ∷ 0 ∷ 21 ∷ 0 ∷ 0 ∷ 249 ∷ 0 ∷ 0 ∷ 0 ∷ 0 ∷ 1 ∷ 23 ∷ 248 ∷ 0 ∷ 0 ∷ 22 ∷ 0 ∷ 0 ∷ 129 ∷ 0 ∷ 4 ∷ 15 ∷ 0 ∷ 1 ∷ 11 ∷ 249 ∷ 0 ∷ 0 ∷ 0 ∷ 0 ∷ 1 ∷ 23 ∷ 248 ∷ 0 ∷ 0 ∷ 23 ∷ 0 ∷ 0 ∷ 245 ∷ 0 ∷ 4 ∷ 13 ∷ 0 ∷ 4 ∷ 5 ∷ 21 ∷ 15 ∷ 22 ∷ 57 ∷ 0 ∷ 0 ∷ 0 ∷ 0 ∷ 2 ∷ 7 ∷ 13 ∷ 254 ∷ 0 ∷ 0 ∷ 0 ∷ 0 ∷ 1 ∷ 13 ∷ 56 ∷ 0 ∷ 0 ∷ 0 ∷ 0 ∷ 0 ∷ []

pub is_listed : answer text 10 func_words work_words 16384 ≡ listed written_words 24
unfolding answer text written_words
is_listed = refl

abbrev pub or_empty : Option Func → Func
or_empty none = record { attrs = 0; ret = 0; type = 0; control = 0; consts = []; params = []; regions = []; nodes = []; ops = []; ctrls = [] }
or_empty (some F) = F

unfoldable pub function : Func
unfolding read text
function = or_empty (read text)

-- constants 8 and 9; the results of ops in order: 1, 0, 12, 13, ..; 1 alone is true
abbrev is_one : ℕ → Bool
is_one zero = false
is_one (suc zero) = true
is_one (suc (suc n)) = false

unfoldable pub world : World ℕ
world = record {
  arg = λ i. 0;
  constant = λ c. c + 8;
  result = λ n. get_or (1 ∷ 0 ∷ []) n (n + 10);
  truth = is_one;
  rule = λ i vs n. 0;
  rule_lt = λ i vs n h. h;
}

abbrev pub done : ℕ → ℕ → Option ℕ → List ℕ → Executed ℕ
done op t callee vs = record { opcode = op; attrs = 0; type = t; imms = []; callee = callee; vals = vs }

-- the first lap, the second with the values swapped, the second case, and a call with what it gave
abbrev executed : List (Executed ℕ)
executed = done 128 4 none (8 ∷ 9 ∷ []) ∷ done 128 4 none (9 ∷ 8 ∷ []) ∷ done 129 4 none (9 ∷ []) ∷ done 57 0 (some 7) (12 ∷ []) ∷ []

abbrev pub Comes : {S : Type 0} → (S → Out S (End ℕ)) → (S → List (Executed ℕ)) → S → List (Executed ℕ) → End ℕ → Type 0
Comes step log s l h = (log (state_after step 40 s) ≡ l) × (step (state_after step 40 s) ≡ halt h)

pub regions_come : Comes (region_step function world) (region_log function world) (region_start function world) executed (returned (12 ∷ []))
unfolding function world eq_value ℕ_discrete
regions_come = (refl, refl)

pub blocks_come : Comes (block_step world (parts (list_from written_words)).blocks) (block_log world (parts (list_from written_words)).blocks) (block_start world function.consts (list_from written_words))
    executed (returned (12 ∷ []))
unfolding function world list_from written_words ℕ_discrete
blocks_come = (refl, refl)
