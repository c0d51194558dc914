-- What is stored of any text, whole or not: each pool's count, and each list that stands in a pool within its room, whatever the other pools
-- are. Refusals 3 to 5 are judged by this. A definition. Assumes nothing.
use Rattle.std.specs.Prelude.{◌≡◌, List, [], ◌∷◌, map, ℕ, ◌+◌, ◌≤◌, ◌<◌, min, length, get_or}
use Rattle.lifting.specs.Ast.{Func}
use Rattle.func.specs.Layout.{func_need, pool_total, entries, ctrls, entry_room}
use Rattle.func.specs.Store.{count, most, view}
use Rattle.func.specs.Adds.{largest}
use Rattle.func.specs.Keep.{one_word}
use Rattle.func.specs.Whole.{collections, sizes, entry_list}
use Rattle.func.specs.Back.{Rows}

pub record Stored (F : Func) (w : List ℕ) : Type 0 where
  pub size : func_need ≤ length w
  pub head : (j : ℕ) → j < 4 → get_or w j 0 ≡ get_or (F.attrs ∷ F.ret ∷ F.type ∷ F.control ∷ []) j 0
  pub counts : (k : ℕ) → k < pool_total → count k w ≡ min (get_or (sizes F) k 0) (entry_room k + 1)
  -- a pool of parts that is within its room, and the largest first words, whatever the room
  pub views : (k : ℕ) → k < 9 → get_or (sizes F) k 0 ≤ entry_room k → view k w ≡ get_or (collections F) k []
  pub mosts : (k : ℕ) → k < 9 → most k w ≡ largest (get_or (collections F) k [])
  pub entry_most : most entries w ≡ largest (map (λ e. one_word e.0) (entry_list F))
  pub ctrl_most : most ctrls w ≡ largest (map (λ c. one_word c.0) F.ctrls)
  pub rows : Rows F w
