-- What storing adds to each pool: `Adds w v g` says that from the words w to the words v pool k gained the entries `g k`. It holds
-- whatever the text holds; what a pool holds is known as long as its own count is within its room. Definitions. Assumes nothing.
use Rattle.std.specs.Prelude.{◌≡◌, true, false, List, [], ◌∷◌, ◌++◌, ℕ, ◌+◌, ◌≤◌, ◌<◌, min, max, eqb, length, get_or}
use Rattle.func.specs.Layout.{func_need, pool_total, width, room}
use Rattle.func.specs.Store.{count, most, view}

-- words that can be stored to: long enough, and no count over its room by more than one
pub record AddsReady (w : List ℕ) : Type 0 where
  pub size : func_need ≤ length w
  pub counts : (k : ℕ) → k < pool_total → count k w ≤ room k + 1

-- the largest first word of entries
abbrev pub largest : List (List ℕ) → ℕ
largest [] = 0
largest (e ∷ es) = max (get_or e 0 0) (largest es)

pub record Adds (w v : List ℕ) (g : ℕ → List (List ℕ)) : Type 0 where
  pub len : length v ≡ length w
  pub head : (j : ℕ) → j < 4 → get_or v j 0 ≡ get_or w j 0
  pub counts : (k : ℕ) → k < pool_total → count k v ≡ min (count k w + length (g k)) (room k + 1)
  pub mosts : (k : ℕ) → k < pool_total → most k v ≡ max (most k w) (largest (g k))
  pub views : (k : ℕ) → k < pool_total → count k v ≤ room k → view k v ≡ view k w ++ g k

-- entries of one pool
unfoldable pub into_pool : ℕ → List (List ℕ) → ℕ → List (List ℕ)
into_pool k es j = elim (eqb k j) [ true ↦ es | false ↦ [] ]

-- entries of the width of pool k
abbrev pub Wide : ℕ → List (List ℕ) → Type 0
Wide k [] = Unit {0}
Wide k (e ∷ es) = (length e ≡ width k) × Wide k es

-- a list stored by one rule: what each element gains, from the words that it finds
unfoldable pub grown : {A : Type 0} → (A → List ℕ → List ℕ) → (A → List ℕ → ℕ → List (List ℕ)) → List A → List ℕ → ℕ → List (List ℕ)
grown f g [] w k = []
grown f g (a ∷ xs) w k = g a w k ++ grown f g xs (f a w) k
