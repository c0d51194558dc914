-- Storing in the function slice is a function on its words. `push k e w` stores the entry e in pool k where there is room and counts on;
-- else the count stays one above the room. The largest first word that pool k was given, stored or not, stands at word 18 + k: of a list
-- of references it tells whether all of them name something, also where the pool has no room for all. `view k w` is what pool k holds.
-- Definitions. Assumes nothing.
use Rattle.std.specs.Prelude.{true, false, List, [], ◌∷◌, ℕ, ◌+◌, ◌*◌, min, max, ltb, get_or, set}
use Rattle.std.proofs.lemmas.List.Edits.{sets}
use Rattle.general_laws.specs.Part.{part}
use Rattle.general_laws.specs.Tab.{tab}
use Rattle.func.specs.Layout.{base, width, room}

-- the largest first word of what pool k was given
unfoldable pub most : ℕ → List ℕ → ℕ
most k w = get_or w (18 + k) 0

-- how many entries pool k was given, up to one above its room
unfoldable pub count : ℕ → List ℕ → ℕ
count k w = get_or w (4 + k) 0

-- entry i of pool k, and all that the pool holds
unfoldable pub entry : ℕ → List ℕ → ℕ → List ℕ
entry k w i = part (base k + i * width k) (width k) w

unfoldable pub view : ℕ → List ℕ → List (List ℕ)
view k w = tab (min (count k w) (room k)) (entry k w)

unfoldable pub stored : ℕ → List ℕ → List ℕ → List ℕ
unfolding count
stored k e w = set (sets w (base k + count k w * width k) e) (4 + k) (count k w + 1)

-- an entry placed, and counted
unfoldable pub place : ℕ → List ℕ → List ℕ → List ℕ
unfolding count stored
place k e w = elim (ltb (count k w) (room k)) [ true ↦ stored k e w | false ↦ set w (4 + k) (room k + 1) ]

-- each of a list in turn
unfoldable pub folds : {A S : Type 0} → (A → S → S) → List A → S → S
folds f [] w = w
folds f (a ∷ xs) w = folds f xs (f a w)

-- The largest first word, and a push: both.
unfoldable pub raise : ℕ → ℕ → List ℕ → List ℕ
raise k n w = set w (18 + k) (max (most k w) n)

unfoldable pub push : ℕ → List ℕ → List ℕ → List ℕ
unfolding raise place
push k e w = raise k (get_or e 0 0) (place k e w)
