-- A line of the text as cells: a number, or a list of entries of one pool. To keep a line is to push its lists to their pools and then a
-- row to the line's own pool: a word for each cell, which for a list says where it stands, as start · 4096 + count. Assumes nothing.
--     Piece, Row     that a list stands where its word says, and that a row says what its line says
use Rattle.std.specs.Prelude.{◌≡◌, refl, Bool, true, not, ◌&&◌, ℕ, suc, ◌+◌, ◌-◌, ◌*◌, ◌/◌, ◌%◌, ◌≤◌, ◌<◌, min, ltb, eqb, length, get_or, take, drop}
use Rattle.std.proofs.Common.{ap}
use Rattle.std.proofs.Math.Bool.{false}
use mathlib.Core.List.{List, [], ◌∷◌}
use Rattle.func.specs.Layout.{pool_total, width, entry_room}
use Rattle.func.specs.Store.{count, view, push, folds}
use Rattle.func.specs.Adds.{Adds, Wide}

pub data Cell : Type 0 where
  num : ℕ → Cell
  run : ℕ → List (List ℕ) → Cell

-- a run's word, from the count before its list and the count after it
abbrev pub low : ℕ → ℕ
low n = min n 4095

unfoldable pub pool_span : ℕ → ℕ → ℕ
pool_span a b = low a * 4096 + (low b - low a)

-- the lists of a line, each pushed to its pool
unfoldable pub keep_cells : List Cell → List ℕ → List ℕ
keep_cells [] w = w
keep_cells (num n ∷ cs) w = keep_cells cs w
keep_cells (run p es ∷ cs) w = keep_cells cs (folds (push p) es w)

-- the row of a line whose lists were pushed from the words w to the words v
unfoldable pub row_of : List Cell → List ℕ → List ℕ → List ℕ
row_of [] w v = []
row_of (num n ∷ cs) w v = n ∷ row_of cs w v
row_of (run p es ∷ cs) w v = pool_span (count p w) (count p v) ∷ row_of cs w v

unfoldable pub keep_row : ℕ → List Cell → List ℕ → List ℕ
keep_row k cs w = push k (row_of cs w (keep_cells cs w)) (keep_cells cs w)

-- what the pools hold at a run
unfoldable pub pool_slice : ℕ → List ℕ → ℕ → List (List ℕ)
pool_slice k w x = take (x % 4096) (drop (x / 4096) (view k w))

-- what a line's lists add to pool j
unfoldable pub gained : List Cell → ℕ → List (List ℕ)
gained [] j = []
gained (num n ∷ cs) j = gained cs j
gained (run p es ∷ cs) j = elim (eqb p j) [ true ↦ es | false ↦ gained cs j ]

-- no list of the line goes to pool p; each goes to a pool of its own
unfoldable pub fresh_pool : ℕ → List Cell → Bool
fresh_pool p [] = true
fresh_pool p (num n ∷ cs) = fresh_pool p cs
fresh_pool p (run q es ∷ cs) = not (eqb q p) && fresh_pool p cs

unfoldable pub proper : List Cell → Bool
unfolding fresh_pool
proper [] = true
proper (num n ∷ cs) = proper cs
proper (run p es ∷ cs) = ltb p pool_total && fresh_pool p cs && proper cs

-- and has that pool's width
abbrev pub WideCells : List Cell → Type 0
WideCells [] = Unit {0}
WideCells (num n ∷ cs) = WideCells cs
WideCells (run p es ∷ cs) = Wide p es × WideCells cs

-- a whole line
unfoldable pub line_gain : ℕ → List Cell → List ℕ → ℕ → List (List ℕ)
unfolding gained
line_gain k cs row j = elim (eqb k j) [ true ↦ row ∷ [] | false ↦ gained cs j ]

pub length_row : (cs : List Cell) (w v : List ℕ) → length (row_of cs w v) ≡ length cs
unfolding row_of
length_row [] w v = refl
length_row (num n ∷ cs) w v = ap suc (length_row cs w v)
length_row (run p es ∷ cs) w v = ap suc (length_row cs w v)

-- a line that can be kept in pool k
pub record Line (k : ℕ) (cs : List Cell) : Type 0 where
  pub pool : k < pool_total
  pub own : fresh_pool k cs ≡ true
  pub size : length cs ≡ width k
  pub lists : proper cs ≡ true
  pub wide : WideCells cs

-- The words t came later than the words v.
pub record Later (v t : List ℕ) : Type 0 where
  pub rest : ℕ → List (List ℕ)
  pub adds : Adds v t rest

-- the word x is a run of pool p, and the entries es stand there
pub record Piece (p : ℕ) (es : List (List ℕ)) (w : List ℕ) (x : ℕ) : Type 0 where
  pub within : x / 4096 + x % 4096 ≤ count p w
  pub is : pool_slice p w x ≡ es

-- a cell of a row: a list stands in its pool, if that is within its room, whatever the others are; and a row
abbrev pub CellIs : List ℕ → ℕ → Cell → Type 0
CellIs w x (num n) = x ≡ n
CellIs w x (run p es) = count p w ≤ entry_room p → Piece p es w x

pub record Row (w e : List ℕ) (cs : List Cell) : Type 0 where
  pub cell : (j : ℕ) → j < length cs → CellIs w (get_or e j 0) (get_or cs j (num 0))

-- the lists of a line are what each of their pools gained
abbrev pub Agree : (ℕ → List (List ℕ)) → List Cell → Type 0
Agree g [] = Unit {0}
Agree g (num n ∷ cs) = Agree g cs
Agree g (run p es ∷ cs) = (p < pool_total) × (g p ≡ es) × Agree g cs

-- Rows and lines, one for one.
pub data RowsEach {A : Type 0} (P : List ℕ → A → Type 0) : List (List ℕ) → List A → Type 0 where
  none : RowsEach P [] []
  more : {e : List ℕ} {es : List (List ℕ)} {a : A} {xs : List A} → P e a → RowsEach P es xs → RowsEach P (e ∷ es) (a ∷ xs)
