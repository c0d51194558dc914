-- An edge by the word that stands for it in the work slice. Assumes nothing.
use Rattle.std.specs.Prelude.{ℕ, ◌+◌, Option, None, Some}

-- 1 + its number, or 0 for none
abbrev pub edge_word : Option ℕ → ℕ
edge_word None = 0
edge_word (Some e) = e + 1
