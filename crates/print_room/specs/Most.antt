-- How many words the programs lend for each slice, and how many bytes they print at most. Definitions. Assumes nothing.
use Rattle.std.specs.Prelude.{ℕ, ◌+◌, ◌*◌}

-- the words of each slice
abbrev pub lent : ℕ
lent = 16384

-- a list's, which has the most: twelve bytes for each word, or a refusal's line
abbrev pub max_printed : ℕ
max_printed = 12 * lent + 21

-- and the line that ends a case
abbrev pub max_case : ℕ
max_case = max_printed + 3
