-- How much of an input decides what is answered: the bytes of a text, of the line `(first N)`, and of both one after the other. A program may stop
-- reading there. `proofs/Cut` proves it. Definitions. Assumes nothing.
use Rattle.std.specs.Prelude.{◌≡◌, List, ℕ, suc, ◌+◌, ◌≤◌, take}
use Rattle.std.proofs.Math.Option.{Option, some}
use Rattle.lifting.specs.Limits.{max_bytes}

-- ---- the text

-- the longest text, and a byte more
abbrev pub text_room : ℕ
text_room = suc max_bytes

-- ---- the first line

-- `(first `, ten digits, a bracket and byte 10
abbrev pub longest_line : ℕ
longest_line = 19

-- ---- the input

-- the longest first line, and what decides of a text
abbrev pub input_room : ℕ
input_room = longest_line + text_room

-- Let g tell something of a first line and a text, by no more of the text than decides.
abbrev pub ByText : {A : Type 0} → (Option (ℕ × List ℕ) → A) → Type 0
ByText g = (n k : ℕ) (text : List ℕ) → text_room ≤ k → g (some (n, take k text)) ≡ g (some (n, text))
