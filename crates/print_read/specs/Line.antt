-- The line that is printed for an answer of the reader is that of the definition's. Assumes nothing.
--     line_is    for what stands in the function slice
use Rattle.std.specs.Prelude.{◌≡◌, refl, List, ℕ, Result, Ok, Err}
use Rattle.refusals.specs.declared.Refusal.{Refusal}
use Rattle.reader.specs.Parse.{answer_of}
use Rattle.print_refusal.specs.Line.{line_of, read_bytes}

-- the function slice holds the function of an accepted text
pub line_is : (p : Result Unit Refusal) (func : List ℕ) → line_of p ≡ read_bytes (answer_of p func)
unfolding line_of read_bytes
line_is (Ok u) func = refl
line_is (Err r) func = refl
