-- The line that is printed for an answer of the reader: the refusal's number, or the word `accepted`. Assumes nothing.
--     read_bytes, line_of    by the definition's answer, and by the reader's
--     read_room            how many bytes it has at most
use Rattle.std.specs.Prelude.{List, ◌++◌, ℕ, ◌≤◌, length, Result, Ok, Err}
use Rattle.std.proofs.Common.{arith, lit≤, length-append}
use Rattle.refusals.specs.Numbers.{refusal_number}
use Rattle.refusals.specs.declared.Refusal.{Refusal}
use Rattle.lifting.specs.Bytes.{bytes}
use Rattle.lifting.specs.Digits.{digits}
use Rattle.lifting.specs.Answer as answer
use Rattle.lifting.specs.Answer.{parsed, denied}
use Rattle.print_bytes.specs.Lines.{digits_length}

unfoldable pub read_bytes : answer.Parsed → List ℕ
read_bytes (parsed F) = bytes "accepted\n"
read_bytes (denied n) = digits n ++ bytes "\n"

unfoldable pub line_of : Result Unit Refusal → List ℕ
line_of (Ok u) = bytes "accepted\n"
line_of (Err r) = digits (refusal_number r) ++ bytes "\n"

-- ten digits and byte 10 at most
pub read_room : (p : answer.Parsed) → length (read_bytes p) ≤ 11
unfolding read_bytes
read_room (parsed F) = lit≤ tt
read_room (denied n) = omega (arith, length-append (digits n) (bytes "\n"), digits_length n)
