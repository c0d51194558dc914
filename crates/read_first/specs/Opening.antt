-- Document 01, 'The instruction list': 'The program `lift` reads a line `(first 10)`, the first id, then the text', as a format of the text's own
-- kinds, and what an answer says was read. Assumes nothing.
use Rattle.std.specs.Prelude.{◌≡◌, refl, ℕ, Option, None, Some}
use Rattle.std.proofs.Math.Option as answer
use Rattle.std.proofs.Math.Option.{none, some}
use Rattle.lifting.specs.Bytes.{bytes}
use Rattle.lifting.specs.Digits.{number, number_from}
use Rattle.lifting.specs.Codec.{Codec, strip, lit, num, seq, same, view_as}
use Rattle.lifting.specs.Grammar.{before, after_word, closed, line, field, one_codec}

-- `(first N)` and byte 10
unfoldable pub first_line_form : Codec ℕ
first_line_form = line "first" one_codec

-- the first id and the place where the text starts, or nothing
abbrev pub first_answer : Option (ℕ × ℕ) → answer.Option (ℕ × ℕ)
first_answer (Some x) = some x
first_answer None = none

-- document 01's example, and a number with a leading zero
pub first_read : first_line_form.read (bytes "(first 10)\n(func") ≡ some (10, bytes "(func")
unfolding first_line_form line one_codec field closed before after_word lit num seq same view_as strip number number_from
first_read = refl

pub first_zero : first_line_form.read (bytes "(first 010)\n") ≡ none
unfolding first_line_form line one_codec field closed before after_word lit num seq same view_as strip number number_from
first_zero = refl
