-- The numbers that a caller of the library gets of an answer. Assumes nothing.
--     no_list                                a refusal that tells no word count
--     read_number                            of a text that is only read
--     lift_number, words_after, next_after     of a text that is lifted: the refusal's number, the word count and the next free id
use Rattle.std.specs.Prelude.{Bool, true, false, ℕ, eqb, Result, Ok, Err}
use Rattle.refusals.specs.declared.Refusal.{Refusal}
use Rattle.refusals.specs.declared.Refusal.TheVariants.{Output}
use Rattle.refusals.specs.Numbers.{refusal_number}
use Rattle.results.specs.declared.Lifted.{Lifted}
use Rattle.results.specs.declared.Unlifted.{Unlifted}

-- a refusal but 11, which alone tells a word count
abbrev pub no_list : Refusal → Unlifted
no_list r = record { refusal = r; wanted = 0 }

-- 0 for a text that is read, else the refusal's number
abbrev pub read_number : Result Unit Refusal → ℕ
read_number (Ok u) = 0
read_number (Err r) = refusal_number r

-- 0 for a list, else the refusal's number
abbrev pub lift_number : Result Lifted Unlifted → ℕ
lift_number (Ok l) = 0
lift_number (Err e) = refusal_number e.refusal

-- refusal 11 tells the count of words that are wanted; any other leaves what was there
abbrev pub wanted_if11 : Bool → ℕ → ℕ → ℕ
wanted_if11 true wanted old = wanted
wanted_if11 false wanted old = old

-- the same of a refusal and what it tells
abbrev pub refusal_words : Refusal → ℕ → ℕ → ℕ
refusal_words r told old = wanted_if11 (eqb (refusal_number r) (refusal_number Output)) told old

-- the word count, and the next free id; what was there before is `old`
abbrev pub words_after : Result Lifted Unlifted → ℕ → ℕ
words_after (Ok l) old = l.words
words_after (Err e) old = refusal_words e.refusal e.wanted old

abbrev pub next_after : Result Lifted Unlifted → ℕ → ℕ
next_after (Ok l) old = l.next
next_after (Err e) old = old
