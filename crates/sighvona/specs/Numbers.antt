-- What crosses to C: numbers. Assumes nothing.
--     refusal_of, words_or, next_or       of a text that is lifted
--     read_to, read_of, read_leaves       of a text that is only read
--     version                          of the library
--     numbers, read_number_law             by what the entry and the reader answer
use Rattle.std.specs.Prelude.{◌≡◌, refl, Bool, true, false, List, ℕ, ◌+◌, ◌*◌, eqb, length, replicate, Result, Ok, Err}
use Rattle.std.proofs.Common.{ap, ◌∙◌, arith, eqb-true}
use Rattle.refusals.specs.declared.Refusal.{Refusal}
use Rattle.refusals.specs.declared.Refusal.TheVariants.{Output, Scratch}
use Rattle.refusals.specs.Numbers.{refusal_number}
use Rattle.results.specs.declared.Lifted.{Lifted}
use Rattle.results.specs.declared.Unlifted.{Unlifted}
use Rattle.results.specs.Told.{lift_number, next_after, read_number, refusal_words, wanted_if11, words_after}
use Rattle.lifting.specs.Answer.{Answer, Parsed, denied, listed, parse, parsed, refused, zeros_unless8}
use Rattle.reader.specs.Parse.{answer_of}
use Rattle.emit_output.specs.Emit.{Wants, outcome, told}

-- 0 for a list, else the refusal's number
abbrev pub refusal_of : Answer → ℕ
refusal_of (listed ws next) = 0
refusal_of (refused n) = n

-- the word count
abbrev pub words_or : Answer → ℕ → ℕ → ℕ
words_or (listed ws next) wanted old = length ws
words_or (refused n) wanted old = wanted_if11 (eqb n (refusal_number Output)) wanted old

-- the next free id; a refusal leaves what was there
abbrev pub next_or : Answer → ℕ → ℕ
next_or (listed ws next) old = next
next_or (refused n) old = old

-- ---- of a text that is only read

-- by the text's bytes and the lengths of the two slices that are lent: function slice, work slice
abbrev pub read_to : List ℕ → List ℕ → List ℕ → Parsed
read_to text func work = parse text (length func) (length work)

-- 0 for a text that passes 8, 1 to 7 and 13, else the refusal's number
abbrev pub read_of : Parsed → ℕ
read_of (parsed F) = 0
read_of (denied n) = n

-- Both scratch slices end as zeros, except after 8, when they keep their words.
abbrev pub read_leaves : Parsed → List ℕ → List ℕ
read_leaves (parsed F) scratch = replicate (length scratch) 0
read_leaves (denied n) scratch = zeros_unless8 (eqb n (refusal_number Scratch)) scratch

-- ---- of the library

-- major, minor and patch as one number: 0.6.0
abbrev pub version : ℕ
version = 0 * 65536 + 6 * 256 + 0

-- ---- by what the entry and the reader answer

pub record Crosses (a : Answer) (r : Result Lifted Unlifted) (wanted words next : ℕ) : Type 0 where
  pub refusal : lift_number r ≡ refusal_of a
  pub count : words_after r words ≡ words_or a wanted words
  pub free : next_after r next ≡ next_or a next

-- only refusal 11 has a count
refusal_words_law : (r : Refusal) (told wanted old : ℕ) → (refusal_number r ≡ refusal_number Output → told ≡ wanted) → refusal_words r told old ≡ refusal_words r wanted old
refusal_words_law r told wanted old h = go (eqb (refusal_number r) (refusal_number Output)) refl
  where
    go : (b : Bool) → eqb (refusal_number r) (refusal_number Output) ≡ b → wanted_if11 b told old ≡ wanted_if11 b wanted old
    go true e = h (eqb-true (refusal_number r) (refusal_number Output) e)
    go false e = refl

pub numbers : (a : Answer) (r : Result Lifted Unlifted) (wanted words next : ℕ) → told r ≡ outcome a → Wants wanted r → Crosses a r wanted words next
numbers (listed ws j) (Ok l) wanted words next e h = record { refusal = refl; count = cc; free = cc }
numbers (listed ws j) (Err f) wanted words next e h = absurd (let z : ◌≡◌ {A = ℕ} 0 1 = cc in omega arith)
numbers (refused j) (Ok l) wanted words next e h = absurd (let z : ◌≡◌ {A = ℕ} 0 1 = cc in omega arith)
numbers (refused j) (Err f) wanted words next e h =
    let is : refusal_number f.refusal ≡ j = cc in
    record { refusal = is; count = refusal_words_law f.refusal f.wanted wanted words h ∙ ap (λ (i : ℕ). wanted_if11 (eqb i (refusal_number Output)) wanted words) is; free = refl }

-- the function slice holds the function of a text that is read
pub read_number_law : (r : Result Unit Refusal) (func : List ℕ) → read_number r ≡ read_of (answer_of r func)
read_number_law (Ok u) func = refl
read_number_law (Err x) func = refl
