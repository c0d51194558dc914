-- When the bytes of an input that were read decide what is printed for it. Assumes nothing.
--     known_by, known_decides      an input with a first line
--     text_known, text_decides     a text alone
--     known_for                    by the command
--     known_room                   where nothing is known yet there is room for more
use Rattle.std.specs.Prelude as rust
use Rattle.std.specs.Prelude.{◌≡◌, refl, Bool, true, false, not, cond, List, ◌++◌, ℕ, ◌≤◌, ◌<◌, leb, ltb, length, None, Some}
use Rattle.std.proofs.Common.{sym, ◌∙◌, arith, true≢false, le-ltb, le-leb, leb-true, leb-false, lt-ltb, ltb-false}
use Rattle.std.specs.Option.{is_some}
use Rattle.std.proofs.Math.Path.{ap}
use Rattle.std.proofs.Math.Option.{Option, none, some}
use Rattle.std.proofs.Math.Seq.{take-append_seam}
use Rattle.std.proofs.lemmas.Bool.{lt-leb}
use Rattle.lifting.specs.Answer.{parse}
use Rattle.read_cursor.specs.Read.{Reads, rest_from}
use Rattle.command.specs.declared.Command.{Command}
use Rattle.command.specs.declared.Command.TheVariants.{Lift, Read, Blocks, Help, Unknown}
use Rattle.read_first.specs.Opening.{first_line_form, first_answer}
use Rattle.read_first.specs.Cut.{ByText, input_room, longest_line, text_room}
use Rattle.read_first.proofs.Cut.{bad_stays, input_more, parse_cut}

-- a bad first line
abbrev pub is_bad : Option (ℕ × List ℕ) → Bool
is_bad none = true
is_bad (some x) = false

-- Enough bytes for the longest first line, and either enough for all that decides, or no first line among them.
unfoldable pub known_by : List ℕ → Bool
unfolding first_line_form
known_by input = cond (ltb (length input) longest_line) false (cond (leb input_room (length input)) true (is_bad (first_line_form.read input)))

-- What is told of an input's first line and text is known then: nothing that follows changes it.
pub known_decides : {A : Type 0} (g : Option (ℕ × List ℕ) → A) → ByText g → (input : List ℕ) → known_by input ≡ true
    → (more : List ℕ) → g (first_line_form.read input) ≡ g (first_line_form.read (input ++ more))
unfolding known_by
known_decides g by_text input known more = go (ltb (length input) longest_line) refl (leb input_room (length input)) refl (first_line_form.read input) refl known
  where
    go : (a : Bool) → ltb (length input) longest_line ≡ a → (b : Bool) → leb input_room (length input) ≡ b → (o : Option (ℕ × List ℕ)) → first_line_form.read input ≡ o
        → cond a false (cond b true (is_bad o)) ≡ true → g (first_line_form.read input) ≡ g (first_line_form.read (input ++ more))
    go true short b e o f k = absurd (true≢false (sym k))
    go false long true e o f k = input_more g by_text input more (leb-true input_room (length input) e)
    go false long false e none f k = ap g (f ∙ sym (bad_stays input more (ltb-false (length input) longest_line long) f))
    go false long false e (some x) f k = absurd (true≢false (sym k))

-- So many bytes of a text that it is too long, or as many as decide.
unfoldable pub text_known : List ℕ → Bool
text_known text = leb text_room (length text)

pub text_decides : (text : List ℕ) → text_known text ≡ true → (more : List ℕ) (func work : ℕ) → parse text func work ≡ parse (text ++ more) func work
unfolding text_known
text_decides text known more func work =
    ap (λ (t : List ℕ). parse t func work) (sym (take-append_seam text more))
    ∙ parse_cut (length text) (leb-true text_room (length text) known) (text ++ more) func work

-- A command without an input reads nothing.
unfoldable pub known_for : Command → List ℕ → Bool
known_for Lift input = known_by input
known_for Read input = text_known input
known_for Blocks input = text_known input
known_for Help input = true
known_for Unknown input = true

-- ---- the tests of `text_known` and of `input_known`, one after the other

pub text_short : (text : List ℕ) → length text < text_room → false ≡ text_known text
unfolding text_known
text_short text h = sym (lt-leb text_room (length text) h)

pub text_enough : (text : List ℕ) → text_room ≤ length text → true ≡ text_known text
unfolding text_known
text_enough text h = sym (le-leb text_room (length text) h)

abbrev tests : List ℕ → Bool → Bool → Bool
tests input short enough = cond short false (cond enough true (is_bad (first_line_form.read input)))

module _ (input : List ℕ) where
  known_is : (a b : Bool) → ltb (length input) longest_line ≡ a → leb input_room (length input) ≡ b → known_by input ≡ tests input a b
  unfolding known_by
  known_is a b e f = ap (λ (q : Bool). tests input q (leb input_room (length input))) e ∙ ap (tests input a) f

  pub known_short : length input < longest_line → false ≡ known_by input
  known_short h = sym (known_is true (leb input_room (length input)) (lt-ltb (length input) longest_line h) refl)

  module _ (long : longest_line ≤ length input) where
    pub known_enough : input_room ≤ length input → true ≡ known_by input
    known_enough h = sym (known_is false true (le-ltb (length input) longest_line long) (le-leb input_room (length input) h))

    module _ (few : length input < input_room) (r : rust.Option (ℕ × ℕ)) (reads : Reads first_line_form.read input 0 (first_answer r)) where
      by_line : {x : rust.Option (ℕ × ℕ)} → r ≡ x → is_bad (rest_from input (first_answer x)) ≡ known_by input
      by_line e =
          sym
          (known_is false false (le-ltb (length input) longest_line long) (lt-leb input_room (length input) few)
          ∙ ap is_bad (reads.is ∙ ap (λ (y : rust.Option (ℕ × ℕ)). rest_from input (first_answer y)) e))

      pub known_bad : r ≡ None → true ≡ known_by input
      known_bad = by_line

      pub known_good : {n k : ℕ} → r ≡ Some (n, k) → false ≡ known_by input
      known_good = by_line

      pub known_line : (bad : Bool) → is_some r ≡ not bad → bad ≡ known_by input
      known_line bad e = go r bad refl e
        where
          go : (x : rust.Option (ℕ × ℕ)) (b : Bool) → r ≡ x → is_some x ≡ not b → b ≡ known_by input
          go None true q f = known_bad q
          go None false q f = absurd (true≢false (sym f))
          go (Some (n, k)) true q f = absurd (true≢false f)
          go (Some (n, k)) false q f = known_good q

-- ---- what is not known yet has room for more

input_short : (input : List ℕ) → false ≡ known_by input → length input < input_room
input_short input e = go (leb input_room (length input)) refl
  where
    go : (b : Bool) → leb input_room (length input) ≡ b → length input < input_room
    go true t =
        let enough = leb-true input_room (length input) t in
        absurd (true≢false (known_enough input (omega arith) enough ∙ sym e))
    go false t = leb-false input_room (length input) t

text_few : (text : List ℕ) → false ≡ text_known text → length text < input_room
text_few text e = go (leb text_room (length text)) refl
  where
    go : (b : Bool) → leb text_room (length text) ≡ b → length text < input_room
    go true t = absurd (true≢false (text_enough text (leb-true text_room (length text) t) ∙ sym e))
    go false t = omega (arith, leb-false text_room (length text) t)

pub known_room : (command : Command) (input : List ℕ) → false ≡ known_for command input → length input < input_room
unfolding known_for
known_room Lift input e = input_short input e
known_room Read input e = text_few input e
known_room Blocks input e = text_few input e
known_room Help input e = absurd (true≢false (sym e))
known_room Unknown input e = absurd (true≢false (sym e))
