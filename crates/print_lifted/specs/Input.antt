-- What the program prints for an input: the list or the refusal of the text behind the line `(first N)`. Assumes nothing.
--     bytes_cut, leaves_cut, bytes_known    how much of an input decides
--     bad_line, good_line, bad_leaves, good_leaves, line_low    by the first line
--     lifted_bytes_law, lifted_stands    what the entry tells and leaves in the output slice gives these bytes
use Rattle.std.specs.Prelude as rust
use Rattle.std.specs.Prelude.{◌≡◌, true, ℕ, ◌≤◌, drop, length, take, None, Some, Result, Ok, Err}
use Rattle.std.proofs.Math.Path.{sym, ap}
use Rattle.std.proofs.Common.{subst, ◌∙◌, arith}
use mathlib.Core.List.{List, ◌++◌}
use Rattle.std.proofs.Math.Option.{Option, none, some}
use Rattle.refusals.specs.declared.Refusal.TheVariants.{Forms}
use Rattle.refusals.specs.Numbers.{refusal_number}
use Rattle.lifting.specs.Words.{list_from}
use Rattle.lifting.specs.Answer.{Answer, answer, listed, out_after, refused}
use Rattle.results.specs.declared.Lifted.{Lifted}
use Rattle.results.specs.declared.Unlifted.{Unlifted}
use Rattle.emit_output.specs.Emit.{outcome, refuses, told}
use Rattle.lifter.specs.Demand3.{written_list, written_low}
use Rattle.print_bytes.specs.Shown.{list_bytes, refused_bytes}
use Rattle.read_cursor.specs.Read.{Moves, Reads, rest_from}
use Rattle.read_first.specs.Opening.{first_line_form, first_answer}
use Rattle.read_first.specs.Cut.{ByText, input_room}
use Rattle.read_first.proofs.Cut.{answer_cut, input_cut}
use Rattle.read_input.specs.Known.{known_decides, known_by}

-- It prints opcode, attributes, result type, result id, immediates, ids. A refusal prints `(refused N)`.
abbrev pub answer_bytes : Answer → List ℕ
answer_bytes (listed ws next) = list_bytes (list_from ws)
answer_bytes (refused n) = refused_bytes n

-- a bad first line is refusal 2. The text starts after that line. The numbers are the lengths of the function, work and output slice.
abbrev pub line_bytes : Option (ℕ × List ℕ) → ℕ → ℕ → ℕ → List ℕ
line_bytes none func work out = refused_bytes (refusal_number Forms)
line_bytes (some x) func work out = answer_bytes (answer x.1 x.0 func work out)

unfoldable pub input_bytes : List ℕ → ℕ → ℕ → ℕ → List ℕ
unfolding first_line_form
input_bytes input func work out = line_bytes (first_line_form.read input) func work out

-- what a slice holds at the end, where an answer leaves it as g says; a bad first line leaves every slice alone
abbrev pub line_leaves : (Answer → List ℕ → List ℕ) → Option (ℕ × List ℕ) → ℕ → ℕ → ℕ → List ℕ → List ℕ
line_leaves g none func work out w = w
line_leaves g (some x) func work out w = g (answer x.1 x.0 func work out) w

unfoldable pub input_leaves : (Answer → List ℕ → List ℕ) → List ℕ → ℕ → ℕ → ℕ → List ℕ → List ℕ
unfolding first_line_form
input_leaves g input func work out w = line_leaves g (first_line_form.read input) func work out w

-- ---- how much of an input decides

module _ (func work out : ℕ) where
  bytes_by_text : ByText (λ (o : Option (ℕ × List ℕ)). line_bytes o func work out)
  bytes_by_text n k text h = ap answer_bytes (answer_cut k h text n func work out)

  leaves_by_text : (g : Answer → List ℕ → List ℕ) (w : List ℕ) → ByText (λ (o : Option (ℕ × List ℕ)). line_leaves g o func work out w)
  leaves_by_text g w n k text h = ap (λ (a : Answer). g a w) (answer_cut k h text n func work out)

  -- What is printed for an input is what is printed for its first bytes, as many as decide or more; and so is what the slices hold then.
  pub bytes_cut : (k : ℕ) → input_room ≤ k → (input : List ℕ) → input_bytes (take k input) func work out ≡ input_bytes input func work out
  unfolding input_bytes
  bytes_cut = input_cut (λ (o : Option (ℕ × List ℕ)). line_bytes o func work out) bytes_by_text

  pub leaves_cut : (g : Answer → List ℕ → List ℕ) (w : List ℕ) (k : ℕ) → input_room ≤ k → (input : List ℕ)
      → input_leaves g (take k input) func work out w ≡ input_leaves g input func work out w
  unfolding input_leaves
  leaves_cut g w = input_cut (λ (o : Option (ℕ × List ℕ)). line_leaves g o func work out w) (leaves_by_text g w)

  -- What is printed is known when `input::known` says so: nothing that follows changes it.
  pub bytes_known : (input : List ℕ) → known_by input ≡ true → (more : List ℕ) → input_bytes input func work out ≡ input_bytes (input ++ more) func work out
  unfolding input_bytes
  bytes_known = known_decides (λ (o : Option (ℕ × List ℕ)). line_bytes o func work out) bytes_by_text

-- what the entry told, with the words of the output slice
abbrev pub lifted_bytes : Result Lifted Unlifted → List ℕ → List ℕ
lifted_bytes (Ok l) out = list_bytes (list_from (take l.words out))
lifted_bytes (Err e) out = refused_bytes (refusal_number e.refusal)

abbrev pub InputStands : Result Lifted Unlifted → List ℕ → Type 0
InputStands (Ok l) out = l.words ≤ length out
InputStands (Err e) out = Unit {0}

refused_of : (a : Answer) (n : ℕ) → refuses n ≡ outcome a → a ≡ refused n
refused_of (listed ws k) n e = absurd (let z : ◌≡◌ {A = ℕ} 0 1 = cc in omega arith)
refused_of (refused k) n e = let z : k ≡ n = cc in ap refused z

module _ (text func work out exit : List ℕ) (first : ℕ) where
  abbrev given : Answer
  given = answer text first (length func) (length work) (length out)

  pub lifted_bytes_law : (r : Result Lifted Unlifted) → told r ≡ outcome given → exit ≡ out_after given out → lifted_bytes r exit ≡ answer_bytes given
  lifted_bytes_law (Ok list) says stands =
      let l = written_list text func work out exit first list.words list.next says stands in
      ap (λ (ws : List ℕ). list_bytes (list_from ws)) l.2 ∙ sym (ap answer_bytes l.1)
  lifted_bytes_law (Err e) says stands = sym (ap answer_bytes (refused_of given (refusal_number e.refusal) says))

  pub lifted_stands : (r : Result Lifted Unlifted) → told r ≡ outcome given → exit ≡ out_after given out → InputStands r exit
  lifted_stands (Ok list) says stands = written_low text func work out exit first list.words list.next says stands
  lifted_stands (Err e) says stands = tt

-- ---- the first line

module _ (input : List ℕ) (func work out : ℕ) (r : rust.Option (ℕ × ℕ)) (reads : Reads first_line_form.read input 0 (first_answer r)) where
  line_is : first_line_form.read input ≡ rest_from input (first_answer r)
  line_is = reads.is

  pub bad_line : r ≡ None → refused_bytes (refusal_number Forms) ≡ input_bytes input func work out
  unfolding input_bytes
  bad_line e = sym (ap (λ (o : Option (ℕ × List ℕ)). line_bytes o func work out) (line_is ∙ ap (λ (x : rust.Option (ℕ × ℕ)). rest_from input (first_answer x)) e))

  pub good_line : {n k : ℕ} → r ≡ Some (n, k) → answer_bytes (answer (drop k input) n func work out) ≡ input_bytes input func work out
  unfolding input_bytes
  good_line e = sym (ap (λ (o : Option (ℕ × List ℕ)). line_bytes o func work out) (line_is ∙ ap (λ (x : rust.Option (ℕ × ℕ)). rest_from input (first_answer x)) e))

  pub bad_leaves : (g : Answer → List ℕ → List ℕ) (w : List ℕ) → r ≡ None → w ≡ input_leaves g input func work out w
  unfolding input_leaves
  bad_leaves g w e = sym (ap (λ (o : Option (ℕ × List ℕ)). line_leaves g o func work out w) (line_is ∙ ap (λ (x : rust.Option (ℕ × ℕ)). rest_from input (first_answer x)) e))

  pub good_leaves : (g : Answer → List ℕ → List ℕ) (w : List ℕ) {n k : ℕ} → r ≡ Some (n, k) → g (answer (drop k input) n func work out) w ≡ input_leaves g input func work out w
  unfolding input_leaves
  good_leaves g w e = sym (ap (λ (o : Option (ℕ × List ℕ)). line_leaves g o func work out w) (line_is ∙ ap (λ (x : rust.Option (ℕ × ℕ)). rest_from input (first_answer x)) e))

  pub line_low : {n k : ℕ} → r ≡ Some (n, k) → k ≤ length input
  line_low {n} {k} e = (subst (λ (x : rust.Option (ℕ × ℕ)). Moves input 0 (first_answer x)) e reads.moves).fits
