-- How many bytes are printed at most: twelve for each word of the output slice, or a refusal's line. Assumes nothing.
use Rattle.std.specs.Prelude.{◌≡◌, refl, List, ℕ, ◌+◌, ◌*◌, ◌≤◌, length}
use Rattle.std.proofs.Common.{ap, ◌∙◌, arith}
use Rattle.std.proofs.Math.Option.{Option, none, some}
use Rattle.refusals.specs.declared.Refusal.TheVariants.{Forms}
use Rattle.refusals.specs.Numbers.{refusal_number}
use Rattle.lifting.specs.Instructions.{Instruction, list_of}
use Rattle.lifting.specs.Words.{list_from_law, list_from}
use Rattle.lifting.specs.Answer.{Answer, answer, listed, refused}
use Rattle.lifting_runs.specs.Passes.{answer_passes}
use Rattle.print_bytes.specs.Shown.{list_bytes}
use Rattle.print_refusal.specs.Room.{refused_room}
use Rattle.print_list.specs.Room.{list_room}
use Rattle.read_first.specs.Opening.{first_line_form}
use Rattle.print_lifted.specs.Input.{answer_bytes, input_bytes, line_bytes}

module _ (out : ℕ) where
  answer_room : (text : List ℕ) (first func work : ℕ) (a : Answer) → answer text first func work out ≡ a → length (answer_bytes a) ≤ 12 * out + 21
  answer_room text first func work (listed ws next) e =
      let p = answer_passes text first func work out ws next e in
      let L : List Instruction = list_of p.0 first in
      let w : list_from ws ≡ L = ap list_from p.1.words_are ∙ list_from_law L in
      omega (arith, ap (λ (l : List Instruction). length (list_bytes l)) w, list_room L, ap length p.1.words_are, p.1.room)
  answer_room text first func work (refused n) e = omega (arith, refused_room n)

  line_room_law : (o : Option (ℕ × List ℕ)) (func work : ℕ) → length (line_bytes o func work out) ≤ 12 * out + 21
  line_room_law none func work = omega (arith, refused_room (refusal_number Forms))
  line_room_law (some x) func work = answer_room x.1 x.0 func work (answer x.1 x.0 func work out) refl

  pub input_room_law : (input : List ℕ) (func work : ℕ) → length (input_bytes input func work out) ≤ 12 * out + 21
  unfolding input_bytes
  input_room_law input func work = line_room_law (first_line_form.read input) func work
