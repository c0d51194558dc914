-- An input without a first line of its form is refused with 2 and leaves the slices alone (`bad_line`); of any other the answer is that to the
-- text behind the line (`good_line`). The count is within the room of the longest answer (`input_room_law`).
use mathlib.Core.Path.{ap, ◌∙◌}
use lib.ListN.{length}
use native.Mathlib.Omega.{arith}
use borrow.Author.Rules.{rules}
use Rattle.print_bytes.specs.Put.{PutBytes, put_bytes_same}
use mathlib.Core.List.{List}
use Prim.Native.Nat.{ℕ, ◌+◌, ◌*◌, ◌≤◌}
use Rattle.lifting.specs.Answer.{answer, out_after, scratch_after}
use Rattle.print_bytes.specs.Taken.{tail_part}
use Rattle.print_lifted.specs.Input.{answer_bytes, bad_leaves, bad_line, good_leaves, good_line, input_bytes, line_low}
use Rattle.print_lifted.specs.Room.{input_room_law}
use Rattle.print_lifted.proofs.put_input.Goals as goal

low : (out : ℕ) (input : List ℕ) (func work : ℕ) {w u : List ℕ} {n : ℕ} → PutBytes w 0 (input_bytes input func work out) u n → n ≤ 12 * out + 21
low out input func work p = omega (arith, p.place, input_room_law out input func work)

pub returns-in_default : goal.returns-in_default
returns-in_default c =
    let p = put_bytes_same c.bad_line.ensures (bad_line c.args.input.now (length c.args.func.now) (length c.args.work.now) (length c.args.out.now) _ c.first_line.ensures c.in_default.is) in
    record { printed = p; count = low (length c.args.out.now) c.args.input.now (length c.args.func.now) (length c.args.work.now) p; func_slice = bad_leaves c.args.input.now (length c.args.func.now) (length c.args.work.now) (length c.args.out.now) _ c.first_line.ensures scratch_after c.args.func.now c.in_default.is; work_slice = bad_leaves c.args.input.now (length c.args.func.now) (length c.args.work.now) (length c.args.out.now) _ c.first_line.ensures scratch_after c.args.work.now c.in_default.is; out_slice = bad_leaves c.args.input.now (length c.args.func.now) (length c.args.work.now) (length c.args.out.now) _ c.first_line.ensures out_after c.args.out.now c.in_default.is }

pub slice_bounds-put_text-count : goal.slice_bounds-put_text-count
slice_bounds-put_text-count c = line_low c.args.input.now (length c.args.func.now) (length c.args.work.now) (length c.args.out.now) _ c.first_line.ensures c.in-Some.is

pub slice_bounds-put_text-start : goal.slice_bounds-put_text-start
slice_bounds-put_text-start c =
    let h = line_low c.args.input.now (length c.args.func.now) (length c.args.work.now) (length c.args.out.now) _ c.first_line.ensures c.in-Some.is in search rules

pub returns : goal.returns
returns c =
    let z = tail_part c.in-Some.at c.args.input.now in
    let p = put_bytes_same c.put_text.ensures.put_bytes
    (ap (λ (t : List ℕ). answer_bytes (answer t c.in-Some.first (length c.args.func.now) (length c.args.work.now) (length c.args.out.now))) z
    ∙ good_line c.args.input.now (length c.args.func.now) (length c.args.work.now) (length c.args.out.now) _ c.first_line.ensures c.in-Some.is) in
    record { printed = p; count = low (length c.args.out.now) c.args.input.now (length c.args.func.now) (length c.args.work.now) p; func_slice = c.put_text.ensures.func_after ∙ ap (λ (t : List ℕ). scratch_after (answer t c.in-Some.first (length c.args.func.now) (length c.args.work.now) (length c.args.out.now)) c.args.func.now) z ∙ good_leaves c.args.input.now (length c.args.func.now) (length c.args.work.now) (length c.args.out.now) _ c.first_line.ensures scratch_after c.args.func.now c.in-Some.is; work_slice = c.put_text.ensures.work_after ∙ ap (λ (t : List ℕ). scratch_after (answer t c.in-Some.first (length c.args.func.now) (length c.args.work.now) (length c.args.out.now)) c.args.work.now) z ∙ good_leaves c.args.input.now (length c.args.func.now) (length c.args.work.now) (length c.args.out.now) _ c.first_line.ensures scratch_after c.args.work.now c.in-Some.is; out_slice = c.put_text.ensures.out_after ∙ ap (λ (t : List ℕ). out_after (answer t c.in-Some.first (length c.args.func.now) (length c.args.work.now) (length c.args.out.now)) c.args.out.now) z ∙ good_leaves c.args.input.now (length c.args.func.now) (length c.args.work.now) (length c.args.out.now) _ c.first_line.ensures out_after c.args.out.now c.in-Some.is }
