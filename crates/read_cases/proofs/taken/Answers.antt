-- What is cut off is kept, and what is held then, with the bytes that are left, is what is held after all of them.
use Rattle.std.proofs.Common.{List, ℕ, sym, ap, ◌∙◌, arith, drop}
use Rattle.std.proofs.Math.Seq.{paste}
use Rattle.read_marks.specs.Cut.{fitting_bytes}
use Rattle.read_cases.specs.Held.{held_case, held_after, held_cut, len_after, taken_part}
use Rattle.read_cases.proofs.taken.Goals as goal

pub returns-clause-held_case : goal.returns-clause-held_case
returns-clause-held_case c =
    let piece = c.args.piece.now in
    let text = c.args.text.now in
    let state = c.args.state in
    let end = c.cut-place.result.end in
    let next = c.cut-place.result.matched in
    let part = taken_part state.from end piece in
    let left = drop end piece in
    ap (λ (x : List ℕ). held_after (held_case x (len_after next c.keep-len.result) next) left) c.keep-len.ensures.text_after
    ∙ ap (λ (n : ℕ). held_after (held_case (paste text state.len part (fitting_bytes text state.len part)) (len_after next n) next) left) c.keep-len.ensures.value
    ∙ sym (held_cut piece text state.from state.len state.matched end next (omega (arith, c.requires.0, c.requires.2)) c.requires.1 c.cut-place.ensures.matched_value)
