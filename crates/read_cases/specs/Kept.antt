-- What is kept of a case: one longer than its room keeps its first bytes, of which the last three go as its line `%%` would. Assumes nothing.
--     kept_text_law      what is handed on of a case that has ended
use Rattle.std.specs.Prelude.{◌≡◌, List, ◌++◌, ℕ, ◌+◌, ◌-◌, ◌≤◌, drop}
use Rattle.std.proofs.Math.Path.{sym, ap}
use Rattle.std.proofs.Common.{◌∙◌}
use Rattle.std.proofs.Math.Logic.{⊎_elim}
use native.Mathlib.Omega.{arith}
use Rattle.std.proofs.Math.ListN.{length, length-append, length-take, take}
use Rattle.std.proofs.lemmas.List.Edits.{sets}
use Rattle.std.proofs.Math.Seq.{take_all, take-append-le, take-take}
use Rattle.lifting.specs.Bytes.{bytes}
use Rattle.print_bytes.specs.Put.{le_or}
use Rattle.read_marks.specs.Cut.{fitting_bytes}
use Rattle.read_cases.specs.Held.{paste_sets}

-- the line that ends a text
abbrev pub end_mark : List ℕ
end_mark = bytes "%%\n"

module _ (room t : List ℕ) where
  -- a case and its mark, put at the front of the room as far as they fit; then as many bytes as a mark has are left off
  abbrev pub kept_text : List ℕ
  kept_text = take (fitting_bytes room 0 (t ++ end_mark) - length end_mark) (sets room 0 (t ++ end_mark))

  pub kept_text_law : length end_mark ≤ length room → kept_text ≡ take (length room - length end_mark) t
  unfolding fitting_bytes
  kept_text_law h =
      let n = fitting_bytes room 0 (t ++ end_mark) in
      let l = length-append t end_mark in
      ap (take (n - 3)) (sym (paste_sets room (t ++ end_mark) 0 (omega arith)))
      ∙ take-append-le (n - 3) (take n (t ++ end_mark)) (drop (0 + n) room) (omega (arith, length-take n (t ++ end_mark)))
      ∙ take-take (n - 3) n (t ++ end_mark) (omega arith)
      ∙ take-append-le (n - 3) t end_mark (omega arith)
      ∙ ⊎_elim (λ a. take_all (n - 3) t (omega arith) ∙ sym (take_all (length room - 3) t (omega arith)))
      (λ b. let e : n - 3 ≡ length room - 3 = omega arith in ap (λ (k : ℕ). take k t) e)
      (le_or (length t + 3) (length room))
