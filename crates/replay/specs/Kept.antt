-- What is kept of a case decides what is printed for it. Assumes nothing.
use Rattle.std.specs.Prelude.{◌≡◌, List, ℕ, ◌+◌, ◌-◌, ◌≤◌, length}
use Rattle.std.proofs.Common.{ap, ◌∙◌, arith}
use Rattle.command.specs.Opened.{line_room}
use Rattle.read_first.specs.Cut.{input_room}
use Rattle.read_cases.specs.Kept.{kept_text_law, kept_text, end_mark}
use Rattle.print_command.specs.Printed.{case_bytes}
use Rattle.print_command.specs.Decides.{case_cut}

-- In as much room as `read_cases::room` has, what is printed for what is kept is what is printed for the case.
pub kept_prints : (room case : List ℕ) → line_room + input_room + length end_mark ≤ length room → case_bytes (kept_text room case) ≡ case_bytes case
kept_prints room case h = ap case_bytes (kept_text_law room case (omega arith)) ∙ case_cut (length room - length end_mark) (omega arith) case
