-- What was judged of the ctrl lines so far. Assumes nothing.
--     opcode_in       K's opcode, 0 without an INST
--     judged_with     one more line
use Rattle.std.specs.Prelude.{Bool, ◌&&◌, ℕ, ◌+◌}
use Rattle.check_insts.specs.Test.{opcode_fits}
use Rattle.read_insts.specs.declared.Selection.{Selection}
use Rattle.read_insts.specs.declared.Selection.TheVariants as sel
use Rattle.read_insts.specs.declared.Control.{Control}
use Rattle.read_insts.specs.declared.Control.TheVariants as ctrl
use Rattle.check_ctrls.specs.declared.Judged.{Judged}

abbrev pub select_opcode : Selection → ℕ
select_opcode sel.Bool = 0
select_opcode (sel.Inst n) = n

abbrev pub opcode_in : Control → ℕ
opcode_in ctrl.Unreachable = 0
opcode_in ctrl.Return = 0
opcode_in ctrl.Branch = 0
opcode_in (ctrl.Exit n) = n
opcode_in (ctrl.Select k) = select_opcode k

-- one more line, with K's opcode, whose edges fit or not
abbrev pub judged_with : Judged → Control → Bool → Judged
judged_with seen k edges = record { line = seen.line + 1; opcodes = seen.opcodes && opcode_fits (opcode_in k); edges = seen.edges && edges }
