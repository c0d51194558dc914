-- What refusals 4 and 6 ask of a ctrl line is judged as the line is read, since refusal 3 bounds neither ctrl lines nor their entries: regions
-- stand before them, and the function slice has room for all that 3 bounds. Assumes nothing.
--     State, keep_judged     the lines
use Rattle.std.specs.Prelude.{Bool, true, ◌&&◌, List, ℕ, suc}
use Rattle.general_laws.specs.Lists.{every}
use Rattle.lifting.specs.Ast.{ControlInst}
use Rattle.lifting.specs.Parts.{ctrl_insts}
use Rattle.check_insts.specs.Test.{opcode_fits}
use Rattle.func.specs.Layout.{targets}
use Rattle.func.specs.Store.{count, folds}
use Rattle.func.specs.Keep.{keep_ctrl}
use Rattle.func.specs.Rows.{keep_ctrl_lists}
use Rattle.check_edges.specs.Edges.{Edges, keep_edge, targets_fit}

-- the lines so far: the words, the marks, the number of the last line, and whether the opcodes of their INSTs and their edges fit
pub record State : Type 0 where
  pub func : List ℕ
  pub marks : List ℕ
  pub line : ℕ
  pub opcodes : Bool
  pub edges : Bool

-- the entries of a line that comes after these
unfoldable pub judged_edges : ControlInst → State → Edges
judged_edges c s = folds (keep_edge (suc s.line)) c.vals (record { func = keep_ctrl_lists c s.func; marks = s.marks; fit = true })

unfoldable pub keep_judged : ℕ × ControlInst → State → State
keep_judged c s =
    let e = judged_edges c.1 s in
    record {
      func = keep_ctrl c s.func;
      marks = e.marks;
      line = suc s.line;
      opcodes = s.opcodes && every (λ i. opcode_fits i.opcode) (ctrl_insts c.1.kind);
      edges = s.edges && (e.fit && targets_fit e.func e.marks (suc s.line) (count targets s.func));
    }

unfoldable pub start : List ℕ → List ℕ → State
start w m = record { func = w; marks = m; line = 0; opcodes = true; edges = true }
