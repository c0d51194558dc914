-- What reading all ctrl lines answers. Assumes nothing.
use Rattle.std.specs.Prelude.{◌≡◌, Bool, List, ℕ, drop, Option, None, Some}
use Rattle.std.proofs.Math.Option.{none, some}
use Rattle.lifting.specs.Whole.{end}
use Rattle.lifting.specs.Ast.{ControlInst}
use Rattle.lifting.specs.Grammar.{ctrl_lines}
use Rattle.func.specs.Store.{folds}
use Rattle.read_lines.specs.Lines.{PassedOn}
use Rattle.read_cursor.specs.declared.Cursor.{Cursor}
use Rattle.check_ctrls.specs.declared.Judged.{Judged}
use Rattle.read_ctrls.specs.declared.CtrlsFit.{CtrlsFit}
use Rattle.read_ctrls.specs.Judge.{keep_judged, start}
use Rattle.read_ctrls.specs.Answers.{state_at}

-- lines up to a place
abbrev pub LinesAre : Option (Judged × Cursor) → Cursor → List ℕ → List ℕ → List ℕ → List ℕ → Type 0
LinesAre (Some x) from w m v n = PassedOn ctrl_lines end keep_judged from (start w m) x.1 (state_at v n x.0)
LinesAre None from w m v n = ctrl_lines.read (drop from.at from.text.now) ≡ none

-- the rest of the text is ctrl lines: from the words w and the marks m they make the words v, and this is how they were judged
pub record CtrlLines (opcodes edges : Bool) (text : List ℕ) (from : ℕ) (w m v : List ℕ) : Type 0 where
  pub lines : List (ℕ × ControlInst)
  pub read : ctrl_lines.read (drop from text) ≡ some ((lines, tt), tt)
  pub func : (folds keep_judged lines (start w m)).func ≡ v
  pub opcodes_are : (folds keep_judged lines (start w m)).opcodes ≡ opcodes
  pub edges_are : (folds keep_judged lines (start w m)).edges ≡ edges

abbrev pub CtrlsAre : Option CtrlsFit → List ℕ → ℕ → List ℕ → List ℕ → List ℕ → Type 0
CtrlsAre (Some x) text from w m v = CtrlLines x.opcodes x.edges text from w m v
CtrlsAre None text from w m v = ctrl_lines.read (drop from text) ≡ none
