-- The ctrl line of a region: its number among the lines, or that there is none. Assumes nothing.
use Rattle.std.specs.Prelude.{◌≡◌, Option, Some, None, ℕ, ◌<◌, length}
use Rattle.std.proofs.Math.Option.{none, some}
use Rattle.lifting.specs.Ast.{Func}
use Rattle.lifting.specs.Parts.{ctrl_of}
use Rattle.func.specs.Tables.{ctrl_line_of}

-- ctrl line c is region r's
pub record CtrlHere (F : Func) (r c : ℕ) : Type 0 where
  pub below : c < length F.ctrls
  pub region : (ctrl_line_of F c).0 ≡ r
  pub is : ctrl_of F r ≡ some (ctrl_line_of F c).1

abbrev pub CtrlIs : Option ℕ → Func → ℕ → Type 0
CtrlIs (Some c) F r = CtrlHere F r c
CtrlIs None F r = ctrl_of F r ≡ none
