-- K of a ctrl as the function slice has it. Assumes nothing.
use Rattle.func.specs.declared.CtrlKind.{CtrlKind}
use Rattle.func.specs.declared.CtrlKind.TheVariants as kept
use Rattle.read_insts.specs.declared.Selection.{Selection}
use Rattle.read_insts.specs.declared.Selection.TheVariants as sel
use Rattle.read_insts.specs.declared.Control.{Control}
use Rattle.read_insts.specs.declared.Control.TheVariants as ctrl

abbrev pub select_kind : Selection → CtrlKind
select_kind sel.Bool = kept.Bool
select_kind (sel.Inst n) = kept.Inst

abbrev pub kind_of : Control → CtrlKind
kind_of ctrl.Unreachable = kept.Unreachable
kind_of ctrl.Return = kept.Return
kind_of ctrl.Branch = kept.Branch
kind_of (ctrl.Exit n) = kept.Exit
kind_of (ctrl.Select k) = select_kind k
