-- Refusal 13 at one ctrl line. Assumes nothing.
--     differs_other, differs_bool     a line by `bool`, and any other
--     bool_two                        a line by `bool` whose counts fit has two targets
--     counts_at                       the counts of each line fit where a text passes 7
use Rattle.std.specs.Prelude.{◌≡◌, refl, Bool, true, false, not, ◌&&◌, List, [], ◌∷◌, ℕ, eqb, length, get_or}
use Rattle.std.proofs.Common.{sym, ap, ◌∙◌, arith, eq-eqb, ne_eqb, eqb-true}
use Rattle.std.proofs.lemmas.Bool.{false≢true}
use Rattle.std.proofs.Math.Decide.{ℕ_discrete}
use Rattle.general_laws.specs.Lists.{choose, distinct}
use Rattle.lifting.specs.Ast.{bool_cond, spv_inst, ControlInstKind, unreachable, return, branch, select_branch, exit_invocation, ControlInst, Func}
use Rattle.lifting.specs.Control.{bool_distinct, kind_fits, control_fits}
use Rattle.func.specs.declared.CtrlKind.{CtrlKind}
use Rattle.func.specs.declared.CtrlKind.TheVariants.{Unreachable, Return, Branch, Bool as BoolCtrl, Inst as InstCtrl, Exit as ExitCtrl}
use Rattle.func.specs.Kinds.{ctrl_kind}
use Rattle.walk_roots.specs.Tables.{no_line}
use Rattle.general_laws.specs.Members.{all_right}
use Rattle.general_laws.specs.Tests.{all_at, both}
use Rattle.lifting_runs.specs.Fits.{line_tests}

-- a `bool` ctrl; a line whose counts fit its kind; one that does not name one target twice by `bool`
abbrev pub bool_test : CtrlKind → Bool
bool_test Unreachable = false
bool_test Return = false
bool_test Branch = false
bool_test BoolCtrl = true
bool_test InstCtrl = false
bool_test ExitCtrl = false

abbrev pub line_counts : ℕ × ControlInst → Bool
line_counts x = kind_fits x.1.kind (length x.1.ins) (length x.1.to)

abbrev pub line_differs : ℕ × ControlInst → Bool
line_differs x = bool_distinct x.1.kind x.1.to

pub differs_other : (k : ControlInstKind) (to : List ℕ) → bool_test (ctrl_kind k) ≡ false → true ≡ bool_distinct k to
differs_other unreachable to e = refl
differs_other return to e = refl
differs_other branch to e = refl
differs_other (select_branch bool_cond) to e = absurd (false≢true (sym e))
differs_other (select_branch (spv_inst i)) to e = refl
differs_other (exit_invocation i) to e = refl

pub bool_is : (k : ControlInstKind) → bool_test (ctrl_kind k) ≡ true → k ≡ select_branch bool_cond
bool_is unreachable e = absurd (false≢true e)
bool_is return e = absurd (false≢true e)
bool_is branch e = absurd (false≢true e)
bool_is (select_branch bool_cond) e = refl
bool_is (select_branch (spv_inst i)) e = absurd (false≢true e)
bool_is (exit_invocation i) e = absurd (false≢true e)

-- where the counts fit, it has two targets
pub bool_two : (x : ℕ × ControlInst) → bool_test (ctrl_kind x.1.kind) ≡ true → line_counts x ≡ true → length x.1.to ≡ 2
bool_two x e h = eqb-true (length x.1.to) 2 (both (eqb (length x.1.ins) 1) _ (sym (ap (λ k. kind_fits k (length x.1.ins) (length x.1.to)) (bool_is x.1.kind e)) ∙ h)).1

differ_two : (to : List ℕ) → length to ≡ 2 → not (eqb (get_or to 0 0) (get_or to 1 0)) ≡ distinct to
differ_two [] e = absurd (omega arith)
differ_two (a ∷ []) e = absurd (omega arith)
differ_two (a ∷ b ∷ []) e = by_case (ℕ_discrete a b)
  where
    by_case : (d : Dec (a ≡ b)) → not (eqb a b) ≡ (not (choose d true false) && true)
    by_case (yes q) = ap not (eq-eqb a b q)
    by_case (no n) = ap not (ne_eqb a b n)
differ_two (a ∷ b ∷ c ∷ l) e = absurd (omega arith)

pub differs_bool : (x : ℕ × ControlInst) → bool_test (ctrl_kind x.1.kind) ≡ true → line_counts x ≡ true → not (eqb (get_or x.1.to 0 0) (get_or x.1.to 1 0)) ≡ line_differs x
differs_bool x e h = differ_two x.1.to (bool_two x e h) ∙ sym (ap (λ k. bool_distinct k x.1.to) (bool_is x.1.kind e))

-- a line of a text that passes 7
pub counts_at : (F : Func) → control_fits F ≡ true → (i : ℕ) → line_counts (get_or F.ctrls i no_line) ≡ true
counts_at F e i = all_at (λ x. line_counts x ≡ true) F.ctrls (all_right _ _ F.ctrls (line_tests F e)) no_line refl i
