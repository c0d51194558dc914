-- Ctrl lines: document 01, refusal 7, and document 02, W7, refusal 13. Assumes nothing.
use Rattle.std.specs.Prelude.{Bool, true, not, ◌&&◌, List, [], ◌∷◌, ℕ, leb, ltb, eqb, length}
use Rattle.std.proofs.Math.Decide.{ℕ_discrete}
use Rattle.general_laws.specs.Lists.{every, within, distinct, keys}
use Rattle.lifting.specs.Ast.{bool_cond, spv_inst, ControlInstKind, unreachable, return, branch, select_branch, exit_invocation, ControlInst, Func}
use Rattle.lifting.specs.Parts.{child_list}
use Rattle.lifting.specs.Order.{roots}

-- `return` over 1 input; `return`, `unreachable`, exit with targets; `unreachable` with inputs; `branch` without 1 target and 0 inputs; `bool`
-- without 1 input and 2 targets; another selection without an input and a target
abbrev pub kind_fits : ControlInstKind → ℕ → ℕ → Bool
kind_fits unreachable ins to = eqb ins 0 && eqb to 0
kind_fits return ins to = leb ins 1 && eqb to 0
kind_fits branch ins to = eqb ins 0 && eqb to 1
kind_fits (select_branch bool_cond) ins to = eqb ins 1 && eqb to 2
kind_fits (select_branch (spv_inst i)) ins to = ltb 0 ins && ltb 0 to
kind_fits (exit_invocation i) ins to = eqb to 0

-- no child
abbrev pub is_root : Func → ℕ → Bool
is_root F r = not (within r (child_list F))

-- a target that is region 0 or a child; values twice for a target, or for a region that is no target
abbrev pub ctrl_fits : Func → ControlInst → Bool
ctrl_fits F c =
    every (λ r. ltb 0 r && is_root F r) c.to
    && distinct (keys c.vals)
    && every (λ r. within r c.to) (keys c.vals)
    && kind_fits c.kind (length c.ins) (length c.to)

-- missing on a reached root: one that ctrl targets lead to from region 0
abbrev pub reached_fit : List (ℕ × ControlInst) → List ℕ → Bool
reached_fit [] rs = true
reached_fit (x ∷ l) rs = every (λ r. within r (keys (x ∷ l))) rs

-- A text passes 7: no ctrl twice for a region, none on a child.
unfoldable pub control_fits : Func → Bool
unfolding child_list roots ℕ_discrete
control_fits F =
    distinct (keys F.ctrls)
    && every (is_root F) (keys F.ctrls)
    && reached_fit F.ctrls (roots F)
    && every (λ c. ctrl_fits F c.1) F.ctrls

-- 13: a `bool` ctrl whose two targets are equal. Another selection may name one target twice.
abbrev pub bool_distinct : ControlInstKind → List ℕ → Bool
bool_distinct unreachable to = true
bool_distinct return to = true
bool_distinct branch to = true
bool_distinct (select_branch bool_cond) to = distinct to
bool_distinct (select_branch (spv_inst i)) to = true
bool_distinct (exit_invocation i) to = true

-- A text passes 13: every ctrl line, reached or not.
unfoldable pub targets_differ : Func → Bool
unfolding ℕ_discrete
targets_differ F = every (λ c. bool_distinct c.1.kind c.1.to) F.ctrls
