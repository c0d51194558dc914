-- The kind says what stands before the lists: nothing (`plain_lists`), the immediates of an INST (`inst_lists`) or those of an exit with its
-- bracket (`exit_lists`).
use mathlib.Core.Path.{refl, ap, ◌∙◌}
use Rattle.lifting.specs.Ast.{unreachable, return, branch, select_branch, bool_cond}
use Rattle.read_insts.specs.Heads.{control_rest}
use Rattle.read_insts.specs.declared.Control.{Control}
use Rattle.read_insts.specs.declared.Control.TheVariants as ctrl
use Rattle.read_ctrls.proofs.Ranges.{plain_lists, inst_lists, exit_lists}
use Rattle.read_ctrls.proofs.kinds.lists.Goals as goal

pub returns-in-Unreachable-clause-stores : goal.returns-in-Unreachable-clause-stores
returns-in-Unreachable-clause-stores c = plain_lists c.args.kind _ c.forms.result _ _ unreachable refl (λ u. ap (λ (k : Control). control_rest k u) c.in-Unreachable.is) c.forms.ensures.stores

pub returns-in-Return-clause-stores : goal.returns-in-Return-clause-stores
returns-in-Return-clause-stores c = plain_lists c.args.kind _ c.forms-in-Return.result _ _ return refl (λ u. ap (λ (k : Control). control_rest k u) c.in-Return.is) c.forms-in-Return.ensures.stores

pub returns-in-Branch-clause-stores : goal.returns-in-Branch-clause-stores
returns-in-Branch-clause-stores c = plain_lists c.args.kind _ c.forms-in-Branch.result _ _ branch refl (λ u. ap (λ (k : Control). control_rest k u) c.in-Branch.is) c.forms-in-Branch.ensures.stores

pub returns-in-Exit-clause-stores : goal.returns-in-Exit-clause-stores
returns-in-Exit-clause-stores c = exit_lists _ c.exit_forms.result _ _ c.in-Exit.is c.exit_forms.ensures.stores

pub returns-in-Bool-clause-stores : goal.returns-in-Bool-clause-stores
returns-in-Bool-clause-stores c =
    let e = c.in-Select.is ∙ ap ctrl.Select c.in-Bool.is in
    plain_lists c.args.kind _ c.forms-in-Bool.result _ _ (select_branch bool_cond) refl (λ u. ap (λ (k : Control). control_rest k u) e) c.forms-in-Bool.ensures.stores

pub returns-in-Inst-clause-stores : goal.returns-in-Inst-clause-stores
returns-in-Inst-clause-stores c = inst_lists _ c.inst_forms.result _ _ (c.in-Select.is ∙ ap ctrl.Select c.in-Inst.is) c.inst_forms.ensures.stores
