-- A parameter is a front alone (`param_items_law`), and its id, so far behind the first one as the parameter stands, fits 32 bits since there are at
-- most 64 parameters.
use mathlib.Core.Path.{refl, ap, ◌∙◌}
use Prim.Native.Nat.{◌≤◌}
use native.Mathlib.Omega.{arith}
use borrow.Author.Rules.{rules}
use Rattle.lifting.specs.Ast.{Decl}
use Rattle.func.specs.Decode.{func_of}
use Rattle.emit_words.specs.Writes.{writes_same}
use Rattle.emit_insts.specs.Parts.{front_same}
use Rattle.emit_list.specs.Points.{param_items_law}
use Rattle.func.proofs.Tables.{few_params}
use Rattle.emit_insts.specs.Emitting.{emit_tables}
use Rattle.emit_list.proofs.put_param.Goals as goal

pub overflow_cast-result : goal.overflow_cast-result
overflow_cast-result c =
    let F = func_of c.args.e.now.func.now in
    let f : c.args.i ≤ 64 = omega (arith, few_params (emit_tables c.args.e.now.ready), c.requires.i_in_bounds) in search rules

pub overflow_add-result-2 : goal.overflow_add-result-2
overflow_add-result-2 c =
    let F = func_of c.args.e.now.func.now in
    let f : c.args.i ≤ 64 = omega (arith, few_params (emit_tables c.args.e.now.ready), c.requires.i_in_bounds) in search rules

pub returns : goal.returns
returns c =
    let F = func_of c.args.e.now.func.now in
    writes_same c.put_front.ensures (front_same _ c.opcode.ensures refl refl refl refl ∙ param_items_law F c.args.e.now.first c.args.i c.requires.i_in_bounds _ _ _ (ap (λ (d : Decl). d.attrs) c.param-param.ensures) (ap (λ (d : Decl). d.type) c.param-param.ensures) refl)
