-- The loop's invariant: all values have ids if those from the i-th on do. The measure is how many are left.
use mathlib.Core.Path.{sym, ap, ◌∙◌}
use Prim.Native.Nat.{◌<◌}
use native.Mathlib.Omega.{arith}
use lib.ListN.{length}
use Rattle.general_laws.specs.Every.{every_next, every_stop, rest_end, rest_first}
use Rattle.lifting.specs.Ast.{const}
use Rattle.lifting.specs.Parts.{values}
use Rattle.lifting.specs.References.{named}
use Rattle.func.specs.Decode.{func_of}
use Rattle.emit_value_ids.specs.Later.{known_stands}
use Rattle.emit_values.specs.Given.{all_given, given_no, given_yes, is_given, value_named}
use Rattle.emit_values.proofs.all_given.Goals as goal

pub loop-i-init : goal.loop-i-init
loop-i-init c = rest_first _ _ 0 (omega arith)

pub value_at-requires : goal.value_at-requires
value_at-requires c = omega (arith, c.value_total-i-end.ensures)

pub value_id-requires : goal.value_id-requires
value_id-requires c =
    let F = func_of c.args.func.now in
    let i : c.loop-i.i < length (values F) = omega (arith, c.value_total-i-end.ensures) in
    let e = c.value_at.ensures in
    record { known_value = known_stands c.requires.stands c.requires.regions_nonzero _ (ap (named F) e ∙ value_named F c.requires.stands.passes _ i); ids = c.requires.ids; ids_end_in_bounds = c.requires.ids_end_in_bounds }

pub returns-then-value_id-eq0 : goal.returns-then-value_id-eq0
unfolding all_given
returns-then-value_id-eq0 c =
    let F = func_of c.args.func.now in
    let i : c.loop-i.i < length (values F) = omega (arith, c.value_total-i-end.ensures) in
    let e = c.value_at.ensures in
    sym (every_stop (is_given F c.args.first) c.loop-i.invariant i (const 0) (given_no F c.args.first e c.value_id.ensures c.if-value_id-eq0.true))

pub loop-i-preserved : goal.loop-i-preserved
loop-i-preserved c =
    let F = func_of c.args.func.now in
    let i : c.loop-i.i < length (values F) = omega (arith, c.value_total-i-end.ensures) in
    let e = c.value_at.ensures in
    every_next (is_given F c.args.first) c.loop-i.invariant i (const 0) (given_yes F c.args.first e c.value_id.ensures c.if-value_id-eq0.false)

pub returns : goal.returns
unfolding all_given
returns c = sym (rest_end c.loop-i.invariant (omega (arith, c.value_total-i-end.ensures)))
