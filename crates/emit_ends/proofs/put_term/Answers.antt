-- The front, the values and the targets' labels are appended one behind the other; each field is the terminator's, and the count of ids is that
-- of values and targets together (`term_is`).
use mathlib.Core.Path.{sym, subst}
use native.Mathlib.Omega.{arith}
use Rattle.lifting.specs.Walk.{walk_of}
use Rattle.lifting.specs.Absorb.{kept}
use Rattle.func.specs.Decode.{func_of}
use Rattle.general_laws.specs.Members.{All}
use Rattle.lifting_runs.specs.Refers.{Named}
use Rattle.terminators.specs.Kinds.{term_of}
use Rattle.emit_words.specs.Writes.{writes_more, writes_same}
use Rattle.emit_insts.specs.Parts.{term_is}
use Rattle.emit_ends.proofs.put_term.Goals as goal

pub put_front-requires : goal.put_front-requires
put_front-requires c =
    let F = func_of c.args.e.now.func.now in
    record { imms_fit = c.term_imms.ensures.fits; ids_bound = omega (arith, c.value_count.ensures.upper_bound, c.targets.ensures.upper_bound) }

pub put_values-requires : goal.put_values-requires
put_values-requires c =
    let F = func_of c.args.e.now.func.now in
    record { count_nonzero = c.requires.count_nonzero.0; values_fit = (c.term_ins-ins.ensures.fits, subst (All (Named F)) (sym c.term_ins-ins.ensures.is) c.requires.all.1) }

pub put_targets-requires : goal.put_targets-requires
put_targets-requires c = (c.requires.count_nonzero.1, c.requires.all.0)

pub returns : goal.returns
returns c =
    let F = func_of c.args.e.now.func.now in
    writes_same (writes_more c.put_front.ensures (writes_more c.put_values.ensures c.put_targets.ensures))
    (term_is F c.args.e.now.first (walk_of F) (kept (walk_of F)) (term_of F c.args.w) _ _ _ _ _ c.term_opcode.ensures c.term_attrs.ensures c.term_imms.ensures.is c.term_ins-ins.ensures.is
    (omega (arith, c.value_count.ensures.value, c.targets.ensures.value)))
