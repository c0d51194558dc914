-- An op with a result has one name, whose word is the op's (`op_some`); one without has none (`op_none`), and no id is taken.
use mathlib.Core.Path.{refl, sym, ◌∙◌}
use native.Mathlib.Omega.{arith}
use Rattle.func.specs.Decode.{func_of}
use Rattle.emit_id_runs.specs.Giving.{gives_nothing, gives_one, op_low, op_none, op_some}
use Rattle.emit_id_runs.proofs.result_id.Goals as goal

pub overflow_add-o : goal.overflow_add-o
overflow_add-o c = omega (arith, op_low c.known.ensures c.args.o (sym c.has_result.ensures ∙ c.if-has_result.true))

pub give-requires : goal.give-requires
give-requires c =
    let l = op_low c.known.ensures c.args.o (sym c.has_result.ensures ∙ c.if-has_result.true) in
    (omega (arith, l, c.requires.work_need_in_bounds.0), omega (arith, c.requires.work_need_in_bounds.1))

pub returns-then-has_result : goal.returns-then-has_result
returns-then-has_result c = gives_one (op_some (func_of c.args.func.now) c.args.o (sym c.has_result.ensures ∙ c.if-has_result.true)) refl c.give.ensures.value c.give.ensures.work_after

pub returns : goal.returns
returns c = gives_nothing (op_none (func_of c.args.func.now) c.args.o (sym c.has_result.ensures ∙ c.if-has_result.false)) c.args.k c.args.work.now
