-- Type 0 has no result, and of any other type the word of op o in the table of results is its id (`result_is`).
use mathlib.Core.Path.{◌∙◌}
use native.Mathlib.Omega.{arith}
use Rattle.func.proofs.Tables.{few_ops}
use Rattle.emit_insts.specs.Ready.{result_is}
use Rattle.emit_insts.specs.Emitting.{emit_ready, emit_tables}
use Rattle.emit_ops.proofs.result_of.Goals as goal

pub word-requires : goal.word-requires
word-requires c = omega (arith, few_ops (emit_tables c.args.e.now.ready), c.args.e.now.ready.size, c.requires.o_in_bounds)

pub returns : goal.returns
returns c = c.word.ensures ∙ result_is (emit_ready c.args.e.now.ready) _ (omega (arith, few_ops (emit_tables c.args.e.now.ready), c.requires.o_in_bounds)) _ c.if-ty-eq0.false
