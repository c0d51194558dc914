-- The three tests in their order: a slice without room for any list, a function without a body, and a value without an id.
use mathlib.Core.Path.{sym, ◌∙◌}
use native.Mathlib.Omega.{arith}
use Rattle.func.specs.Decode.{func_of}
use Rattle.emit_output.specs.Sure.{sure_given, sure_none, sure_short}
use Rattle.emit_insts.specs.Emitting.{emit_ready}
use Rattle.emit_output.proofs.is_sure.Goals as goal

pub returns-then-room-lt-MOST_WORDS : goal.returns-then-room-lt-MOST_WORDS
returns-then-room-lt-MOST_WORDS c = sure_short (func_of c.args.e.now.func.now) c.args.e.now.first c.args.room c.if-room-lt-MOST_WORDS.true

pub returns-then-region_total-eq0 : goal.returns-then-region_total-eq0
returns-then-region_total-eq0 c = sure_none (func_of c.args.e.now.func.now) c.args.e.now.first c.args.room (omega (arith, c.if-room-lt-MOST_WORDS.false)) (sym c.region_total.ensures ∙ c.if-region_total-eq0.true)

pub all_given-requires : goal.all_given-requires
all_given-requires c =
    let k = c.args.e.now.ready in
    record { stands = (emit_ready k).stands; regions_nonzero = omega (arith, c.region_total.ensures, c.if-region_total-eq0.false); ids = k.ids; ids_end_in_bounds = (omega (arith, k.size), k.low) }

pub returns : goal.returns
returns c = c.all_given.ensures ∙ sure_given (func_of c.args.e.now.func.now) c.args.e.now.first c.args.room (omega (arith, c.if-room-lt-MOST_WORDS.false)) (omega (arith, c.region_total.ensures, c.if-region_total-eq0.false))
