-- A kept block starts at the point just where its status word is its number plus 1: there the one label gets the id (`label_one`), and elsewhere
-- there is no name (`label_none`).
use mathlib.Core.Path.{ap, sym}
use mathlib.Core.Option.{some}
use Prim.Native.Nat.{ℕ, ◌+◌}
use native.Mathlib.Omega.{arith}
use Rattle.func.specs.Decode.{func_of}
use Rattle.work.specs.Layout.{label_ids_at}
use Rattle.emit_names.specs.Names.{label_none, label_one}
use Rattle.emit_id_runs.specs.Giving.{gives_nothing, gives_one}
use Rattle.emit_names.specs.Standing.{not_here, number_is, starts_here}
use Rattle.emit_id_runs.proofs.label_ids.Goals as goal

pub give-requires : goal.give-requires
give-requires c =
    let l = (number_is c.requires.laid c.args.i c.requires.i_lt_m.0 c.number-q.ensures).1 in
    (omega (arith, l, c.requires.laid.size), omega (arith, c.requires.i_lt_m.1))

pub returns-then-number-q : goal.returns-then-number-q
returns-then-number-q c =
    let n = (number_is c.requires.laid c.args.i c.requires.i_lt_m.0 c.number-q.ensures).0 in
    let here = starts_here c.requires.laid c.args.i c.requires.i_lt_m.0 c.number-q.ensures c.number.ensures c.if-number-q.true in
    gives_one (label_one (func_of c.args.func.now) c.args.i here) (ap (λ (x : ℕ). some (label_ids_at + x)) (sym n)) c.give.ensures.value c.give.ensures.work_after

pub returns : goal.returns
returns c =
    let here = not_here c.requires.laid c.args.i c.requires.i_lt_m.0 c.number-q.ensures c.number.ensures c.if-number-q.false in
    gives_nothing (label_none (func_of c.args.func.now) c.args.i here) c.args.k c.args.work.now
