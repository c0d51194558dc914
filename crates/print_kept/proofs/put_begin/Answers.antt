-- A point that is absorbed begins nothing, and any other puts its start: the two cases of `begin_bytes`.
use mathlib.Core.Path.{sym, ap, ◌∙◌}
use mathlib.Core.Bool.{Bool}
use native.Mathlib.Omega.{arith}
use Rattle.func.specs.Decode.{func_of}
use Rattle.terminators.specs.At.{point_at}
use Rattle.print_bytes.specs.Prints.{prints_none, prints_same}
use Rattle.print_lines.specs.Positions.{begin_bytes}
use Rattle.print_kept.proofs.put_begin.Goals as goal

pub returns-then-joined : goal.returns-then-joined
returns-then-joined c =
    let F = func_of c.args.shown.now.visits.func.now in
    prints_same (prints_none (omega arith)) (ap (λ (b : Bool). begin_bytes F b (point_at F c.args.i)) (sym c.if-joined.true ∙ c.joined.ensures))

pub returns : goal.returns
returns c =
    let F = func_of c.args.shown.now.visits.func.now in
    prints_same c.put_start.ensures (ap (λ (b : Bool). begin_bytes F b (point_at F c.args.i)) (sym c.if-joined.false ∙ c.joined.ensures))
