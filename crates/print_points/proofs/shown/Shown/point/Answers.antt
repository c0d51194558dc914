-- The word of position i is the number of its point (`point_word`), and numbers are below 512 (`point_low`).
use mathlib.Core.Path.{◌∙◌}
use native.Mathlib.Omega.{arith}
use Rattle.func.specs.Decode.{func_of}
use Rattle.walk_points.specs.Numbers.{point_low}
use Rattle.terminators.specs.At.{point_at}
use Rattle.terminators.specs.Visited.{point_word, point_small}
use Rattle.terminators.specs.Plain.{visited_plain}
use Rattle.print_points.proofs.shown.Shown.point.Goals as goal

pub returns : goal.returns
returns c =
    let k = visited_plain c.args.self.now.visits.visited in
    let e = c.number.ensures ∙ point_word k c.args.i c.requires in
    (e, omega (arith, e, point_low (point_at (func_of c.args.self.now.visits.func.now) c.args.i) (point_small k c.args.i c.requires)))
