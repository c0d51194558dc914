-- The line's targets are looked through for the region (`any_of`).
use Rattle.std.proofs.Common.{rules, tests}
use Rattle.general_laws.specs.Ranges.{any_of}
use Rattle.func.specs.Decode.{func_of}
use Rattle.func.specs.Tables.{ctrl_line_of}
use Rattle.check_control.proofs.is_target.Goals as goal

pub returns : goal.returns
returns c = any_of c.args.r (ctrl_line_of (func_of c.args.func.now) c.args.c).1.to c.any.ensures.ran c.target_count-k.ensures (λ x b q k. search (rules, tests))
