-- The line's entries from s on are looked through for the region (`any_keys`).
use Rattle.std.proofs.Common.{rules, tests, []}
use Rattle.general_laws.specs.Ranges.{any_keys}
use Rattle.func.specs.Decode.{func_of}
use Rattle.func.specs.Tables.{ctrl_line_of}
use Rattle.check_control.proofs.entry_after.Goals as goal

pub returns : goal.returns
returns c = any_keys c.args.r (ctrl_line_of (func_of c.args.func.now) c.args.c).1.vals (0, []) c.any.ensures.ran c.entry_count-k.ensures (λ x b q k. search (rules, tests))
