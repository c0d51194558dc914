-- Each of the line's entries is looked for behind it (`distinct_keys`).
use Rattle.std.proofs.Common.{rules, tests, []}
use Rattle.general_laws.specs.Ranges.{distinct_keys}
use Rattle.func.specs.Decode.{func_of}
use Rattle.func.specs.Tables.{ctrl_line_of}
use Rattle.check_control.proofs.entries_distinct.Goals as goal

pub returns : goal.returns
returns c = distinct_keys (ctrl_line_of (func_of c.args.func.now) c.args.c).1.vals (0, []) c.all.ensures.ran c.entry_count-k.ensures (λ x b q k. search (rules, tests))
