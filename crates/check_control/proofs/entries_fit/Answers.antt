-- Each of the line's entries is asked by its region (`all_of`).
use Rattle.std.proofs.Common.{rules, tests, sym, ◌∙◌, []}
use Rattle.general_laws.specs.Every.{every_keys}
use Rattle.general_laws.specs.Lists.{within}
use Rattle.general_laws.specs.Ranges.{all_of}
use Rattle.func.specs.Decode.{func_of}
use Rattle.func.specs.Tables.{ctrl_line_of}
use Rattle.check_control.proofs.entries_fit.Goals as goal

pub returns : goal.returns
returns c =
    let l = (ctrl_line_of (func_of c.args.func.now) c.args.c).1 in
    all_of (λ e. within e.0 l.to) l.vals (0, []) c.all.ensures.ran c.entry_count-k.ensures (λ x b q k. search (rules, tests))
    ∙ sym (every_keys (λ r. within r l.to) l.vals)
