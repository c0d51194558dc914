-- Each line is asked (`all_of`).
use Rattle.std.proofs.Common.{rules, tests}
use Rattle.general_laws.specs.Ranges.{all_of}
use Rattle.func.specs.Decode.{func_of}
use Rattle.check_control.specs.Loops.{line_fits}
use Rattle.walk_roots.specs.Tables.{no_line}
use Rattle.check_control.proofs.Marked.lines_fit.Goals as goal

pub returns : goal.returns
returns c =
    let F = func_of c.args.self.now.func.now in
    all_of (line_fits F) F.ctrls no_line c.all.ensures.ran c.ctrl_total-k.ensures (λ x b q k. search (rules, tests))
