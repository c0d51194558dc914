-- Each of the line's targets is asked (`all_of`).
use Rattle.std.proofs.Common.{rules, tests}
use Rattle.general_laws.specs.Ranges.{all_of}
use Rattle.func.specs.Decode.{func_of}
use Rattle.func.specs.Tables.{ctrl_line_of}
use Rattle.check_control.specs.Loops.{target_fits}
use Rattle.check_control.proofs.Marked.targets_fit.Goals as goal

pub returns : goal.returns
returns c =
    let F = func_of c.args.self.now.func.now in
    all_of (target_fits F) (ctrl_line_of F c.args.c).1.to 0 c.all.ensures.ran c.target_count-k.ensures (λ x b q k. search (rules, tests))
