-- Each line is asked (`all_of`); refusal 7 gives each the counts of its kind (`counts_at`).
use Rattle.std.proofs.Common.{rules, tests}
use Rattle.std.proofs.iter.Serving.{serving}
use Rattle.general_laws.specs.Ranges.{all_of}
use Rattle.lifting.specs.Control.{targets_differ}
use Rattle.func.specs.Decode.{func_of}
use Rattle.check_targets.specs.Lines.{line_differs, counts_at}
use Rattle.walk_roots.specs.Tables.{no_line}
use Rattle.check_targets.proofs.targets_differ.Goals as goal

pub all-requires-clause-callable : goal.all-requires-clause-callable
all-requires-clause-callable c = let h = counts_at (func_of c.args.func.now) c.requires.func_value in grind serving

pub returns : goal.returns
unfolding targets_differ
returns c = all_of line_differs (func_of c.args.func.now).ctrls no_line c.all.ensures.ran c.ctrl_total-k.ensures (λ x b q k. search (rules, tests))
