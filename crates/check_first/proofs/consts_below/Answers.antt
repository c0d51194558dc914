-- Each constant is asked by its id (`all_of`).
use Rattle.std.proofs.Common.{rules, tests, ltb}
use Rattle.general_laws.specs.Ranges.{all_of}
use Rattle.func.specs.Decode.{func_of}
use Rattle.func.specs.Kinds.{const_from}
use Rattle.check_first.specs.Lines.{consts_below}
use Rattle.check_first.proofs.consts_below.Goals as goal

pub returns : goal.returns
unfolding consts_below
returns c = all_of (λ d. ltb d.id c.args.first) (func_of c.args.func.now).consts (const_from 0 0) c.all.ensures.ran c.const_total-n.ensures (λ x b q k. search (rules, tests))
