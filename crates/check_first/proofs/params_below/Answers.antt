-- Each parameter is asked by its type (`all_of`).
use Rattle.std.proofs.Common.{rules, tests, ltb}
use Rattle.general_laws.specs.Ranges.{all_of}
use Rattle.func.specs.Decode.{func_of}
use Rattle.func.specs.Kinds.{decl_from}
use Rattle.check_first.specs.Lines.{params_below}
use Rattle.check_first.proofs.params_below.Goals as goal

pub returns : goal.returns
unfolding params_below
returns c = all_of (λ d. ltb d.type c.args.first) (func_of c.args.func.now).params (decl_from 0 0) c.all.ensures.ran c.param_total-n.ensures (λ x b q k. search (rules, tests))
