-- Each word at the end of the table of roots is asked (`all_tabulated`).
use Rattle.std.proofs.Common.{rules, tests, arith, get_or}
use Rattle.general_laws.specs.Lists.{within, keys}
use Rattle.general_laws.specs.Ranges.{all_tabulated}
use Rattle.func.specs.Decode.{func_of}
use Rattle.check_control.proofs.have_ctrls.Goals as goal

pub returns : goal.returns
returns c =
    all_tabulated (λ r. within r (keys (func_of c.args.func.now).ctrls)) (λ i. get_or c.args.work.now i 0) c.all.ensures.ran (omega (arith, c.requires.n_bound.0)) (λ x b q k. search (rules, tests))
