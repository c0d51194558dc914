-- Each region is asked by its inputs (`all_of`).
use Rattle.std.proofs.Common.{rules, tests, []}
use Rattle.general_laws.specs.Ranges.{all_of}
use Rattle.func.specs.Decode.{func_of}
use Rattle.check_first.specs.Lines.{types_below, regions_below}
use Rattle.check_first.proofs.regions_below.Goals as goal

pub returns : goal.returns
unfolding regions_below
returns c =
    all_of (λ r. types_below c.args.first r.ins) (func_of c.args.func.now).regions (record { ins = []; nodes = []; outs = [] }) c.all.ensures.ran c.region_total-n.ensures (λ x b q k. search (rules, tests))
