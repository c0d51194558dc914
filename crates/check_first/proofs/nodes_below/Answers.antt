-- Each node is asked by its outs (`all_of`).
use Rattle.std.proofs.Common.{rules, tests, []}
use Rattle.general_laws.specs.Ranges.{all_of}
use Rattle.lifting.specs.Ast.{block}
use Rattle.lifting.specs.Parts.{outs_of}
use Rattle.func.specs.Decode.{func_of}
use Rattle.check_first.specs.Lines.{types_below, nodes_below}
use Rattle.check_first.proofs.nodes_below.Goals as goal

pub returns : goal.returns
unfolding nodes_below
returns c = all_of (λ n. types_below c.args.first (outs_of n)) (func_of c.args.func.now).nodes (block []) c.all.ensures.ran c.node_total-n.ensures (λ x b q k. search (rules, tests))
