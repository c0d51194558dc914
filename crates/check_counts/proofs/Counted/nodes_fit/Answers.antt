-- The node of each number below the count is asked, as in `nodes_test`.
use Rattle.std.proofs.Common.{rules, tests}
use Rattle.general_laws.specs.Ranges.{all_numbers}
use Rattle.check_counts.specs.Test.{node_test, nodes_test}
use Rattle.check_counts.proofs.Counted.nodes_fit.Goals as goal

pub returns : goal.returns
unfolding nodes_test
returns c = all_numbers (node_test c.args.self.now.words.now) c.all.ensures.ran c.count-m.ensures (λ x b q k. search (rules, tests))
