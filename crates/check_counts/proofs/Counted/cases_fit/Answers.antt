-- The case of each number below the count is asked, as in `cases_test`.
use Rattle.std.proofs.Common.{rules, tests}
use Rattle.general_laws.specs.Ranges.{all_numbers}
use Rattle.check_counts.specs.Test.{child_in, case_test, cases_test}
use Rattle.check_counts.proofs.Counted.cases_fit.Goals as goal

pub returns : goal.returns
unfolding cases_test
returns c =
    let w = c.args.self.now.words.now in
    all_numbers (λ i. case_test w c.args.n (child_in w c.args.n i)) c.all.ensures.ran c.row_count-m.ensures (λ x b q k. search (rules, tests))
