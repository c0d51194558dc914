-- The ids behind constant i are looked through for its own (`any_from`).
use Rattle.std.proofs.Common.{rules, tests, ◌∙◌, get_or, arith}
use Rattle.general_laws.specs.Ranges.{any_from}
use Rattle.check_const_ids.specs.Test.{const_ids}
use Rattle.check_const_ids.proofs.Laws.{ids_length, id_at}
use Rattle.check_const_ids.proofs.repeats.Goals as goal

pub returns : goal.returns
returns c =
    let x = c.row_word-x.ensures ∙ id_at c.args.func.now.words.now c.args.i in
    any_from (get_or (const_ids c.args.func.now.words.now) c.args.i 0) (const_ids c.args.func.now.words.now) c.any.ensures.ran (omega (arith, c.count-n.ensures, ids_length c.args.func.now.ready)) (λ y b q k. let e = id_at c.args.func.now.words.now y in search (rules, tests))
