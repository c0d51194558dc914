-- The opening word tells what follows: `(imported)` at the end of the text (`rest_imported`, `rest_unended`), a body (`rest_body`), or neither
-- (`rest_neither`).
use Rattle.lifting.specs.Grammar.{rest_lines}
use Rattle.read_text.specs.Chain.{rest_imported, rest_unended, rest_neither, rest_body}
use Rattle.read_text.proofs.Laws.{ended_next, body_no}
use borrow.Author.Rules.{rules}
use Rattle.read_text.proofs.rest_lines.Goals as goal

pub returns-then-end : goal.returns-then-end
returns-then-end c =
    let p = c.in-Some.ensures in
    record { body_is = rest_imported p.took (ended_next c.args.from c.in-Some.c p.same_text c.if-end.true c.end.ensures); func_len_unchanged = search rules; work_len_unchanged = search rules }

pub returns-in-Some : goal.returns-in-Some
returns-in-Some c =
    let p = c.in-Some.ensures in
    record { body_is = rest_unended p.took (ended_next c.args.from c.in-Some.c p.same_text c.if-end.false c.end.ensures); func_len_unchanged = search rules; work_len_unchanged = search rules }

pub returns-in_err-word : goal.returns-in_err-word
returns-in_err-word c = record { body_is = body_no _ _ _ _ c.from_residual.ensures rest_lines _ (rest_neither c.in_default.ensures.denied c.in_err-word.ensures.denied); func_len_unchanged = search rules; work_len_unchanged = search rules }

pub returns : goal.returns
returns c = record { body_is = rest_body c.in_default.ensures.denied c.in_ok-word.ensures.took c.body_lines.result c.args.func.now c.args.work.now c.body_lines.new.func c.body_lines.ensures.body_is; func_len_unchanged = c.body_lines.ensures.func_len_unchanged; work_len_unchanged = c.body_lines.ensures.work_len_unchanged }
