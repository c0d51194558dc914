-- The four kinds of lines are read one after the other, each from where the one before ended; where one is missed the body is (`body_nodes`,
-- `body_ops`, `body_is`).
use mathlib.Core.Path.{◌∙◌}
use native.Mathlib.Omega.{arith}
use Rattle.lifting.specs.Grammar.{region_lines, node_lines, op_lines}
use Rattle.read_text.specs.Chain.{body_nodes, body_ops, body_is}
use Rattle.read_text.proofs.Laws.{text_kept, lines_next, none_next, ctrls_next, body_no}
use borrow.Author.Rules.{rules}
use Rattle.read_text.proofs.body_lines.Goals as goal

pub returns-in_err-a : goal.returns-in_err-a
returns-in_err-a c = record { body_is = body_no _ _ _ _ c.from_residual.ensures region_lines _ c.in_err-a.ensures.lined; func_len_unchanged = c.lines.ensures.func_len_unchanged; work_len_unchanged = search rules }

pub lines-requires-2 : goal.lines-requires-2
lines-requires-2 c =
    let p = c.in_ok-a.ensures.lined in
    (omega (arith, c.lines.ensures.func_len_unchanged, c.requires.0), omega (arith, p.passed.fits, text_kept c.args.from c.in_ok-a.a p.same_text))

pub returns-in_err-b : goal.returns-in_err-b
returns-in_err-b c =
    let p = c.in_ok-a.ensures.lined in
    record { body_is = body_no _ _ _ _ c.from_residual-in_err-b.ensures region_lines _ (body_nodes p.passed (none_next c.args.from c.in_ok-a.a p.same_text node_lines c.in_err-b.ensures.lined)); func_len_unchanged = c.lines-2.ensures.func_len_unchanged ∙ c.lines.ensures.func_len_unchanged; work_len_unchanged = search rules }

pub lines-requires-3 : goal.lines-requires-3
lines-requires-3 c =
    let q = c.in_ok-b.ensures.lined in
    (omega (arith, c.lines-2.ensures.func_len_unchanged, c.lines.ensures.func_len_unchanged, c.requires.0), omega (arith, q.passed.fits, text_kept c.in_ok-a.a c.in_ok-b.b q.same_text))

pub returns-in_err-c : goal.returns-in_err-c
returns-in_err-c c =
    let p = c.in_ok-a.ensures.lined in
    let q = c.in_ok-b.ensures.lined in
    let t = q.same_text ∙ p.same_text in
    record { body_is = body_no _ _ _ _ c.from_residual-in_err-c.ensures region_lines _ (body_ops p.passed (lines_next c.args.from c.in_ok-a.a p.same_text q) (none_next c.args.from c.in_ok-b.b t op_lines c.in_err-c.ensures.lined)); func_len_unchanged = c.lines-3.ensures.func_len_unchanged ∙ c.lines-2.ensures.func_len_unchanged ∙ c.lines.ensures.func_len_unchanged; work_len_unchanged = search rules }

pub ctrl_lines-requires : goal.ctrl_lines-requires
ctrl_lines-requires c =
    let p = c.in_ok-a.ensures.lined in
    let q = c.in_ok-b.ensures.lined in
    let r = c.in_ok-c.ensures.lined in
    let t = text_kept c.args.from c.in_ok-c.c (r.same_text ∙ q.same_text ∙ p.same_text) in
    (omega (arith, c.lines-3.ensures.func_len_unchanged, c.lines-2.ensures.func_len_unchanged, c.lines.ensures.func_len_unchanged, c.requires.0), c.requires.1, omega (arith, r.passed.fits, text_kept c.in_ok-b.b c.in_ok-c.c r.same_text), omega (arith, t, c.requires.3))

pub returns : goal.returns
returns c =
    let p = c.in_ok-a.ensures.lined in
    let q = c.in_ok-b.ensures.lined in
    let r = c.in_ok-c.ensures.lined in
    let t = q.same_text ∙ p.same_text in
    record { body_is = body_is p.passed (lines_next c.args.from c.in_ok-a.a p.same_text q) (lines_next c.args.from c.in_ok-b.b t r) c.ctrl_lines.result c.args.work.now c.ctrl_lines.new.func (ctrls_next c.args.from c.in_ok-c.c (r.same_text ∙ t) c.ctrl_lines.result _ _ _ c.ctrl_lines.ensures.ctrls_are); func_len_unchanged = c.ctrl_lines.ensures.func_len_unchanged ∙ c.lines-3.ensures.func_len_unchanged ∙ c.lines-2.ensures.func_len_unchanged ∙ c.lines.ensures.func_len_unchanged; work_len_unchanged = c.ctrl_lines.ensures.work_len_unchanged }
