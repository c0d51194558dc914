-- The const lines, the param lines and the rest are read one after the other, each from where the one before ended (`tail_params`, `tail_is`).
use mathlib.Core.Path.{◌∙◌}
use native.Mathlib.Omega.{arith}
use Rattle.lifting.specs.Grammar.{param_lines, rest_lines}
use Rattle.read_text.specs.Chain.{tail_params, tail_is}
use Rattle.read_text.proofs.Laws.{text_kept, lines_next, none_next, body_next, tail_no}
use borrow.Author.Rules.{rules}
use Rattle.read_text.proofs.tail_lines.Goals as goal

pub returns-in_err-a : goal.returns-in_err-a
returns-in_err-a c = record { tail_is = tail_no _ _ _ _ c.from_residual.ensures _ c.in_err-a.ensures.lined; func_len_unchanged = c.lines.ensures.func_len_unchanged; work_len_unchanged = search rules }

pub lines-requires-2 : goal.lines-requires-2
lines-requires-2 c =
    let p = c.in_ok-a.ensures.lined in
    (omega (arith, c.lines.ensures.func_len_unchanged, c.requires.0), omega (arith, p.passed.fits, text_kept c.args.from c.in_ok-a.a p.same_text))

pub returns-in_err-b : goal.returns-in_err-b
returns-in_err-b c =
    let p = c.in_ok-a.ensures.lined in
    record { tail_is = tail_no _ _ _ _ c.from_residual-in_err-b.ensures _ (tail_params p.passed (none_next c.args.from c.in_ok-a.a p.same_text param_lines c.in_err-b.ensures.lined)); func_len_unchanged = c.lines-2.ensures.func_len_unchanged ∙ c.lines.ensures.func_len_unchanged; work_len_unchanged = search rules }

pub rest_lines-requires : goal.rest_lines-requires
rest_lines-requires c =
    let p = c.in_ok-a.ensures.lined in
    let q = c.in_ok-b.ensures.lined in
    let t = text_kept c.args.from c.in_ok-b.b (q.same_text ∙ p.same_text) in
    (omega (arith, c.lines-2.ensures.func_len_unchanged, c.lines.ensures.func_len_unchanged, c.requires.0), c.requires.1, omega (arith, q.passed.fits, text_kept c.in_ok-a.a c.in_ok-b.b q.same_text), omega (arith, t, c.requires.3))

pub returns : goal.returns
returns c =
    let p = c.in_ok-a.ensures.lined in
    let q = c.in_ok-b.ensures.lined in
    record { tail_is = tail_is p.passed (lines_next c.args.from c.in_ok-a.a p.same_text q) c.rest_lines.result c.args.work.now c.rest_lines.new.func (body_next c.args.from c.in_ok-b.b (q.same_text ∙ p.same_text) rest_lines c.rest_lines.result _ _ _ c.rest_lines.ensures.body_is); func_len_unchanged = c.rest_lines.ensures.func_len_unchanged ∙ c.lines-2.ensures.func_len_unchanged ∙ c.lines.ensures.func_len_unchanged; work_len_unchanged = c.rest_lines.ensures.work_len_unchanged }
