-- The func line is read at the start, and what comes after it behind it (`text_whole`); without the word (`text_headless`) or the line
-- (`text_refused`) the text is refused.
use mathlib.Core.Path.{◌∙◌}
use native.Mathlib.Omega.{arith}
use Rattle.read_cursor.specs.Chains.{took_next, denied_next}
use Rattle.read_cursor.specs.declared.Cursor.{Cursor}
use Rattle.read_text.specs.Chain.{text_headless, text_refused, text_whole}
use Rattle.read_text.proofs.Laws.{text_kept, tail_next, text_no}
use borrow.Author.Rules.{rules}
use Rattle.read_text.proofs.read_text.Goals as goal

pub returns-in_err-a : goal.returns-in_err-a
returns-in_err-a c = record { text_is = text_no _ _ _ _ c.from_residual.ensures (text_headless c.in_err-a.ensures.denied); func_len_unchanged = search rules; work_len_unchanged = search rules }

pub returns-in_err-b : goal.returns-in_err-b
returns-in_err-b c =
    let p = c.in_ok-a.ensures in
    let from : Cursor = record { text = c.args.text; at = 0 } in
    record { text_is = text_no _ _ _ _ c.from_residual-in_err-b.ensures (text_refused p.took (denied_next from p.same_text c.in_err-b.ensures.stores).is); func_len_unchanged = c.func_line.ensures.func_len_unchanged; work_len_unchanged = search rules }

pub tail_lines-requires : goal.tail_lines-requires
tail_lines-requires c =
    let p = c.in_ok-a.ensures in
    let s = c.in_ok-b.ensures.stores.reached in
    let t = text_kept c.in_ok-a.a c.in_ok-b.b s.same_text in
    let u = text_kept (record { text = c.args.text; at = 0 }) c.in_ok-a.a p.same_text in
    (omega (arith, c.func_line.ensures.func_len_unchanged, c.requires.0), c.requires.1, omega (arith, t, s.took.moves.fits), omega (arith, t, u, c.requires.2))

pub returns : goal.returns
returns c =
    let p = c.in_ok-a.ensures in
    let s = c.in_ok-b.ensures.stores in
    let from : Cursor = record { text = c.args.text; at = 0 } in
    record { text_is = text_whole p.took c.in_ok-b.b.at c.args.func.now s.value (took_next from p.same_text s.reached).is s.kept c.tail_lines.result _ c.tail_lines.new.func (tail_next from c.in_ok-b.b (s.reached.same_text ∙ p.same_text) c.tail_lines.result _ _ _ c.tail_lines.ensures.tail_is); func_len_unchanged = c.tail_lines.ensures.func_len_unchanged ∙ c.func_line.ensures.func_len_unchanged; work_len_unchanged = c.tail_lines.ensures.work_len_unchanged }
