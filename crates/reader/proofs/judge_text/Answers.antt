-- A text that is too long is refused by 1 (`long`), one that is not of the forms by 2 (`malformed`); of any other what was read is what the
-- checks ask (`judged_safe`), and they decide (`judged`).
use mathlib.Core.Path.{refl, ◌∙◌}
use native.Mathlib.Omega.{arith}
use lib.ListN.{length}
use Rattle.reader.specs.Same.{long, malformed, judged_safe, judged}
use borrow.Author.Rules.{rules}
use Rattle.reader.proofs.judge_text.Goals as goal

pub returns-then-text-gt-MAX_BYTES : goal.returns-then-text-gt-MAX_BYTES
returns-then-text-gt-MAX_BYTES c = record { judges = (long c.args.text.now (length c.args.func.now) (length c.args.work.now) c.requires.func_words_in_bounds.0 c.requires.func_words_in_bounds.1 c.if-text-gt-MAX_BYTES.true, refl); func_len_unchanged = search rules; work_len_unchanged = search rules }

pub returns-in_default : goal.returns-in_default
returns-in_default c =
    let e = c.in_default.ensures.text_is in
    record { judges = (malformed c.args.text.now (length c.args.func.now) (length c.args.work.now) c.requires.func_words_in_bounds.0 c.requires.func_words_in_bounds.1 (omega (arith, c.if-text-gt-MAX_BYTES.false)) e, refl); func_len_unchanged = c.read_text.ensures.func_len_unchanged; work_len_unchanged = c.read_text.ensures.work_len_unchanged }

pub checks-requires : goal.checks-requires
checks-requires c =
    let e = c.in-Some.ensures.text_is in
    record { checks_safe = judged_safe c.args.text.now c.requires.func_words_in_bounds.0 c.requires.func_words_in_bounds.1 c.requires.clear c.requires.unentered (omega (arith, c.if-text-gt-MAX_BYTES.false)) e; work_need_in_bounds = omega (arith, c.read_text.ensures.work_len_unchanged, c.requires.func_words_in_bounds.1) }

pub returns : goal.returns
returns c =
    let e = c.in-Some.ensures.text_is in
    record { judges = judged c.args.text.now c.requires.func_words_in_bounds.0 c.requires.func_words_in_bounds.1 c.requires.clear c.requires.unentered (omega (arith, c.if-text-gt-MAX_BYTES.false)) e c.checks.result c.checks.ensures.value; func_len_unchanged = c.read_text.ensures.func_len_unchanged; work_len_unchanged = c.checks.ensures.work_len_unchanged ∙ c.read_text.ensures.work_len_unchanged }
