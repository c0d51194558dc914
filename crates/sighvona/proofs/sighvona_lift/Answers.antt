-- The entry's answer crosses as numbers: what it tells of a list or of a refusal, and of the words that refusal 11 wants, decides all of them.
use mathlib.Core.Path.{◌∙◌}
use Rattle.lifter.specs.Entry.{answer_to, wanted_to}
use Rattle.sighvona.specs.Numbers.{numbers}
use Rattle.sighvona.proofs.sighvona_lift.Goals as goal

pub returns : goal.returns
returns c =
    let x = answer_to c.args.text.now c.args.first c.args.func.now c.args.work.now c.args.out.now in
    let k = wanted_to c.args.text.now c.args.first c.args.func.now c.args.work.now in
    let n = numbers x c.lift_function-r.result k c.args.words.now c.args.next.now c.lift_function-r.ensures.told c.lift_function-r.ensures.wanted in
    record { refusal = c.lift_number.ensures ∙ n.refusal; word_count = c.words_after.ensures ∙ n.count; next_id = c.next_after.ensures ∙ n.free; func_slice = c.lift_function-r.ensures.func_slice; work_slice = c.lift_function-r.ensures.work_slice; out_slice = c.lift_function-r.ensures.out_slice }
