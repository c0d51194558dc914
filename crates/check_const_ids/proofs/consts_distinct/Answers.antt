-- The loop's invariant: the ids from the i-th on are distinct, and each has set its mark.
use mathlib.Core.Path.{◌≡◌, refl, sym, ap, ◌∙◌}
use mathlib.Core.Bool.{false}
use Prim.Native.Nat.{ℕ, ◌-◌, ◌%◌, ◌<◌}
use native.Mathlib.Omega.{arith}
use lib.ListN.{length, get_or, drop, drop_of_length-le}
use Rattle.general_laws.specs.Lists.{distinct}
use Rattle.check_const_ids.specs.Test.{const_ids, distinct_test}
use Rattle.general_laws.specs.Every.{unmarked, distinct_stop}
use Rattle.check_const_ids.proofs.Laws.{ids_length, id_at}
use Rattle.check_const_ids.proofs.consts_distinct.Goals as goal

pub loop-i-init : goal.loop-i-init
loop-i-init c =
    let l = const_ids c.args.func.now.words.now in
    (ap distinct (drop_of_length-le l {i = c.count-i.result} (omega (arith, ids_length c.args.func.now.ready))), refl, λ k a b. absurd (omega (arith, ids_length c.args.func.now.ready)))

pub met-requires-clause-func_value : goal.met-requires-clause-func_value
met-requires-clause-func_value c =
    let x : c.row_word.result ≡ get_or (const_ids c.args.func.now.words.now) (c.loop-i.i - 1) 0 = c.row_word.ensures ∙ id_at c.args.func.now.words.now (c.loop-i.i - 1) in
    λ e. unmarked 2039 (const_ids c.args.func.now.words.now) (c.loop-i.i - 1) c.loop-i.i _ c.loop-i.marks (omega arith) c.loop-i.invariant.2 (ap (λ (y : ℕ). get_or c.loop-i.marks (y % 2039) false) (sym x) ∙ e)

pub returns-then-met : goal.returns-then-met
unfolding distinct_test
returns-then-met c =
    let h : c.loop-i.i - 1 < length (const_ids c.args.func.now.words.now) = omega (arith, ids_length c.args.func.now.ready) in
    sym (distinct_stop (const_ids c.args.func.now.words.now) (c.loop-i.i - 1) h (sym c.met.ensures ∙ c.if-met.true))

pub returns : goal.returns
unfolding distinct_test
returns c =
    let z : c.loop-i.i ≡ 0 = omega arith in
    sym (ap (λ (n : ℕ). distinct (drop n (const_ids c.args.func.now.words.now))) (sym z) ∙ c.loop-i.invariant.0)
