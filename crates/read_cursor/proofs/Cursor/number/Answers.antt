-- The first byte decides between no number, a 0 alone and more digits. The value so far is below 2 ^ 32, and where the next one is not there is no
-- number.
use mathlib.Core.Path.{refl, sym, ◌∙◌}
use lib.ListN.{get_or}
use native.Mathlib.Omega.{arith}
use Rattle.read_cursor.specs.Chains.{no_value}
use Rattle.read_cursor.proofs.Laws.{digit_as, number_past, number_none, number_zero, digits_first, digits_stop, digits_end, digits_over, digits_next}
use Rattle.read_cursor.proofs.Cursor.number.Goals as goal

pub returns-in_err-first : goal.returns-in_err-first
returns-in_err-first c = no_value _ c.from_residual.ensures (record { denied = number_past (omega (arith, c.in_err-first.ensures)) })

pub returns-then-not-is_ascii_digit : goal.returns-then-not-is_ascii_digit
returns-then-not-is_ascii_digit c =
    let here = c.in_ok-first.ensures.lookup.3 in
    record { denied = number_none here.0 (here.1 0) (digit_as c.in_ok-first.field-0.now c.is_ascii_digit.ensures.value c.if-not-is_ascii_digit.true) }

pub returns-then-first-eq48 : goal.returns-then-first-eq48
returns-then-first-eq48 c =
    let here = c.in_ok-first.ensures.lookup.3 in
    record { took = number_zero here.0 (sym (here.1 0) ∙ c.if-first-eq48.true); same_text = refl }

pub loop-i-init : goal.loop-i-init
loop-i-init c =
    let here = c.in_ok-first.ensures.lookup.3 in
    digits_first here.0 (here.1 0) (digit_as c.in_ok-first.field-0.now c.is_ascii_digit.ensures.value c.if-not-is_ascii_digit.false) c.if-first-eq48.false c.from-n.ensures

pub returns-then-not-is_ascii_digit-2 : goal.returns-then-not-is_ascii_digit-2
returns-then-not-is_ascii_digit-2 c =
    let other = digit_as (get_or c.args.self.text.now c.loop-i.i 0) c.is_ascii_digit-in-loop-i.ensures.value c.if-not-is_ascii_digit-2.true in
    record { took = digits_stop c.loop-i.invariant (omega arith) other; same_text = refl }

pub returns-in_err-checked_mul : goal.returns-in_err-checked_mul
returns-in_err-checked_mul c =
    let more = digit_as (get_or c.args.self.text.now c.loop-i.i 0) c.is_ascii_digit-in-loop-i.ensures.value c.if-not-is_ascii_digit-2.false in
    no_value _ c.from_residual-in_err-checked_mul.ensures (record { denied = digits_over c.loop-i.invariant (omega arith) more (grind (arith, c.in_err-checked_mul.ensures)) })

pub returns-in_err-n : goal.returns-in_err-n
returns-in_err-n c =
    let more = digit_as (get_or c.args.self.text.now c.loop-i.i 0) c.is_ascii_digit-in-loop-i.ensures.value c.if-not-is_ascii_digit-2.false in
    no_value _ c.from_residual-in_err-n.ensures (record { denied = digits_over c.loop-i.invariant (omega arith) more (grind (arith, c.in_ok-checked_mul.ensures, c.in_err-n.ensures)) })

pub loop-i-preserved : goal.loop-i-preserved
loop-i-preserved c =
    let more = digit_as (get_or c.args.self.text.now c.loop-i.i 0) c.is_ascii_digit-in-loop-i.ensures.value c.if-not-is_ascii_digit-2.false in
    let product = c.in_ok-checked_mul.ensures in
    let sum = c.in_ok-n.ensures in
    digits_next c.loop-i.invariant (omega arith) more (omega arith) (omega arith)

pub returns : goal.returns
returns c = record { took = digits_end c.loop-i.invariant (omega arith); same_text = refl }
