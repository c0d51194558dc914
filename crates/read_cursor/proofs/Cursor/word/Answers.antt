-- A text that ends before the place has no word there (`along_past`), and else the test of its bytes tells (`word_miss`, `word_hit`).
use mathlib.Core.Path.{refl}
use native.Mathlib.Omega.{arith}
use borrow.Author.Rules.{rules}
use Rattle.read_cursor.specs.Laws.{along_past, word_miss, word_hit}
use Rattle.read_cursor.specs.Chains.{no_step}
use Rattle.read_cursor.proofs.Cursor.word.Goals as goal

pub returns-in_err-get : goal.returns-in_err-get
returns-in_err-get c = no_step c.from_residual.ensures (record { denied = along_past _ (grind (arith, c.in_err-get.ensures)) c.requires })

pub returns-then-not-starts_with : goal.returns-then-not-starts_with
returns-then-not-starts_with c =
    let in_text = c.in_ok-get.ensures.lookup.0 in
    record { denied = word_miss _ _ in_text.0 in_text.2 c.if-not-starts_with.ensures.value }

pub returns : goal.returns
returns c =
    let in_text = c.in_ok-get.ensures.lookup.0 in
    let tested = c.if-not-starts_with.ensures in
    record { took = word_hit _ _ in_text.0 in_text.2 c.requires (tested.bound (search rules)) in_text.3 tested.value; same_text = refl }
