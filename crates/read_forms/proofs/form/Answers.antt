-- The loop's invariant (`Open`) says how far it has come and how many brackets are open there; they are at most as many as the bytes passed, so
-- that their count does not wrap. The part up to the bracket that closes the form is handed back (`open_close`).
use mathlib.Core.Path.{sym, ◌∙◌}
use Prim.Native.Nat.{◌-◌}
use native.Mathlib.Omega.{arith}
use Rattle.read_forms.proofs.Laws.{open_past, open_first, open_close, open_next, open_end}
use Rattle.read_forms.proofs.form.Goals as goal

pub returns-then-text-at : goal.returns-then-text-at
returns-then-text-at c = open_past _ _ (omega arith)

pub loop-i-init : goal.loop-i-init
loop-i-init c = open_first (omega arith)

pub returns-then-closes : goal.returns-then-closes
returns-then-closes c = open_close c.loop-i.invariant (omega arith) (sym c.closes.ensures ∙ c.if-closes.true)

pub loop-i-preserved : goal.loop-i-preserved
loop-i-preserved c = open_next c.loop-i.invariant (omega arith) (sym c.closes.ensures ∙ c.if-closes.false) c.deeper-d.ensures.0 c.deeper-d.ensures.1

pub returns : goal.returns
returns c = open_end c.loop-i.invariant (omega arith)
