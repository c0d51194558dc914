-- Past the end there is no byte (`byte_past`), and within the text it is the one that was asked for (`byte_hit`) or another (`byte_miss`).
use mathlib.Core.Path.{refl}
use native.Mathlib.Omega.{arith}
use Rattle.read_cursor.specs.Laws.{byte_past, byte_hit, byte_miss}
use Rattle.read_cursor.specs.Chains.{no_step}
use Rattle.read_cursor.proofs.Cursor.byte.Goals as goal

pub returns-in_err-get : goal.returns-in_err-get
returns-in_err-get c = no_step c.from_residual.ensures (record { denied = byte_past _ (omega (arith, c.in_err-get.ensures)) })

pub returns-then-branch-b : goal.returns-then-branch-b
returns-then-branch-b c = record { took = byte_hit _ (omega (arith, c.in_ok-get.ensures)) (grind (arith, c.in_ok-get.ensures)); same_text = refl }

pub returns : goal.returns
returns c = record { denied = byte_miss _ (omega (arith, c.in_ok-get.ensures)) (grind (arith, c.in_ok-get.ensures)) }
