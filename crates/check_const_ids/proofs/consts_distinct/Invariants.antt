-- The loop's invariant: the ids from the i-th on are distinct, and each has set its mark.
use mathlib.Core.Path.{◌≡◌}
use mathlib.Core.Bool.{true}
use lib.ListN.{length, drop}
use Rattle.general_laws.specs.Every.{Marked}
use Rattle.general_laws.specs.Lists.{distinct}
use Rattle.check_const_ids.specs.Test.{const_ids}
use Rattle.check_const_ids.proofs.consts_distinct.Given as goal

abbrev pub invariant-loop-i : goal.invariant-loop-i
invariant-loop-i l = (distinct (drop l.i (const_ids l.func.words.now)) ≡ true) × (length l.marks ≡ 2039) × Marked 2039 (const_ids l.func.words.now) l.i l.marks
