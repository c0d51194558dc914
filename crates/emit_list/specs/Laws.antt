-- Facts about the tables that the emitter's proofs cite. Assumes nothing.
use Rattle.std.specs.Prelude.{◌≡◌, refl, Bool, true, false, List, [], ◌∷◌, length}
use Rattle.std.proofs.Common.{arith}
use Rattle.lifting.specs.Ast.{Region}
use Rattle.lifting.specs.Points.{CfgPoint}
use Rattle.lifting_blocks.specs.Flat.{Status, goes, gone, starts}
use Rattle.block_absorbs.specs.Absorbs.{absorb_word}

pub no_regions : (rs : List Region) → length rs ≡ 0 → rs ≡ []
no_regions [] e = refl
no_regions (r ∷ rs) e = absurd (omega arith)

pub absorbs_true : (b : Bool) → absorb_word b ≡ 1 → b ≡ true
absorbs_true true e = refl
absorbs_true false e = absurd (omega arith)

pub absorbs_false : (b : Bool) → ¬ (absorb_word b ≡ 1) → b ≡ false
absorbs_false true n = absurd (n refl)
absorbs_false false n = refl

-- a point that stands in a kept block, but not at its start
pub goes_with : (s : Status) → ¬ (s ≡ gone) → ¬ (s ≡ starts) → (h : CfgPoint) × (s ≡ goes h)
goes_with gone n z = absurd (n refl)
goes_with starts n z = absurd (z refl)
goes_with (goes h) n z = (h, refl)
