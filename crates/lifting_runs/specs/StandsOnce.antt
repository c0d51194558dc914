-- Where each number below n stands once by refusal 5's test, none stands twice. Assumes nothing.
use Rattle.std.specs.Prelude.{◌≡◌, true, List, ℕ, ◌≤◌, ◌<◌}
use Rattle.std.proofs.Math.Decide.{dec_lt, ℕ_discrete}
use Rattle.std.proofs.Common.{arith, eqb-true}
use Rattle.general_laws.specs.Lists.{times}
use Rattle.lifting.specs.Tree.{stands_once}
use Rattle.general_laws.specs.Members.{All, all_in, NoDup, out_times, times_nodup}
use Rattle.general_laws.specs.Tests.{every_below}

pub stands_once_law : (n : ℕ) (l : List ℕ) → stands_once n l ≡ true → All (λ i. i < n) l → NoDup l
stands_once_law n l e h = times_nodup l (λ i. by_case i (dec_lt i n))
  where
    by_case : (i : ℕ) → Dec (i < n) → times ℕ_discrete i l ≤ 1
    by_case i (yes a) = let once = eqb-true (times ℕ_discrete i l) 1 (every_below _ n e i a) in omega arith
    by_case i (no a) = omega (arith, out_times i l (λ j. a (all_in _ l h i j)))
