-- What the proofs of this crate cite, over plain variables.
use mathlib.Core.Path.{◌≡◌}
use mathlib.Core.List.{List}
use Prim.Native.Nat.{ℕ}
use lib.ListN.{length}
use Rattle.func.specs.Store.{count, view}
use Rattle.func.proofs.Tables.{whole_pool}
use Rattle.check_rules.specs.declared.Rule.{Rule}
use Rattle.check_rules.specs.Test.{pool_for, rule_fits}
use Rattle.check_limits.specs.Limits.{LimitsReady}

-- how many entries a rule is asked of
pub rule_length : {w : List ℕ} → LimitsReady w → (r : Rule) → length (view (pool_for r) w) ≡ count (pool_for r) w
rule_length {w} r x = whole_pool (pool_for x) w (rule_fits r x)
