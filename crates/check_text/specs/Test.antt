-- Refusals 3 to 7 and 13 in their order, as tests of the function slice's words: what the code computes. proofs/Same proves that it is the definition.
-- Assumes nothing.
--     checks_test         the first refusal of 3 to 7 and 13
--     ChecksSafe         what the code needs to stay within the slice
use Rattle.std.specs.Prelude.{◌≡◌, Bool, true, false, ◌&&◌, List, ℕ, ◌≤◌, leb, length, Result, Ok, Err}
use Rattle.lifting.specs.Limits.{max_regions, max_targets}
use Rattle.lifting.specs.Control.{control_fits, targets_differ}
use Rattle.refusals.specs.declared.Refusal.{Refusal}
use Rattle.refusals.specs.declared.Refusal.TheVariants.{Limits, References, Tree, Counts, Control, Targets}
use Rattle.func.specs.Layout.{func_need, entries, ctrls}
use Rattle.func.specs.Store.{count}
use Rattle.func.specs.Decode.{func_of}
use Rattle.func.specs.Tables.{Tables}
use Rattle.check_limits.specs.Limits.{limits_test}
use Rattle.check_references.specs.Test.{references_test}
use Rattle.check_marks.specs.Test.{tree_test, TreeSafe}
use Rattle.check_counts.specs.Test.{counts_test, CountsSafe}
use Rattle.walk_roots.specs.Tables.{RegionsNamed}

-- the first of the tests of 3 to 7 and 13 that is not passed
abbrev pub judge : Bool → Bool → Bool → Bool → Bool → Bool → Result Unit Refusal
judge false references is_tree counts control differ = Err Limits
judge true false is_tree counts control differ = Err References
judge true true false counts control differ = Err Tree
judge true true true false control differ = Err Counts
judge true true true true false differ = Err Control
judge true true true true true false = Err Targets
judge true true true true true true = Ok tt

-- there is room for all ctrl lines and entries
unfoldable pub few_test : List ℕ → Bool
few_test w = leb (count ctrls w) max_regions && leb (count entries w) max_targets

-- `opcodes` and `edges` are what the reader judged of ctrl lines. Only few of them stand in the slice whole, and of more refusal 7 holds.
unfoldable pub checks_test : List ℕ → Bool → Bool → Result Unit Refusal
unfolding limits_test references_test tree_test counts_test control_fits targets_differ func_of
checks_test w opcodes edges =
    judge (limits_test w) (references_test w && opcodes) (tree_test w) (counts_test w && edges) (few_test w && control_fits (func_of w)) (targets_differ (func_of w))

-- each test is safe where those before it were passed
pub record ChecksSafe (w : List ℕ) (opcodes : Bool) : Type 0 where
  pub size : func_need ≤ length w
  pub tree : limits_test w ≡ true → (references_test w && opcodes) ≡ true → TreeSafe w
  pub counts : limits_test w ≡ true → (references_test w && opcodes) ≡ true → tree_test w ≡ true → CountsSafe w
  pub tables : limits_test w ≡ true → (references_test w && opcodes) ≡ true → tree_test w ≡ true → few_test w ≡ true → Tables w
  pub named : limits_test w ≡ true → (references_test w && opcodes) ≡ true → tree_test w ≡ true → few_test w ≡ true → RegionsNamed (func_of w)
