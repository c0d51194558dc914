-- The tests of the numbers of lines, by the words of the function slice. Assumes nothing.
--     below_test, regions_test      of one pool, and of all that hold numbers of regions
use Rattle.std.specs.Prelude.{Bool, ◌&&◌, ◌||◌, List, ℕ, ltb, eqb}
use Rattle.func.specs.Layout.{targets, child_refs, entries, regions, ctrls}
use Rattle.func.specs.Store.{count, most}

-- the numbers of pool k name lines of pool p: there is none, or the largest does
abbrev pub below_test : ℕ → ℕ → List ℕ → Bool
below_test k p w = eqb (count k w) 0 || ltb (most k w) (count p w)

unfoldable pub regions_test : List ℕ → Bool
regions_test w = below_test child_refs regions w && (below_test ctrls regions w && (below_test targets regions w && below_test entries regions w))
