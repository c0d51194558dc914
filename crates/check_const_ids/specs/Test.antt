-- The test of const ids, by the words of the function slice. Assumes nothing.
--     distinct_test      none repeats
use Rattle.std.specs.Prelude.{Bool, List, map, ℕ}
use Rattle.std.proofs.Math.Decide.{ℕ_discrete}
use Rattle.general_laws.specs.Lists.{distinct}
use Rattle.func.specs.Layout.{consts}
use Rattle.func.specs.Store.{view}
use Rattle.func.specs.Decode.{decode_number}

abbrev pub const_ids : List ℕ → List ℕ
const_ids w = map decode_number (view consts w)

unfoldable pub distinct_test : List ℕ → Bool
unfolding ℕ_discrete
distinct_test w = distinct (const_ids w)
