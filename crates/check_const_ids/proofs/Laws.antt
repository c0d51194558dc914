-- What the proofs of this crate cite, over plain variables.
use mathlib.Core.Path.{◌≡◌, sym, ◌∙◌}
use mathlib.Core.List.{List, []}
use Prim.Native.Nat.{ℕ}
use lib.ListN.{length, get_or, length-map, get_or-map}
use Rattle.func.specs.Layout.{consts}
use Rattle.func.specs.Store.{count, view}
use Rattle.func.specs.Decode.{decode_number}
use Rattle.func.specs.Tables.{word}
use Rattle.func.proofs.Tables.{whole_pool}
use Rattle.check_const_ids.specs.Test.{const_ids}
use Rattle.check_limits.specs.Limits.{LimitsReady}

pub ids_length : {w : List ℕ} → LimitsReady w → length (const_ids w) ≡ count consts w
ids_length {w} r = length-map (view consts w) decode_number ∙ whole_pool consts w r.consts

pub id_at : (w : List ℕ) (i : ℕ) → word consts w i 0 ≡ get_or (const_ids w) i 0
id_at w i = sym (get_or-map decode_number (view consts w) i [])
