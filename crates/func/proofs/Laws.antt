-- What the proofs of the functions over these definitions cite, over plain variables. Assumes nothing.
use Rattle.std.specs.Prelude.{◌≡◌, List, ℕ, ◌+◌, ◌*◌, ◌≤◌, ◌<◌, max, get_or, set}
use Rattle.std.proofs.Common.{sym, ap, ◌∙◌, arith}
use Rattle.std.proofs.Math.Path.{subst⁻¹}
use Rattle.std.proofs.lemmas.List.Edits.{sets}
use Rattle.func.specs.declared.Val.{Val}
use Rattle.func.specs.Keep.{keep_value}
use Rattle.func.specs.Kinds.{as_value}
use Rattle.func.specs.Layout.{base, width, room}
use Rattle.func.specs.Store.{count, most, stored, place, raise}
use Rattle.func.proofs.Store.{place_yes, place_no}

-- the two ways of placing an entry
pub place_stored : (k n at : ℕ) (e w v : List ℕ) → n ≡ get_or w (4 + k) 0 → at ≡ base k + n * width k → v ≡ sets w at e → get_or w (4 + k) 0 < room k
    → set v (4 + k) (get_or w (4 + k) 0 + 1) ≡ place k e w
unfolding count stored
place_stored k n at e w v p q r h =
    ap (λ (u : List ℕ). set u (4 + k) (get_or w (4 + k) 0 + 1)) (r ∙ ap (λ (a : ℕ). sets w a e) (q ∙ ap (λ (m : ℕ). base k + m * width k) p)) ∙ sym (place_yes k e w h)

pub place_counted : (k r : ℕ) (e w : List ℕ) → r ≡ room k → r ≤ get_or w (4 + k) 0 → set w (4 + k) (r + 1) ≡ place k e w
unfolding count
place_counted k r e w p h = ap (λ (m : ℕ). set w (4 + k) (m + 1)) p ∙ sym (place_no k e w (omega arith))

-- the two ways of raising the largest first word
pub raised : (k n x : ℕ) (w : List ℕ) → x ≡ max (get_or w (18 + k) 0) n → set w (18 + k) x ≡ raise k n w
unfolding raise most
raised k n x w e = ap (set w (18 + k)) e

-- a value that is known to be one of its cases
pub kept_as : {v x : Val} {u : List ℕ} (w : List ℕ) → v ≡ x → u ≡ keep_value (as_value x) w → u ≡ keep_value (as_value v) w
kept_as {u = u} w e h = subst⁻¹ (λ (v : Val). u ≡ keep_value (as_value v) w) e h
