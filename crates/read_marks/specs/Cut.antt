-- A batch is texts, each ended by a line `%%`. It comes in pieces, as reads give them, so a text is cut off by what its bytes so far end with.
-- Assumes nothing.
--     matched_after    how much of a line's end and a line `%%` stands there
--     cut_of           where a text ends, with its line `%%`; `read_cases/Texts` has its laws
use Rattle.std.specs.Prelude.{◌≡◌, refl, Bool, true, false, List, [], ◌∷◌, ℕ, ◌+◌, ◌-◌, min, eqb, length}
use Rattle.std.proofs.Common.{eqb-true, ne_eqb}

-- after a `%`: it counts at a line's start, and once more
unfoldable pub percent_after : ℕ → ℕ
percent_after m = elim (eqb m 1) [ true ↦ 2 | false ↦ elim (eqb m 4) [ true ↦ 2 | false ↦ elim (eqb m 2) [ true ↦ 3 | false ↦ 0 ] ] ]

-- how many bytes of "\n%%\n" the bytes so far end with, after one byte more: 1 at the start of a batch, 4 where a text and its line `%%` end
unfoldable pub matched_after : ℕ → ℕ → ℕ
unfolding percent_after
matched_after m b =
    elim (eqb b 10) [
      | true ↦ elim (eqb m 3) [ true ↦ 4 | false ↦ 1 ]
      | false ↦ elim (eqb b 37) [ true ↦ percent_after m | false ↦ 0 ]
    ]

-- a line's end, behind no line `%%`
pub matched_end : (m : ℕ) → (m ≡ 3 → ⊥) → matched_after m 10 ≡ 1
unfolding matched_after
matched_end m other = rw (ne_eqb m 3 other, matched_after)

-- neither a line's end nor a `%` that counts
pub matched_none : (m b : ℕ) → (b ≡ 10 → ⊥) → (b ≡ 37 → percent_after m ≡ 0) → matched_after m b ≡ 0
unfolding matched_after
matched_none m b end percent = rw (ne_eqb b 10 end, matched_after) (go (eqb b 37) refl)
  where
    go : (q : Bool) → eqb b 37 ≡ q → ◌≡◌ {A = ℕ} (elim q as (λ x. ℕ) [ true ↦ percent_after m | false ↦ 0 ]) 0
    go true e = percent (eqb-true b 37 e)
    go false e = refl

-- the place after the first line `%%` that ends in these bytes, which begin at a place with so much matched, or the place after them; and what is
-- matched there
unfoldable pub cut_of : ℕ → ℕ → List ℕ → ℕ × ℕ
cut_of at m [] = (at, m)
cut_of at m (b ∷ t) = elim (eqb (matched_after m b) 4) [ true ↦ (at + 1, 4) | false ↦ cut_of (at + 1) (matched_after m b) t ]

-- the byte ends no line `%%`
pub cut_more : (at m b : ℕ) (t : List ℕ) → (matched_after m b ≡ 4 → ⊥) → cut_of at m (b ∷ t) ≡ cut_of (at + 1) (matched_after m b) t
unfolding cut_of
cut_more at m b t other = rw (ne_eqb (matched_after m b) 4 other, cut_of)

-- how many bytes of a part fit behind the first `len` of a text
unfoldable pub fitting_bytes : List ℕ → ℕ → List ℕ → ℕ
fitting_bytes text len part = min (length part) (length text - len)
