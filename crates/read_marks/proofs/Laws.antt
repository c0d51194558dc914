-- The steps of the function that cuts a batch, over plain numbers and lists. Assumes nothing.
--     cut-..          one byte more is cut off
use Rattle.std.proofs.Common.{◌≡◌, sym, ap, ◌∙◌, List, ℕ, suc, ◌+◌, ◌<◌, length, drop, get_or, drop-cons, add-one, eq-eqb}
use Rattle.std.proofs.Math.Seq.{drop-length}
use Rattle.read_marks.specs.Cut.{matched_after, cut_of, cut_more}

module _ (m : ℕ) where
  module _ (at : ℕ) (l : List ℕ) (h : at < length l) where
    -- with the byte at a place the mark ends
    pub cut_here : (k : ℕ) → k ≡ matched_after m (get_or l at 0) → k ≡ 4 → (at + 1, 4) ≡ cut_of at m (drop at l)
    unfolding cut_of
    cut_here k e four = rw (drop-cons l at 0 h, eq-eqb (matched_after m (get_or l at 0)) 4 (sym e ∙ four), cut_of)

    -- it doesn't
    pub cut_on : (k : ℕ) → k ≡ matched_after m (get_or l at 0) → (k ≡ 4 → ⊥) → cut_of (at + 1) k (drop (at + 1) l) ≡ cut_of at m (drop at l)
    cut_on k e other =
        ap (λ (n : ℕ). cut_of (at + 1) k (drop n l)) (add-one at)
        ∙ ap (λ (n : ℕ). cut_of (at + 1) n (drop (suc at) l)) e
        ∙ sym (cut_more at m (get_or l at 0) (drop (suc at) l) (λ four. other (e ∙ four)))
        ∙ sym (ap (cut_of at m) (drop-cons l at 0 h))

  -- at the end of the bytes
  pub cut_end : (at : ℕ) (l : List ℕ) → at ≡ length l → (length l, m) ≡ cut_of at m (drop at l)
  unfolding cut_of
  cut_end at l e = rw (e, drop-length l)
