-- The marks that a line's entries leave, and what an edge of the line asks by them. Assumes nothing.
--     Low, low_next, low_entries     no mark is above the number of the last line
--     marked                         a region is marked with the line's number where it has an entry in the line, or was so before
--     edge_by_marks                        where each entry fits, a target fits that has an entry, or whose region has no inputs, and no other
use Rattle.std.specs.Prelude.{◌≡◌, Bool, cond, ◌||◌, List, [], ◌∷◌, ℕ, zero, suc, ◌≤◌, ◌<◌, eqb, ltb, set}
use Rattle.std.proofs.Math.Path.{refl}
use Rattle.std.proofs.Common.{sym, ap, subst, ◌∙◌, arith, get_or-set_same, eqb-true, eq-eqb, ne_eqb, lt-ltb}
use Rattle.std.proofs.Math.Bool.{true, false, or-true, or-false}
use Rattle.std.proofs.Math.Option.{some}
use Rattle.std.proofs.Math.Decide.{ℕ_discrete}
use Rattle.std.proofs.Math.ListN.{length, get_or, length-set}
use Rattle.std.proofs.Math.Seq.{get_or-set_other}
use Rattle.std.proofs.lemmas.Bool.{eqb-false}
use Rattle.general_laws.specs.Tests.{both}
use Rattle.general_laws.specs.Lists.{choose, every, find, keys, within}
use Rattle.lifting.specs.Limits.{max_regions}
use Rattle.lifting.specs.Ast.{Value}
use Rattle.lifting.specs.Parts.{vals_or}
use Rattle.func.specs.Store.{folds}
use Rattle.check_edges.specs.Edges.{mark_entry, Edges, keep_edge}

-- a table of marks: a place for each region, and no mark above a line's number
pub record Low (line : ℕ) (m : List ℕ) : Type 0 where
  pub size : max_regions ≤ length m
  pub low : (i : ℕ) → i < max_regions → get_or m i 0 ≤ line

pub low_next : {line : ℕ} {m : List ℕ} → Low line m → Low (suc line) m
low_next h = record { size = h.size; low = λ i l. omega (arith, h.low i l) }

set_low : (line : ℕ) (m : List ℕ) (r i : ℕ) → get_or m i 0 ≤ line → get_or (set m r line) i 0 ≤ line
set_low line [] r i h = h
set_low line (x ∷ m) zero zero h = omega arith
set_low line (x ∷ m) zero (suc i) h = h
set_low line (x ∷ m) (suc r) zero h = h
set_low line (x ∷ m) (suc r) (suc i) h = set_low line m r i h

low_mark : {line : ℕ} {m : List ℕ} (r : ℕ) → Low line m → Low line (mark_entry line r m)
unfolding mark_entry
low_mark {line} {m} r h = go (ltb r max_regions)
  where
    go : (b : Bool) → Low line (cond b (set m r line) m)
    go true = record { size = omega (arith, length-set m r line); low = λ i l. set_low line m r i (h.low i l) }
    go false = h

pub low_entries : {line : ℕ} (es : List (ℕ × List Value)) (s : Edges) → Low line s.marks → Low line (folds (keep_edge line) es s).marks
unfolding folds keep_edge
low_entries [] s h = h
low_entries {line} (e ∷ es) s h = low_entries es (keep_edge line e s) (low_mark e.0 h)

-- one mark
module _ (line r : ℕ) (m : List ℕ) where
  length_mark : length (mark_entry line r m) ≡ length m
  unfolding mark_entry
  length_mark = go (ltb r max_regions)
    where
      go : (b : Bool) → length (cond b (set m r line) m) ≡ length m
      go true = length-set m r line
      go false = refl

  mark_same : r < max_regions → max_regions ≤ length m → get_or (mark_entry line r m) r 0 ≡ line
  unfolding mark_entry
  mark_same h k = rw (lt-ltb r max_regions h, mark_entry) (get_or-set_same m r line 0 (omega arith))

  mark_other : (i : ℕ) → (i ≡ r → ⊥) → get_or (mark_entry line r m) i 0 ≡ get_or m i 0
  unfolding mark_entry
  mark_other i n = go (ltb r max_regions)
    where
      go : (b : Bool) → get_or (cond b (set m r line) m) i 0 ≡ get_or m i 0
      go true = get_or-set_other m r i line 0 n
      go false = refl

pub marked : (line : ℕ) (es : List (ℕ × List Value)) (s : Edges) (i : ℕ) → i < max_regions → max_regions ≤ length s.marks
    → eqb (get_or (folds (keep_edge line) es s).marks i 0) line ≡ (eqb (get_or s.marks i 0) line || within i (keys es))
unfolding folds keep_edge
marked line [] s i h k = sym (or-false (eqb (get_or s.marks i 0) line))
marked line (e ∷ es) s i h k =
    marked line es (keep_edge line e s) i h (omega (arith, length_mark line e.0 s.marks)) ∙ step (ℕ_discrete i e.0)
  where
    step : (d : Dec (i ≡ e.0))
        → (eqb (get_or (mark_entry line e.0 s.marks) i 0) line || within i (keys es)) ≡ (eqb (get_or s.marks i 0) line || choose d true (within i (keys es)))
    step (yes q) =
        let here : get_or (mark_entry line e.0 s.marks) i 0 ≡ line =
        subst (λ (r : ℕ). get_or (mark_entry line r s.marks) i 0 ≡ line) q (mark_same line i s.marks h k) in
        ap (λ (b : Bool). b || within i (keys es)) (eq-eqb _ line here) ∙ sym (or-true (eqb (get_or s.marks i 0) line))
    step (no n) = ap (λ (x : ℕ). eqb x line || within i (keys es)) (mark_other line e.0 s.marks i n)

-- the edges of a line, where region r has n r inputs
eqb_zero : (a : ℕ) → eqb a 0 ≡ eqb 0 a
eqb_zero a = go (eqb a 0) refl
  where
    go : (b : Bool) → eqb a 0 ≡ b → eqb a 0 ≡ eqb 0 a
    go true e = e ∙ sym (eq-eqb 0 a (sym (eqb-true a 0 e)))
    go false e = e ∙ sym (ne_eqb 0 a (λ q. eqb-false a 0 e (sym q)))

pub edge_by_marks : (n : ℕ → ℕ) (es : List (ℕ × List Value)) → every (λ e. eqb (length e.1) (n e.0)) es ≡ true → (r : ℕ)
    → (eqb (n r) 0 || within r (keys es)) ≡ eqb (length (vals_or (find ℕ_discrete r es) [])) (n r)
edge_by_marks n [] h r = or-false (eqb (n r) 0) ∙ eqb_zero (n r)
edge_by_marks n (e ∷ es) h r =
    let fit = both (eqb (length e.1) (n e.0)) (every (λ e. eqb (length e.1) (n e.0)) es) h in
    step fit.0 (edge_by_marks n es fit.1 r) (ℕ_discrete r e.0)
  where
    step : eqb (length e.1) (n e.0) ≡ true → (eqb (n r) 0 || within r (keys es)) ≡ eqb (length (vals_or (find ℕ_discrete r es) [])) (n r)
        → (d : Dec (r ≡ e.0))
        → (eqb (n r) 0 || choose d true (within r (keys es))) ≡ eqb (length (vals_or (choose d (some e.1) (find ℕ_discrete r es)) [])) (n r)
    step first rest (yes q) = or-true (eqb (n r) 0) ∙ sym (ap (λ (x : ℕ). eqb (length e.1) (n x)) q ∙ first)
    step first rest (no q) = rest
