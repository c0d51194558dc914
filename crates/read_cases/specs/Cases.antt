-- The cases of a batch, as they are cut off it. Assumes nothing.
--     cases_of        the cases: what stands before each line `%%` that ends one
--     cases_lines     whole lines, none of which is `%%`, and a line `%%` behind them are a case
--     cases_rest      what ends no case is none
--     cases_cut       up to the end of a case, as `read_marks::cut` finds it
use Rattle.std.specs.Prelude.{◌≡◌, refl, Bool, true, false, cond, List, [], ◌∷◌, ◌++◌, ℕ, suc, ◌+◌, ◌-◌, ◌≤◌, ◌<◌, eqb, length, take, drop}
use Rattle.std.proofs.Common.{sym, ap, ◌∙◌, append_assoc, append-nil, arith, length-append, ne_eqb}
use Rattle.std.proofs.lemmas.Bool.{eqb-false}
use Rattle.std.proofs.Math.Seq.{take-append_seam, take_all, drop-length}
use Rattle.lifting.specs.Bytes.{bytes}
use Rattle.read_marks.specs.Cut.{percent_after, matched_after, cut_of, cut_more}
use Rattle.read_cases.specs.Texts.{Lines, cut_text}
use Rattle.read_cases.specs.Held.{cut_low}

-- the bytes of a case, its line `%%` left off
abbrev pub without_mark : List ℕ → List ℕ
without_mark l = take (length l - 3) l

-- from a place on, before which stand the bytes `kept` of a case, with so much of its line `%%` matched
unfoldable pub cases_from : List ℕ → ℕ → List ℕ → List (List ℕ)
cases_from kept m [] = []
cases_from kept m (b ∷ t) =
    cond (eqb (matched_after m b) 4) (without_mark (kept ++ b ∷ []) ∷ cases_from [] 4 t) (cases_from (kept ++ b ∷ []) (matched_after m b) t)

abbrev pub cases_of : List ℕ → List (List ℕ)
cases_of batch = cases_from [] 1 batch

-- behind bytes of a case with so much matched, which may have ended
abbrev pub cases_then : List ℕ → ℕ → List ℕ → List (List ℕ)
cases_then kept m r = cond (eqb m 4) (without_mark kept ∷ cases_from [] 4 r) (cases_from kept m r)

-- up to the end of a case
abbrev CasesCut : List ℕ → ℕ → ℕ → List ℕ → List ℕ → Type 0
CasesCut kept at m t r =
    let p = cut_of at m t in
    cases_from kept m (t ++ r) ≡ cases_then (kept ++ take (p.0 - at) t) p.1 (drop (p.0 - at) t ++ r)

-- by the byte, as the definition goes on
cases_cut_byte : (kept : List ℕ) (at m b : ℕ) (t r : List ℕ) → ((matched_after m b ≡ 4 → ⊥) → CasesCut (kept ++ b ∷ []) (at + 1) (matched_after m b) t r) → CasesCut kept at m (b ∷ t) r
unfolding cases_from cut_of
cases_cut_byte kept at m b t r rest = go (eqb (matched_after m b) 4) refl
  where
    k : ℕ
    k = matched_after m b

    P : Bool → ℕ × ℕ → Type 0
    P q p = cond q (without_mark (kept ++ b ∷ []) ∷ cases_from [] 4 (t ++ r)) (cases_from (kept ++ b ∷ []) k (t ++ r))
        ≡ cases_then (kept ++ take (p.0 - at) (b ∷ t)) p.1 (drop (p.0 - at) (b ∷ t) ++ r)

    here : P true (at + 1, 4)
    here = let one : 1 ≡ at + 1 - at = omega arith in ap (λ (n : ℕ). without_mark (kept ++ take n (b ∷ t)) ∷ cases_from [] 4 (drop n (b ∷ t) ++ r)) one

    on : CasesCut (kept ++ b ∷ []) (at + 1) k t r → P false (cut_of (at + 1) k t)
    on ih =
        let p = cut_of (at + 1) k t in
        let low = cut_low t (at + 1) k in
        let far : suc (p.0 - (at + 1)) ≡ p.0 - at = omega arith in
        ih
        ∙ ap (λ (l : List ℕ). cases_then l p.1 (drop (p.0 - (at + 1)) t ++ r)) (append_assoc kept (b ∷ []) (take (p.0 - (at + 1)) t))
        ∙ ap (λ (n : ℕ). cases_then (kept ++ take n (b ∷ t)) p.1 (drop n (b ∷ t) ++ r)) far

    go : (q : Bool) → eqb k 4 ≡ q → P (eqb k 4) (elim (eqb k 4) as (λ x. ℕ × ℕ) [ true ↦ (at + 1, 4) | false ↦ cut_of (at + 1) k t ])
    go true e = rw e here
    go false e = rw e (on (rest (eqb-false k 4 e)))

cases_cut_on : (t kept : List ℕ) (at m : ℕ) (r : List ℕ) → (m ≡ 4 → ⊥) → CasesCut kept at m t r
unfolding cut_of
cases_cut_on [] kept at m r other =
    let none : 0 ≡ at - at = omega arith in
    sym (ap (λ (q : Bool). cond q (without_mark (kept ++ []) ∷ cases_from [] 4 r) (cases_from (kept ++ []) m r)) (ne_eqb m 4 other)
    ∙ ap (λ (l : List ℕ). cases_from l m r) (append-nil kept))
    ∙ ap (λ (n : ℕ). cases_then (kept ++ take n []) m (drop n [] ++ r)) none
cases_cut_on (b ∷ t) kept at m r other = cases_cut_byte kept at m b t r (cases_cut_on t (kept ++ b ∷ []) (at + 1) (matched_after m b) r)

pub cases_cut : (t kept : List ℕ) (at m : ℕ) (r : List ℕ) → 0 < length t → CasesCut kept at m t r
cases_cut [] kept at m r some = absurd (omega arith)
cases_cut (b ∷ t) kept at m r some = cases_cut_byte kept at m b t r (cases_cut_on t (kept ++ b ∷ []) (at + 1) (matched_after m b) r)

-- a cut goes on by a byte at least
pub cut_onward : (t : List ℕ) (at m : ℕ) → 0 < length t → at < (cut_of at m t).0
unfolding cut_of
cut_onward [] at m some = absurd (omega arith)
cut_onward (b ∷ t) at m some = go (cut_low t (at + 1) (matched_after m b)) (eqb (matched_after m b) 4)
  where
    go : at + 1 ≤ (cut_of (at + 1) (matched_after m b) t).0 → (q : Bool)
        → at < (elim q as (λ x. ℕ × ℕ) [ true ↦ (at + 1, 4) | false ↦ cut_of (at + 1) (matched_after m b) t ]).0
    go ih true = omega arith
    go ih false = omega arith

-- ---- in the words of lines

-- behind a case the next one starts as the first one does
next_case : (r : List ℕ) → cases_from [] 4 r ≡ cases_from [] 1 r
unfolding cases_from matched_after percent_after
next_case [] = refl
next_case (b ∷ r) = refl

pub cases_lines : {t : List ℕ} → Lines t → (r : List ℕ) → cases_of (t ++ bytes "%%\n" ++ r) ≡ t ∷ cases_of r
cases_lines {t} lines r =
    let T = t ++ bytes "%%\n" in
    let n = 0 + (length t + 3) - 0 in
    let long : length T ≡ length t + 3 = simp length-append (omega arith) in
    let whole : without_mark (take n T) ≡ t =
    ap without_mark (take_all n T (omega arith))
    ∙ ap (λ (k : ℕ). take k T) (let e : length T - 3 ≡ length t = omega arith in e)
    ∙ take-append_seam t (bytes "%%\n") in
    let left : drop n T ++ r ≡ r =
    ap (λ (k : ℕ). drop k T ++ r) (let e : n ≡ length T = omega arith in e) ∙ ap (λ (l : List ℕ). l ++ r) (drop-length T) in
    cases_cut T [] 0 1 r (omega arith)
    ∙ ap (λ (p : ℕ × ℕ). cases_then ([] ++ take (p.0 - 0) T) p.1 (drop (p.0 - 0) T ++ r)) (cut_text lines 0 [])
    ∙ ap (λ (l : List ℕ). l ∷ cases_from [] 4 (drop n T ++ r)) whole
    ∙ ap (λ (l : List ℕ). t ∷ cases_from [] 4 l) left
    ∙ ap (λ (l : List (List ℕ)). t ∷ l) (next_case r)

none_byte : (kept : List ℕ) (at m b : ℕ) (t : List ℕ) → (((cut_of (at + 1) (matched_after m b) t).1 ≡ 4 → ⊥) → cases_from (kept ++ b ∷ []) (matched_after m b) t ≡ [])
    → ((cut_of at m (b ∷ t)).1 ≡ 4 → ⊥) → cases_from kept m (b ∷ t) ≡ []
unfolding cases_from cut_of
none_byte kept at m b t rest other = go (eqb (matched_after m b) 4) refl
  where
    go : (q : Bool) → eqb (matched_after m b) 4 ≡ q → cases_from kept m (b ∷ t) ≡ []
    go true e = absurd (other (rw (e, cut_of) refl))
    go false e = rw e (rest (λ f. other (ap (λ (p : ℕ × ℕ). p.1) (cut_more at m b t (eqb-false (matched_after m b) 4 e)) ∙ f)))

none_ends : (t kept : List ℕ) (at m : ℕ) → ((cut_of at m t).1 ≡ 4 → ⊥) → cases_from kept m t ≡ []
unfolding cases_from
none_ends [] kept at m other = refl
none_ends (b ∷ t) kept at m other = none_byte kept at m b t (none_ends t (kept ++ b ∷ []) (at + 1) (matched_after m b)) other

-- bytes in which no line `%%` ends a case
pub cases_rest : (r : List ℕ) → ((cut_of 0 1 r).1 ≡ 4 → ⊥) → cases_of r ≡ []
cases_rest r other = none_ends r [] 0 1 other
