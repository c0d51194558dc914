-- What is cut off a batch is a text and its line `%%`, in whatever pieces the bytes come. A text is whole lines, none of which is `%%`.
-- Assumes nothing.
--     Lines           such a text
--     cut_text        at the start of a line, the text and the line `%%` behind it are cut off
--     cut_pieces      bytes that end no text may come apart from those behind them
use Rattle.std.specs.Prelude.{◌≡◌, refl, Bool, true, false, List, [], ◌∷◌, ◌++◌, ℕ, suc, ◌+◌, eqb, length}
use Rattle.std.proofs.Common.{sym, ap, ◌∙◌, append_assoc, arith, length-append, eqb-true}
use Rattle.std.proofs.lemmas.Bool.{eqb-false}
use Rattle.lifting.specs.Bytes.{bytes}
use Rattle.read_marks.specs.Cut.{percent_after, matched_after, matched_end, matched_none, cut_of, cut_more}

-- the bytes of a line, without its end
pub data Line : List ℕ → Type 0 where
  none : Line []
  more : {b : ℕ} {l : List ℕ} → (b ≡ 10 → ⊥) → Line l → Line (b ∷ l)

pub data Lines : List ℕ → Type 0 where
  none : Lines []
  more : {l t : List ℕ} → Line l → (l ≡ bytes "%%" → ⊥) → Lines t → Lines (l ++ 10 ∷ t)

-- with so much matched, the line ends no text
abbrev Passes : ℕ → List ℕ → Type 0
Passes m l = (at : ℕ) (r : List ℕ) → cut_of at m (l ++ 10 ∷ r) ≡ cut_of (at + (length l + 1)) 1 r

step : (at m b k : ℕ) (t : List ℕ) → matched_after m b ≡ k → (k ≡ 4 → ⊥) → cut_of at m (b ∷ t) ≡ cut_of (at + 1) k t
step at m b k t e other = cut_more at m b t (λ four. other (sym e ∙ four)) ∙ ap (λ (n : ℕ). cut_of (at + 1) n t) e

passes_end : (m : ℕ) → (m ≡ 3 → ⊥) → Passes m []
passes_end m other at r = step at m 10 1 r (matched_end m other) (λ e. omega arith)

passes_byte : (m b k : ℕ) (l : List ℕ) → matched_after m b ≡ k → (k ≡ 4 → ⊥) → Passes k l → Passes m (b ∷ l)
passes_byte m b k l e other rest at r =
    let same : (at + 1) + (length l + 1) ≡ at + (length (b ∷ l) + 1) = omega arith in
    step at m b k (l ++ 10 ∷ r) e other ∙ rest (at + 1) r ∙ ap (λ (n : ℕ). cut_of n 1 r) same

passes_0 : {l : List ℕ} → Line l → Passes 0 l
unfolding percent_after
passes_0 Line.none = passes_end 0 (λ e. omega arith)
passes_0 (Line.more {b} {l} end rest) = passes_byte 0 b 0 l (matched_none 0 b end (λ e. refl)) (λ e. omega arith) (passes_0 rest)

passes_3 : (l : List ℕ) → Line l → (l ≡ [] → ⊥) → Passes 3 l
unfolding percent_after
passes_3 [] Line.none other = absurd (other refl)
passes_3 (b ∷ l) (Line.more end rest) other = passes_byte 3 b 0 l (matched_none 3 b end (λ e. refl)) (λ e. omega arith) (passes_0 rest)

-- a `%` counts, and what follows isn't the rest of the line `%%`
passes_percent : (m : ℕ) (s : List ℕ) → matched_after m 37 ≡ m + 1 → (m + 1 ≡ 4 → ⊥) → ((l : List ℕ) → Line l → (l ≡ s → ⊥) → Passes (m + 1) l)
    → (l : List ℕ) → Line l → (l ≡ 37 ∷ s → ⊥) → Passes m l
passes_percent m s counts three next [] Line.none other = passes_end m (λ e. three (ap (λ (n : ℕ). n + 1) e))
passes_percent m s counts three next (b ∷ l) (Line.more end rest) other = go (eqb b 37) refl
  where
    go : (q : Bool) → eqb b 37 ≡ q → Passes m (b ∷ l)
    go true e =
        let percent = eqb-true b 37 e in
        passes_byte m b (m + 1) l (ap (matched_after m) percent ∙ counts) three (next l rest (λ f. other (cc (percent, f))))
    go false e = passes_byte m b 0 l (matched_none m b end (λ f. absurd (eqb-false b 37 e f))) (λ f. omega arith) (passes_0 rest)

passes_1 : (l : List ℕ) → Line l → (l ≡ bytes "%%" → ⊥) → Passes 1 l
unfolding matched_after percent_after
passes_1 = passes_percent 1 (bytes "%") refl (λ e. omega arith) (passes_percent 2 [] refl (λ e. omega arith) passes_3)

pub cut_text : {t : List ℕ} → Lines t → (at : ℕ) (r : List ℕ) → cut_of at 1 (t ++ (bytes "%%\n" ++ r)) ≡ (at + (length t + 3), 4)
unfolding matched_after percent_after cut_of
cut_text Lines.none at r = ap (λ (n : ℕ). (n, 4)) (omega arith)
cut_text (Lines.more {l} {t} line other rest) at r =
    let same : at + (length l + 1) + (length t + 3) ≡ at + (length (l ++ 10 ∷ t) + 3) = simp length-append (omega arith) in
    ap (cut_of at 1) (append_assoc l (10 ∷ t) (bytes "%%\n" ++ r))
    ∙ passes_1 l line other at (t ++ (bytes "%%\n" ++ r))
    ∙ cut_text rest (at + (length l + 1)) r
    ∙ ap (λ (n : ℕ). (n, 4)) same

-- after a line `%%` the next text starts as the first one does
pub cut_next : (at b : ℕ) (t : List ℕ) → cut_of at 4 (b ∷ t) ≡ cut_of at 1 (b ∷ t)
unfolding matched_after percent_after cut_of
cut_next at b t = refl

pub cut_pieces : (a b : List ℕ) (at m : ℕ) → ((cut_of at m a).1 ≡ 4 → ⊥) → cut_of at m (a ++ b) ≡ cut_of (at + length a) (cut_of at m a).1 b
unfolding cut_of
cut_pieces [] b at m other = ap (λ (n : ℕ). cut_of n m b) (omega arith)
cut_pieces (x ∷ a) b at m other = go (cut_pieces a b (at + 1) (matched_after m x)) (eqb (matched_after m x) 4) refl
  where
    go : (((cut_of (at + 1) (matched_after m x) a).1 ≡ 4 → ⊥)
        → cut_of (at + 1) (matched_after m x) (a ++ b) ≡ cut_of (at + 1 + length a) (cut_of (at + 1) (matched_after m x) a).1 b)
        → (q : Bool) → eqb (matched_after m x) 4 ≡ q → cut_of at m (x ∷ (a ++ b)) ≡ cut_of (at + suc (length a)) (cut_of at m (x ∷ a)).1 b
    go ih true e =
        let ended : cut_of at m (x ∷ a) ≡ (at + 1, 4) = rw (e, cut_of) in
        absurd (other (ap (λ (p : ℕ × ℕ). p.1) ended))
    go ih false e =
        let no = eqb-false (matched_after m x) 4 e in
        let after = ap (λ (p : ℕ × ℕ). p.1) (cut_more at m x a no) in
        let same : at + 1 + length a ≡ at + suc (length a) = omega arith in
        cut_more at m x (a ++ b) no
        ∙ ih (λ f. other (after ∙ f))
        ∙ ap (λ (n : ℕ). cut_of n (cut_of (at + 1) (matched_after m x) a).1 b) same
        ∙ ap (λ (n : ℕ). cut_of (at + suc (length a)) n b) (sym after)
