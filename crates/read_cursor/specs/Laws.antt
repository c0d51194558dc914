-- What one step of the code is in the definitions, over plain variables. Assumes nothing.
--     onward_both                   from one step to the next
--     behind-.., before-.., sub-..  what stands behind a literal
--     head-..                       a word, two numbers and a head
--     closed-..                     what a closing bracket ends
--     byte-.., word-..              a byte; a word, by the test of its bytes
use Rattle.std.specs.Prelude.{◌≡◌, Bool, true, false, ℕ, ◌+◌, ◌≤◌, ◌<◌, ◌&&◌, eqb, leb, length, get_or, drop, take}
use Rattle.std.specs.List.{slice_range, starts_with}
use Rattle.std.specs.Cmp.Lexicographic.{pointwise}
use Rattle.std.proofs.lemmas.List.{drop-drop}
use Rattle.std.proofs.lemmas.List.Folds.{drop_split}
use Rattle.std.proofs.Math.Path.{refl, ap}
use Rattle.std.proofs.Common.{sym, ◌∙◌, le_refl, append-nil, not-suc-le-zero, le_of_suc-le-suc, add-one, drop_of_length-le, length-drop, drop-cons, eq-eqb, ne_eqb}
use mathlib.Core.List.{List, [], ◌∷◌, ◌++◌}
use Rattle.std.proofs.Math.Option.{Option, none, some, some-injective, none-ne-some}
use native.Mathlib.Omega.{arith}
use borrow.Author.Tests.{leb-true, leb-false}
use Prim.Native.String.{String}
use Rattle.lifting.specs.Bytes.{bytes}
use Rattle.lifting.specs.Digits.{Reading}
use Rattle.lifting.specs.Codec.{Codec, Led, then, then_then, up, strip, lit, seq, view_as, same}
use Rattle.lifting.specs.Grammar.{before, after_word, sub, closed, field}
use Rattle.lifting.specs.Whole.{end}
use Rattle.read_cursor.specs.Read.{Onward, Moves, Reads, Took, Denied, literal, behind_literal, TextEnded}
use Rattle.read_cursor.specs.Begins.{then_nothing}

-- one step after another
pub onward_both : {text : List ℕ} {at mid next : ℕ} → Onward text at mid → Onward text mid next → Onward text at next
onward_both p q = record { moved = omega arith; fits = q.fits }

-- the text behind a literal, by what reading it found
pub strip_is : (s : List ℕ) {text : List ℕ} {at next : ℕ} → Took (literal s) text at tt next → strip s (drop at text) ≡ some (drop next text)
strip_is s {text} {at} {next} p = go (strip s (drop at text)) p.is
  where
    go : (l : Option (List ℕ)) → ◌≡◌ {A = Reading (Unit {0})} (then l (λ r. some (tt, r))) (some (tt, drop next text)) → l ≡ some (drop next text)
    go none e = absurd (none-ne-some _ e)
    go (some u) e = ap (λ (x : Unit {0} × List ℕ). some x.1) (some-injective _ _ e)

pub strip_not : (s : List ℕ) {text : List ℕ} {at : ℕ} → Denied (literal s) text at → strip s (drop at text) ≡ none
strip_not s {text} {at} p = go (strip s (drop at text)) p.is
  where
    go : (l : Option (List ℕ)) → ◌≡◌ {A = Reading (Unit {0})} (then l (λ r. some (tt, r))) none → ◌≡◌ {A = Option (List ℕ)} l none
    go none e = refl
    go (some u) e = absurd (none-ne-some _ (sym e))

-- a literal, and what stands behind it: whatever that finds, the whole finds
moves_on : {A : Type 0} {text : List ℕ} {at mid : ℕ} (o : Option (A × ℕ)) → Onward text at mid → Moves text mid o → Moves text at o
moves_on none p q = tt
moves_on (some x) p q = onward_both p q

module _ {A : Type 0} {text : List ℕ} {at : ℕ} (s : List ℕ) (read : List ℕ → Reading A) where
  pub behind_reads : {mid : ℕ} {o : Option (A × ℕ)} → Took (literal s) text at tt mid → Reads read text mid o → Reads (behind_literal s read) text at o
  behind_reads {o = o} p q = record { is = rw (strip_is s p) q.is; moves = moves_on o p.moves q.moves }

  pub behind_misses : Denied (literal s) text at → Denied (behind_literal s read) text at
  behind_misses p = record { is = rw (strip_not s p); moves = tt }

-- the same as a format
pub before_reads : {A : Type 0} {text : List ℕ} {at : ℕ} {o : Option (A × ℕ)} (s : List ℕ) (h : Led s) (C : Codec A) → Reads (behind_literal s C.read) text at o
    → Reads (before s h C).read text at o
unfolding before lit seq same view_as
before_reads {text = text} {at} s h C p =
    let e : (before s h C).read (drop at text) ≡ behind_literal s C.read (drop at text) = simp (then_then, then_nothing) in
    record { is = e ∙ p.is; moves = p.moves }

-- a form: its opening, and what stands behind it
module _ {A : Type 0} {text : List ℕ} {at : ℕ} (s : String) (C : Codec A) where
  pub sub_reads : {mid : ℕ} {o : Option (A × ℕ)} → Took (literal (bytes " (" ++ bytes s)) text at tt mid → Reads C.read text mid o → Reads (sub s C).read text at o
  unfolding sub
  sub_reads p q = before_reads (bytes " (" ++ bytes s) refl C (behind_reads (bytes " (" ++ bytes s) C.read p q)

  pub sub_misses : Denied (literal (bytes " (" ++ bytes s)) text at → Denied (sub s C).read text at
  unfolding sub
  sub_misses p = before_reads (bytes " (" ++ bytes s) refl C (behind_misses (bytes " (" ++ bytes s) C.read p)

-- `(s M N H`, a word, two numbers and a head, as one thing: how the line of an op begins, and that of a ctrl
abbrev pub headed : {X Y : Type 0} → (ℕ × (ℕ × X) → Y) → ℕ → ℕ → Option (X × ℕ) → Option (Y × ℕ)
headed f m n none = none
headed f m n (some x) = some (f (m, (n, x.0)), x.1)

module _ {X Y : Type 0} (s : List ℕ) (h : Led s) (H : Codec X) (f : ℕ × (ℕ × X) → Y) where
  in_steps : (t : List ℕ) → then ((before s h (seq field (seq field H))).read t) (up f)
      ≡ then (behind_literal s (seq field field).read t) (λ y. then (H.read y.1) (λ x. some (f (y.0.0, (y.0.1, x.0)), x.1)))
  unfolding before lit seq same view_as
  in_steps t = simp then_then

  pub head_misses : {text : List ℕ} {at : ℕ} → Denied (behind_literal s (seq field field).read) text at → Denied (λ t. then ((before s h (seq field (seq field H))).read t) (up f)) text at
  head_misses {text} {at} p = record { is = in_steps (drop at text) ∙ rw p.is; moves = tt }

  pub head_reads : {text : List ℕ} {at m n mid : ℕ} {o : Option (X × ℕ)} → Took (behind_literal s (seq field field).read) text at (m, n) mid → Reads H.read text mid o
      → Reads (λ t. then ((before s h (seq field (seq field H))).read t) (up f)) text at (headed f m n o)
  head_reads {text} {at} {o = none} p q = record { is = in_steps (drop at text) ∙ rw (p.is, q.is); moves = tt }
  head_reads {text} {at} {o = some x} p q = record { is = in_steps (drop at text) ∙ rw (p.is, q.is); moves = onward_both p.moves q.moves }

-- what ends with a closing bracket
module _ {A : Type 0} {text : List ℕ} {at : ℕ} (C : Codec A) where
  pub closed_misses : Denied C.read text at → Denied (closed C).read text at
  unfolding closed after_word lit seq same view_as
  closed_misses p = record { is = rw p.is; moves = tt }

  pub closed_open : {a : A} {mid : ℕ} → Took C.read text at a mid → Denied (literal (bytes ")")) text mid → Denied (closed C).read text at
  unfolding closed after_word lit seq same view_as
  closed_open p q = record { is = rw (p.is, q.is); moves = tt }

  pub closed_reads : {a : A} {mid next : ℕ} → Took C.read text at a mid → Took (literal (bytes ")")) text mid tt next → Took (closed C).read text at a next
  unfolding closed after_word lit seq same view_as
  closed_reads p q = record { is = rw (p.is, q.is); moves = onward_both p.moves q.moves }

-- the text at a place within it
pub text_here : (t : List ℕ) (at : ℕ) → at < length t → drop at t ≡ get_or t at 0 ∷ drop (at + 1) t
text_here t at h = drop-cons t at 0 h ∙ ap (λ (n : ℕ). get_or t at 0 ∷ drop n t) (sym (add-one at))

-- the end of the text
pub text_ended : (t : List ℕ) (at : ℕ) → length t ≤ at → TextEnded true t at
unfolding end
text_ended t at h = rw (drop_of_length-le t h)

pub not_ended : (t : List ℕ) (at : ℕ) → at < length t → TextEnded false t at
unfolding end
not_ended t at h = rw (text_here t at h)

pub ended : (t : List ℕ) (at : ℕ) → TextEnded (leb (length t) at) t at
ended t at = go (leb (length t) at) refl
  where
    go : (q : Bool) → leb (length t) at ≡ q → TextEnded q t at
    go true e = text_ended t at (leb-true (length t) at e)
    go false e = not_ended t at (leb-false (length t) at e)

-- a literal, by the text behind it
pub stripped : (s : List ℕ) {t : List ℕ} {at next : ℕ} → strip s (drop at t) ≡ some (drop next t) → Onward t at next → Took (literal s) t at tt next
stripped s e m = record { is = rw e; moves = m }

pub missed : (s : List ℕ) {t : List ℕ} {at : ℕ} → strip s (drop at t) ≡ none → Denied (literal s) t at
missed s e = record { is = rw e; moves = tt }

-- a byte
module _ (b : ℕ) {t : List ℕ} {at : ℕ} where
  pub byte_past : length t ≤ at → Denied (literal (b ∷ [])) t at
  unfolding strip
  byte_past h = missed (b ∷ []) (ap (strip (b ∷ [])) (drop_of_length-le t h))

  pub byte_hit : at < length t → get_or t at 0 ≡ b → Took (literal (b ∷ [])) t at tt (at + 1)
  unfolding strip
  byte_hit h e =
      stripped (b ∷ []) (ap (strip (b ∷ [])) (text_here t at h) ∙ rw (eq-eqb b (get_or t at 0) (sym e), strip)) (record { moved = omega arith; fits = omega arith })

  pub byte_miss : at < length t → (get_or t at 0 ≡ b → ⊥) → Denied (literal (b ∷ [])) t at
  unfolding strip
  byte_miss h e = missed (b ∷ []) (ap (strip (b ∷ [])) (text_here t at h) ∙ rw (ne_eqb b (get_or t at 0) (λ p. e (sym p)), strip))

-- a word, by what a test of its bytes told
strip_tested : (s l : List ℕ) → strip s l ≡ elim (starts_with eqb l s) as (λ x. Option (List ℕ)) [ true ↦ some (drop (length s) l) | false ↦ none ]
unfolding strip
strip_tested [] l = refl
strip_tested (b ∷ s) [] = refl
strip_tested (b ∷ s) (c ∷ l) = go (strip_tested s l) (eqb b c)
  where
    go : strip s l ≡ elim (pointwise eqb s (take (length s) l)) as (λ x. Option (List ℕ)) [ true ↦ some (drop (length s) l) | false ↦ none ] → (q : Bool)
        → elim q as (λ x. Option (List ℕ)) [ true ↦ strip s l | false ↦ none ]
        ≡ elim (q && pointwise eqb s (take (length s) l)) as (λ x. Option (List ℕ)) [ true ↦ some (drop (length s) l) | false ↦ none ]
    go h true = h
    go h false = refl

-- what stands at a place of the text, as a slice of it
from_place : (t : List ℕ) (at : ℕ) → at ≤ length t → slice_range t at (length t) ≡ drop at t
from_place t at h = sym (drop_split t at (length t) h ∙ rw (drop_of_length-le t (le_refl (length t))) (append-nil (slice_range t at (length t))))

module _ (s t : List ℕ) {rest : List ℕ} {at : ℕ} (i : at ≤ length t) (e : rest ≡ slice_range t at (length t)) where
  tested : (r : Bool) → r ≡ starts_with eqb rest s → strip s (drop at t) ≡ elim r as (λ x. Option (List ℕ)) [ true ↦ some (drop (length s) rest) | false ↦ none ]
  tested r p = rw (sym (from_place t at i), sym e, p) (strip_tested s rest)

  pub word_miss : false ≡ starts_with eqb rest s → Denied (literal s) t at
  word_miss p = missed s (tested false p)

  pub word_hit : 1 ≤ length s → length s ≤ length rest → length rest + at ≡ length t → true ≡ starts_with eqb rest s → Took (literal s) t at tt (at + length s)
  word_hit k m j p = stripped s (tested true p ∙ rw (e, from_place t at i) (ap some (drop-drop (length s) at t))) (record { moved = omega arith; fits = omega arith })

strip_short : (s l : List ℕ) → length l < length s → strip s l ≡ none
unfolding strip
strip_short [] l h = absurd (not-suc-le-zero h)
strip_short (b ∷ s) [] h = refl
strip_short (b ∷ s) (c ∷ l) h = go (strip_short s l (le_of_suc-le-suc h)) (eqb b c)
  where
    go : strip s l ≡ none → (q : Bool) → ◌≡◌ {A = Option (List ℕ)} (elim q as (λ x. Option (List ℕ)) [ true ↦ strip s l | false ↦ none ]) none
    go ih true = ih
    go ih false = refl

pub along_past : (s : List ℕ) {t : List ℕ} {at : ℕ} → length t < at + length s → 1 ≤ length s → Denied (literal s) t at
along_past s {t} {at} h k = missed s (strip_short s (drop at t) (omega (arith, length-drop at t)))
