-- How the answers of the parts make the answer of the whole, for each way to make a format: a miss of a part is a miss of the whole, and what the
-- parts read one behind the other the whole reads. `chains` is all of them, for the check to find. Assumes nothing.
--     seq-.., alt-.., same-..                    the formats one after the other, one or the other, and of another type
--     behind-.., before-.., spaced-.., sub-..      what stands behind a literal
--     closed-.., num-..                           what a closing bracket ends; a number behind a byte
use Rattle.std.specs.Prelude.{◌≡◌, Bool, false, ℕ, ◌++◌, List, [], ◌∷◌, Option, None}
use Rattle.std.proofs.Common.{sym, subst, ap, ◌∙◌, inl, inr, refl}
use Rattle.std.proofs.Math.Option.{none}
use Prim.Native.String.{String}
use Rattle.lifting.specs.Bytes.{bytes}
use Rattle.lifting.specs.Digits.{digit, number, Reading}
use Rattle.lifting.specs.Codec.{Codec, Led, lit, num, seq, view_as, same, alt}
use Rattle.lifting.specs.Grammar.{before, after_word, spaced, sub, closed, field}
use Rattle.read_cursor.specs.declared.Cursor.{Cursor}
use Rattle.read_cursor.specs.Read.{Took, Denied, literal, behind_literal, TextEnded}
use Rattle.read_cursor.specs.Answers.{Reached, Missed, ReadsAs, StepsOn}
use Rattle.read_cursor.specs.Laws.{onward_both, behind_reads, behind_misses, before_reads, closed_misses, closed_open, closed_reads, head_misses, head_reads}

-- what is read at the next cursor stands in the text of the first
pub took_next : {A : Type 0} {read : List ℕ → Reading A} (c : Cursor) {d e : Cursor} {a : A} → d.text ≡ c.text → Reached read d a e → Took read c.text.now d.at a e.at
took_next {read = read} c {d} {e} {a} t p = subst (λ (z : List ℕ). Took read z d.at a e.at) (ap (λ z. z.now) t) p.took

pub denied_next : {A : Type 0} {read : List ℕ → Reading A} (c : Cursor) {d : Cursor} → d.text ≡ c.text → Missed read d → Denied read c.text.now d.at
denied_next {read = read} c {d} t p = subst (λ (z : List ℕ). Denied read z d.at) (ap (λ z. z.now) t) p.denied

pub ended_next : {A : Type 0} {read : List ℕ → Reading A} {c d : Cursor} {a : A} (q : Bool) → Reached read c a d → TextEnded q d.text.now d.at → TextEnded q c.text.now d.at
ended_next {d = d} q p e = subst (λ (z : List ℕ). TextEnded q z d.at) (ap (λ z. z.now) p.same_text) e

-- an answer that is known to be nothing, as `?` gives it back
pub no_step : {read : List ℕ → Reading (Unit {0})} {c : Cursor} {found : Option Cursor} → found ≡ None → Missed read c → StepsOn read c found
no_step {read} {c} e p = subst (λ (o : Option Cursor). StepsOn read c o) (sym e) p

pub no_value : {A B : Type 0} (f : A → B) {read : List ℕ → Reading B} {c : Cursor} {found : Option (A × Cursor)} → found ≡ None → Missed read c → ReadsAs f read c found
no_value {A} f {read} {c} e p = subst (λ (o : Option (A × Cursor)). ReadsAs f read c o) (sym e) p

-- one after the other
module _ {A B : Type 0} (C : Codec A) (D : Codec B) {c : Cursor} where
  pub seq_misses : Missed C.read c → Missed (seq C D).read c
  unfolding seq
  seq_misses p = record { denied = record { is = rw p.denied.is; moves = tt } }

  module _ {d : Cursor} {a : A} (p : Reached C.read c a d) where
    pub seq_open : Missed D.read d → Missed (seq C D).read c
    unfolding seq
    seq_open q = record { denied = record { is = rw (p.took.is, (denied_next c p.same_text q).is); moves = tt } }

    pub seq_reads : {e : Cursor} {b : B} → Reached D.read d b e → Reached (seq C D).read c (a, b) e
    unfolding seq
    seq_reads q =
        let t = took_next c p.same_text q in
        record { took = record { is = rw (p.took.is, t.is); moves = onward_both p.took.moves t.moves }; same_text = q.same_text ∙ p.same_text }

-- one or the other
module _ {A B : Type 0} (C : Codec A) (D : Codec B) (apart : (b : B) (r : List ℕ) → C.read (D.print b ++ r) ≡ none) {c : Cursor} where
  pub alt_left : {d : Cursor} {a : A} → Reached C.read c a d → Reached (alt C D apart).read c (inl a) d
  unfolding alt
  alt_left p = record { took = record { is = rw p.took.is; moves = p.took.moves }; same_text = p.same_text }

  module _ (p : Missed C.read c) where
    pub alt_right : {d : Cursor} {b : B} → Reached D.read c b d → Reached (alt C D apart).read c (inr b) d
    unfolding alt
    alt_right q = record { took = record { is = rw (p.denied.is, q.took.is); moves = q.took.moves }; same_text = q.same_text }

    pub alt_misses : Missed D.read c → Missed (alt C D apart).read c
    unfolding alt
    alt_misses q = record { denied = record { is = rw (p.denied.is, q.denied.is); moves = tt } }

-- of another type
module _ {A B : Type 0} (C : Codec A) (f : A → B) (g : B → A) (fg : (b : B) → f (g b) ≡ b) (gf : (a : A) → g (f a) ≡ a) {c : Cursor} where
  pub same_reads : {d : Cursor} {a : A} → Reached C.read c a d → Reached (same C f g fg gf).read c (f a) d
  unfolding same view_as
  same_reads p = record { took = record { is = rw p.took.is; moves = p.took.moves }; same_text = p.same_text }

  pub same_misses : Missed C.read c → Missed (same C f g fg gf).read c
  unfolding same view_as
  same_misses p = record { denied = record { is = rw p.denied.is; moves = tt } }

-- a literal as a format
module _ (s : List ℕ) (h : Led s) {c : Cursor} where
  pub lit_reads : {d : Cursor} → Reached (literal s) c tt d → Reached (lit s h).read c tt d
  unfolding lit
  lit_reads p = p

  pub lit_misses : Missed (literal s) c → Missed (lit s h).read c
  unfolding lit
  lit_misses p = p

-- behind a literal: as a reader, as a format, and in a line
module _ {A : Type 0} (s : List ℕ) (read : List ℕ → Reading A) {c : Cursor} where
  pub behind_missed : Missed (literal s) c → Missed (behind_literal s read) c
  behind_missed p = record { denied = behind_misses s read p.denied }

  module _ {d : Cursor} (p : Reached (literal s) c tt d) where
    pub behind_open : Missed read d → Missed (behind_literal s read) c
    behind_open q = record { denied = behind_reads s read p.took (denied_next c p.same_text q) }

    pub behind_reached : {e : Cursor} {a : A} → Reached read d a e → Reached (behind_literal s read) c a e
    behind_reached q = record { took = behind_reads s read p.took (took_next c p.same_text q); same_text = q.same_text ∙ p.same_text }

module _ {A : Type 0} (s : List ℕ) (h : Led s) (C : Codec A) {c : Cursor} where
  pub before_missed : Missed (literal s) c → Missed (before s h C).read c
  before_missed p = record { denied = before_reads s h C (behind_misses s C.read p.denied) }

  module _ {d : Cursor} (p : Reached (literal s) c tt d) where
    pub before_open : Missed C.read d → Missed (before s h C).read c
    before_open q = record { denied = before_reads s h C (behind_open s C.read p q).denied }

    pub before_reached : {e : Cursor} {a : A} → Reached C.read d a e → Reached (before s h C).read c a e
    before_reached q = record { took = before_reads s h C (behind_reached s C.read p q).took; same_text = q.same_text ∙ p.same_text }

-- the same, told by what stands behind the literal
module _ {A : Type 0} (s : List ℕ) (h : Led s) (C : Codec A) {c : Cursor} where
  pub before_misses : Missed (behind_literal s C.read) c → Missed (before s h C).read c
  before_misses p = record { denied = before_reads s h C p.denied }

  pub before_behind : {d : Cursor} {a : A} → Reached (behind_literal s C.read) c a d → Reached (before s h C).read c a d
  before_behind p = record { took = before_reads s h C p.took; same_text = p.same_text }

module _ {A : Type 0} (C : Codec A) {c : Cursor} where
  pub spaced_missed : Missed (literal (bytes " ")) c → Missed (spaced C).read c
  unfolding spaced
  spaced_missed p = before_missed (bytes " ") refl C p

  module _ {d : Cursor} (p : Reached (literal (bytes " ")) c tt d) where
    pub spaced_open : Missed C.read d → Missed (spaced C).read c
    unfolding spaced
    spaced_open q = before_open (bytes " ") refl C p q

    pub spaced_reached : {e : Cursor} {a : A} → Reached C.read d a e → Reached (spaced C).read c a e
    unfolding spaced
    spaced_reached q = before_reached (bytes " ") refl C p q

module _ {A : Type 0} (s : String) (C : Codec A) {c : Cursor} where
  pub sub_missed : Missed (literal (bytes " (" ++ bytes s)) c → Missed (sub s C).read c
  unfolding sub
  sub_missed p = before_missed (bytes " (" ++ bytes s) refl C p

  module _ {d : Cursor} (p : Reached (literal (bytes " (" ++ bytes s)) c tt d) where
    pub sub_open : Missed C.read d → Missed (sub s C).read c
    unfolding sub
    sub_open q = before_open (bytes " (" ++ bytes s) refl C p q

    pub sub_reached : {e : Cursor} {a : A} → Reached C.read d a e → Reached (sub s C).read c a e
    unfolding sub
    sub_reached q = before_reached (bytes " (" ++ bytes s) refl C p q

module _ {A : Type 0} (s : String) (C : Codec A) {c : Cursor} where
  pub sub_misses_behind : Missed (behind_literal (bytes " (" ++ bytes s) C.read) c → Missed (sub s C).read c
  unfolding sub
  sub_misses_behind p = before_misses (bytes " (" ++ bytes s) refl C p

  pub sub_behind : {d : Cursor} {a : A} → Reached (behind_literal (bytes " (" ++ bytes s) C.read) c a d → Reached (sub s C).read c a d
  unfolding sub
  sub_behind p = before_behind (bytes " (" ++ bytes s) refl C p

-- before a literal
module _ {A : Type 0} (C : Codec A) (s : List ℕ) (h : Led s) {c : Cursor} where
  pub after_missed : Missed C.read c → Missed (after_word C s h).read c
  unfolding after_word lit seq same view_as
  after_missed p = record { denied = record { is = rw p.denied.is; moves = tt } }

  module _ {d : Cursor} {a : A} (p : Reached C.read c a d) where
    pub after_open : Missed (literal s) d → Missed (after_word C s h).read c
    unfolding after_word lit seq same view_as
    after_open q = record { denied = record { is = rw (p.took.is, (denied_next c p.same_text q).is); moves = tt } }

    pub after_reached : {e : Cursor} → Reached (literal s) d tt e → Reached (after_word C s h).read c a e
    unfolding after_word lit seq same view_as
    after_reached q =
        let t = took_next c p.same_text q in
        record { took = record { is = rw (p.took.is, t.is); moves = onward_both p.took.moves t.moves }; same_text = q.same_text ∙ p.same_text }

-- before a closing bracket
module _ {A : Type 0} (C : Codec A) {c : Cursor} where
  pub closed_missed : Missed C.read c → Missed (closed C).read c
  closed_missed p = record { denied = closed_misses C p.denied }

  module _ {d : Cursor} {a : A} (p : Reached C.read c a d) where
    pub closed_unclosed : Missed (literal (bytes ")")) d → Missed (closed C).read c
    closed_unclosed q = record { denied = closed_open C p.took (denied_next c p.same_text q) }

    pub closed_reached : {e : Cursor} → Reached (literal (bytes ")")) d tt e → Reached (closed C).read c a e
    closed_reached q = record { took = closed_reads C p.took (took_next c p.same_text q); same_text = q.same_text ∙ p.same_text }

-- a word, two numbers and a head, as one thing
module _ {X Y : Type 0} (s : List ℕ) (h : Led s) (H : Codec X) (f : ℕ × (ℕ × X) → Y) (g : Y → ℕ × (ℕ × X)) (fg : (y : Y) → f (g y) ≡ y) (gf : (x : ℕ × (ℕ × X)) → g (f x) ≡ x) where
  abbrev headed_form : Codec Y
  headed_form = same (before s h (seq field (seq field H))) f g fg gf

  pub headed_missed : {c : Cursor} → Missed (behind_literal s (seq field field).read) c → Missed headed_form.read c
  unfolding same view_as
  headed_missed p = record { denied = head_misses s h H f p.denied }

  module _ {m n : ℕ} {c d : Cursor} (p : Reached (behind_literal s (seq field field).read) c (m, n) d) where
    pub headed_open : Missed H.read d → Missed headed_form.read c
    unfolding same view_as
    headed_open q = record { denied = head_reads s h H f p.took (denied_next c p.same_text q) }

    pub headed_reached : {x : X} {e : Cursor} → Reached H.read d x e → Reached headed_form.read c (f (m, (n, x))) e
    unfolding same view_as
    headed_reached q = record { took = head_reads s h H f p.took (took_next c p.same_text q); same_text = q.same_text ∙ p.same_text }

-- a number behind a byte
module _ (b : ℕ) (h : digit b ≡ false) {c : Cursor} where
  pub num_missed : Missed (literal (b ∷ [])) c → Missed (num b h).read c
  unfolding num
  num_missed p = behind_missed (b ∷ []) number p

  module _ {d : Cursor} (p : Reached (literal (b ∷ [])) c tt d) where
    pub num_open : Missed number d → Missed (num b h).read c
    unfolding num
    num_open q = behind_open (b ∷ []) number p q

    pub num_reached : {e : Cursor} {n : ℕ} → Reached number d n e → Reached (num b h).read c n e
    unfolding num
    num_reached q = behind_reached (b ∷ []) number p q

pub ruleset chains =
    (seq_misses, seq_open, seq_reads, same_misses, same_reads, behind_missed, behind_open, behind_reached, before_missed, before_open, before_reached, before_misses, before_behind, spaced_missed, spaced_open, spaced_reached, sub_missed, sub_open, sub_reached, sub_misses_behind, sub_behind, after_missed, after_open, after_reached, closed_missed, closed_unclosed, closed_reached, num_missed, num_open, num_reached)

pub ruleset choices = (alt_left, alt_right, alt_misses, same_misses, same_reads, lit_reads, lit_misses, before_misses, before_behind)
