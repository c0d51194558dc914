-- How what was found at a cursor goes on: up to a closing bracket, or with what is read behind it. Assumes nothing.
--     Closes, Follows                  what `closed` and `then` answer
--     closes_reads, follows_reads       so is the grammar's format read, from what its parts read
--     spaced_reads, same_as             the same behind a space, and of another type
use Rattle.std.specs.Prelude.{◌≡◌, Option, None, Some}
use Rattle.std.proofs.Common.{sym, subst}
use Rattle.lifting.specs.Bytes.{bytes}
use Rattle.lifting.specs.Codec.{Codec, seq, same}
use Rattle.lifting.specs.Grammar.{closed, spaced}
use Rattle.read_cursor.specs.declared.Cursor.{Cursor}
use Rattle.read_cursor.specs.Read.{literal}
use Rattle.read_cursor.specs.Answers.{Reached, Missed, ReadsAs, ReadsOn}
use Rattle.read_cursor.specs.Chains.{no_value, closed_missed, closed_unclosed, closed_reached, seq_misses, seq_open, seq_reads, spaced_open, spaced_reached, same_misses, same_reads}

abbrev pub Closes : {A : Type 0} → Option (A × Cursor) → Option (A × Cursor) → Type 0
Closes None r = r ≡ None
Closes (Some x) None = Missed (literal (bytes ")")) x.1
Closes (Some x) (Some y) = (y.0 ≡ x.0) × Reached (literal (bytes ")")) x.1 tt y.1

abbrev pub paired : {A B : Type 0} → A → Option (B × Cursor) → Option ((A × B) × Cursor)
paired a None = None
paired a (Some y) = Some ((a, y.0), y.1)

-- P says what may be read at a cursor
abbrev pub Follows : {A B : Type 0} → (Cursor → Option (B × Cursor) → Type 0) → Option (A × Cursor) → Option ((A × B) × Cursor) → Type 0
Follows P None r = r ≡ None
Follows {B = B} P (Some x) r = (o : Option (B × Cursor)) × P x.1 o × (r ≡ paired x.0 o)

pub closes_reads : {A : Type 0} (C : Codec A) (c : Cursor) (o r : Option (A × Cursor)) → ReadsOn C.read c o → Closes o r → ReadsOn (closed C).read c r
closes_reads C c None r p e = no_value (λ a. a) e (closed_missed C p)
closes_reads C c (Some x) None p q = closed_unclosed C p q
closes_reads C c (Some x) (Some y) p q = subst (λ a. Reached (closed C).read c a y.1) (sym q.0) (closed_reached C p q.1)

pub follows_reads : {A B : Type 0} (C : Codec A) (D : Codec B) (P : Cursor → Option (B × Cursor) → Type 0) (c : Cursor) (o : Option (A × Cursor)) (r : Option ((A × B) × Cursor))
    → ReadsOn C.read c o → Follows P o r → ((d : Cursor) (q : Option (B × Cursor)) → P d q → ReadsOn D.read d q) → ReadsOn (seq C D).read c r
follows_reads C D P c None r p e f = no_value (λ a. a) e (seq_misses C D p)
follows_reads {A} {B} C D P c (Some x) r p q f = subst (λ (z : Option ((A × B) × Cursor)). ReadsOn (seq C D).read c z) (sym q.2) (go q.0 (f x.1 q.0 q.1))
  where
    go : (o : Option (B × Cursor)) → ReadsOn D.read x.1 o → ReadsOn (seq C D).read c (paired x.0 o)
    go None m = seq_open C D p m
    go (Some y) m = seq_reads C D p m

pub spaced_reads : {A : Type 0} (C : Codec A) {c d : Cursor} (r : Option (A × Cursor)) → Reached (literal (bytes " ")) c tt d → ReadsOn C.read d r → ReadsOn (spaced C).read c r
spaced_reads C None p q = spaced_open C p q
spaced_reads C (Some x) p q = spaced_reached C p q

pub same_as : {A B : Type 0} (C : Codec A) (f : A → B) (g : B → A) (fg : (b : B) → f (g b) ≡ b) (gf : (a : A) → g (f a) ≡ a) (c : Cursor) (r : Option (A × Cursor))
    → ReadsOn C.read c r → ReadsAs f (same C f g fg gf).read c r
same_as C f g fg gf c None p = same_misses C f g fg gf p
same_as C f g fg gf c (Some x) p = same_reads C f g fg gf p
