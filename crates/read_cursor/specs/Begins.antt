-- A format begins with another: it reads what its head reads, and then the rest, which goes by what the head found. So a form can be read
-- up to a place inside it, and what stands there one at a time. Assumes nothing.
--     Begins          C begins with H, and k reads the rest
--     begins-..       for each way to make a format
use Rattle.std.specs.Prelude.{◌≡◌, refl, List, ◌++◌, ◌⊎◌, ℕ}
use Rattle.std.proofs.Common.{sym, inl, inr}
use Rattle.std.proofs.Math.Option.{none, some}
use Rattle.lifting.specs.Digits.{Reading}
use Rattle.lifting.specs.Codec.{Codec, Led, then, then_then, strip, lit, both_of, second, seq, view_as, same, left, right, read_alt, alt}
use Rattle.lifting.specs.Grammar.{before, after_word}
use Rattle.lifting.proofs.Codec.{Inverse}

-- what the head found, and then the rest
abbrev pub go_on : {A X : Type 0} → Reading X → (X → List ℕ → Reading A) → Reading A
go_on o k = then o (λ x. k x.0 x.1)

pub record Begins {A X : Type 0} (C : Codec A) (H : Codec X) (k : X → List ℕ → Reading A) : Type 0 where
  pub is : (t : List ℕ) → C.read t ≡ go_on (H.read t) k

-- with itself, and nothing is left
abbrev pub nothing : {A : Type 0} → A → List ℕ → Reading A
nothing a u = some (a, u)

pub then_nothing : {A : Type 0} (o : Reading A) → go_on o nothing ≡ o
then_nothing none = refl
then_nothing (some x) = refl

pub begins_self : {A : Type 0} (C : Codec A) → Begins C C nothing
begins_self C = record { is = λ t. sym (then_nothing (C.read t)) }

-- a literal before, and a literal after
module _ {A X : Type 0} {C : Codec A} {H : Codec X} {k : X → List ℕ → Reading A} (s : List ℕ) (h : Led s) (b : Begins C H k) where
  pub begins_before : Begins (before s h C) (before s h H) k
  unfolding before lit seq same view_as
  begins_before = record { is = λ t. simp (then_then, b.is, then_nothing) }

  pub begins_after : Begins (after_word C s h) H (λ x u. then (k x u) (λ y. then (strip s y.1) (λ r. some (y.0, r))))
  unfolding after_word lit seq same view_as
  begins_after = record { is = λ t. simp (then_then, b.is) }

-- one after the other: the head of the first; or the first, and the head of the second
pub begins_first : {A B X : Type 0} {C : Codec A} {H : Codec X} {k : X → List ℕ → Reading A} (D : Codec B) → Begins C H k
    → Begins (seq C D) H (λ x u. then (k x u) (λ y. then (D.read y.1) (both_of y.0)))
unfolding seq
begins_first D b = record { is = λ t. simp (then_then, b.is) }

pub begins_second : {A B Y : Type 0} (C : Codec A) {D : Codec B} {G : Codec Y} {l : Y → List ℕ → Reading B} → Begins D G l
    → Begins (seq C D) (seq C G) (λ x u. then (l x.1 u) (both_of x.0))
unfolding seq
begins_second {A} C {D} {G} {l} d = record { is = λ t. go (C.read t) }
  where
    go : (o : Reading A) → then o (second C D) ≡ then (then o (second C G)) (λ x. then (l x.0.1 x.1) (both_of x.0.0))
    go none = refl
    go (some a) = rw (d.is a.1) (simp then_then)

-- one or the other: the second does not read what the first's head prints, so none of what that head reads
abbrev pub one_rest : {A B X Y : Type 0} → (X → List ℕ → Reading A) → (Y → List ℕ → Reading B) → X ⊎ Y → List ℕ → Reading (A ⊎ B)
one_rest k l (inl x) u = then (k x u) left
one_rest k l (inr y) u = then (l y u) right

pub begins_alt : {A B X Y : Type 0} {C : Codec A} {D : Codec B} {H : Codec X} {G : Codec Y} {k : X → List ℕ → Reading A} {l : Y → List ℕ → Reading B}
    (apart : (b : B) (r : List ℕ) → C.read (D.print b ++ r) ≡ none) (heads_apart : (y : Y) (r : List ℕ) → H.read (G.print y ++ r) ≡ none) → Inverse H → Begins C H k → Begins D G l
    → ((x : X) (r : List ℕ) → D.read (H.print x ++ r) ≡ none) → Begins (alt C D apart) (alt H G heads_apart) (one_rest k l)
unfolding alt
begins_alt {A} {B} {X} {Y} {C} {D} {H} {G} {k} {l} apart heads_apart h b d other = record { is = λ t. go t (H.read t) refl }
  where
    found : (t : List ℕ) (o : Reading A) → D.read t ≡ none → read_alt C D t o ≡ then o left
    found t none e = rw e
    found t (some x) e = refl

    go : (t : List ℕ) (o : Reading X) → H.read t ≡ o → read_alt C D t (C.read t) ≡ go_on (read_alt H G t o) (one_rest k l)
    go t none e = rw (b.is t, e, d.is t) (simp then_then)
    go t (some x) e = rw (b.is t, e) (found t (k x.0 x.1) (rw (h.sound t x e).0 (other x.0 x.1)))
