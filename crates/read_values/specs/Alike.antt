-- Two formats with the same printer, for the same values, read the same. Assumes nothing.
-- A format's law has a print read before a rest where reading may stop. Two formats could differ on the other rests, as `05` after a
-- number that ends at its 0; so the law is for settled formats, whose prints are read before every rest. Each form is settled, since it
-- ends with a bracket of its own.
--     alike           the law
--     settled-..      which formats are settled
use Rattle.std.specs.Prelude.{◌≡◌, refl, List, ◌++◌, ◌↔◌, ℕ}
use Rattle.std.proofs.Common.{sym, ap, ◌∙◌, append_assoc}
use Rattle.std.proofs.Math.Option.{none, some}
use Rattle.lifting.specs.Codec.{Ending, Format, Codec, Found, Led, led_stop, strip_full, lit, seq, view_as, same}
use Rattle.lifting.specs.Grammar.{before, after_word}
use Rattle.lifting.proofs.Codec.{Inverse}

-- what is printed is read, whatever follows
pub record ReadBack {E : Ending} {A : Type 0} (C : Format E A) : Type 0 where
  pub full : (a : A) → C.Ok a → (r : E.Rest) → C.read (C.print a ++ E.text r) ≡ some (a, r)

module _ {E : Ending} {A : Type 0} where
  also : {C D : Format E A} → Inverse C → ((a : A) → C.print a ≡ D.print a) → ((a : A) → C.Ok a → D.Ok a) → ReadBack D → (t : List ℕ) (x : A × E.Rest)
      → C.read t ≡ some x → D.read t ≡ some x
  also {C} {D} i prints oks d t x e =
      let s = i.sound t x e in
      ap D.read (s.0 ∙ ap (λ (l : List ℕ). l ++ E.text x.1) (prints x.0)) ∙ d.full x.0 (oks x.0 s.1) x.1

  pub alike : {C D : Format E A} → Inverse C → Inverse D → ((a : A) → C.print a ≡ D.print a) → ((a : A) → C.Ok a ↔ D.Ok a) → ReadBack C → ReadBack D → (t : List ℕ)
      → C.read t ≡ D.read t
  alike {C} {D} i j prints oks c d t = go (C.read t) refl (D.read t) refl
    where
      go : (o : Found E A) → C.read t ≡ o → (p : Found E A) → D.read t ≡ p → C.read t ≡ D.read t
      go none e none f = e ∙ sym f
      go (some x) e p f = e ∙ sym (also i prints (λ a. (oks a).0) d t x e)
      go none e (some y) f = also j (λ a. sym (prints a)) (λ a. (oks a).1) c t y f ∙ sym f

-- what a literal ends is settled
pub settled_after : {A : Type 0} {C : Codec A} → Inverse C → (s : List ℕ) (h : Led s) → ReadBack (after_word C s h)
unfolding after_word same view_as seq lit
settled_after c s h = record { full = λ a ok r. rw (append_assoc, c.full a ok.0 (s ++ r) (led_stop s r h), strip_full s r) }

pub settled_before : {A : Type 0} {C : Codec A} (s : List ℕ) (h : Led s) → ReadBack C → ReadBack (before s h C)
unfolding before same view_as seq lit
settled_before {C = C} s h c = record { full = λ a ok r. rw (append_assoc, strip_full s (C.print a ++ r), c.full a ok.1 r) }
