-- The laws of formats: what each combinator makes of lawful formats is lawful. Each proves its part once, so that the theorem for the whole text
-- is a projection. Assumes nothing.
--     Inverse                    printing and reading are inverse to each other
--     lit_inverse, ..            for each combinator
--     many_more, list_more       how a list is read, one at a time
use Rattle.std.specs.Prelude.{◌≡◌, false, ◌⊎◌, ℕ, ◌≤◌, ◌<◌}
use Rattle.std.proofs.Math.Path.{refl, sym, ap, subst}
use Rattle.std.proofs.Common.{◌∙◌, true≢false, inl, inr, not-suc-le-zero, le_of_suc-le-suc, arith, length-append}
use mathlib.Core.List.{List, [], ◌∷◌, ◌++◌, append_assoc}
use Rattle.std.proofs.Math.Option.{none, some, some-injective}
use Rattle.std.proofs.Math.ListN.{length}
use Rattle.lifting.specs.Digits.{digit, digits, Reading, number, digit_next, Stop}
use Rattle.lifting.specs.Codec.{Ending, Found, Format, Codec, then, then_some, then_then, strip, strip_sound, strip_full, Led, lit, num, both_of, second, seq, up, view_as, same}
use Rattle.lifting.specs.Codec.{right, OkAlt, print_alt, read_alt, alt, onto, over, OkMany, print_many, step_many, read_many, stop_many, many, listed, list}
use Rattle.lifting.proofs.Digits.{number_sound, number_full}

-- What is read is what stands there, printed; and what is printed is read.
pub record Inverse {E : Ending} {A : Type 0} (F : Format E A) : Type 0 where
  pub sound : (t : List ℕ) (x : A × E.Rest) → F.read t ≡ some x → (t ≡ F.print x.0 ++ E.text x.1) × F.Ok x.0
  pub full : (a : A) → F.Ok a → (r : E.Rest) → E.May r → F.read (F.print a ++ E.text r) ≡ some (a, r)

pub lit_inverse : (s : List ℕ) (h : Led s) → Inverse (lit s h)
unfolding lit
lit_inverse s h =
    record {
      sound = λ t x e.
          let p = then_some (strip s t) (λ r. some (tt, r)) x e in
          subst (λ (y : Unit {0} × List ℕ). (t ≡ s ++ y.1) × Unit {0}) (some-injective _ x p.2) (strip_sound s t p.0 p.1, tt);
      full = λ a ok r m. rw (strip_full s r);
    }

pub num_inverse : (b : ℕ) (h : digit b ≡ false) → Inverse (num b h)
unfolding num
num_inverse b h =
    record {
      sound = λ t x e.
          let p = then_some (strip (b ∷ []) t) number x e in
          let q = number_sound p.0 x p.2 in
          (strip_sound (b ∷ []) t p.0 p.1 ∙ ap (λ (l : List ℕ). b ∷ l) q.0, q.1);
      full = λ n ok r m. rw (strip_full (b ∷ []) (digits n ++ r)) (number_full n ok r m);
    }

pub seq_inverse : {E : Ending} {A B : Type 0} {C : Codec A} {D : Format E B} → Inverse C → Inverse D → Inverse (seq C D)
unfolding seq
seq_inverse {E} {A} {B} {C} {D} c d =
    record {
      sound = λ t x e.
          let p = then_some (C.read t) (second C D) x e in
          let q = then_some (D.read p.0.1) (both_of p.0.0) x p.2 in
          let f = c.sound t p.0 p.1 in
          let g = d.sound p.0.1 q.0 q.1 in
          subst (λ (y : (A × B) × E.Rest). (t ≡ (C.print y.0.0 ++ D.print y.0.1) ++ E.text y.1) × (C.Ok y.0.0 × D.Ok y.0.1)) (some-injective _ x q.2)
          (rw (append_assoc, ← g.0) f.0, (f.1, g.1));
      full = λ x ok r m.
          ap (λ (l : List ℕ). then (C.read l) (second C D)) (append_assoc (C.print x.0) (D.print x.1) (E.text r))
          ∙ ap (λ (o : Reading A). then o (second C D)) (c.full x.0 ok.0 (D.print x.1 ++ E.text r) (D.stop x.1 r))
          ∙ ap (λ (o : Found E B). then o (both_of x.0)) (d.full x.1 ok.1 r m);
    }

-- where f and g are inverse to each other between the values of A that C is for and the good values of B
pub view_inverse : {E : Ending} {A B : Type 0} {C : Format E A} → Inverse C → (f : A → B) (g : B → A) (Good : B → Type 0) → ((b : B) → Good b → C.Ok (g b) × (f (g b) ≡ b))
    → ((a : A) → C.Ok a → Good (f a) × (g (f a) ≡ a)) → Inverse (view_as C f g Good)
unfolding view_as
view_inverse {E} {A} {B} {C} c f g Good there back =
    record {
      sound = λ t x e.
          let p = then_some (C.read t) (up f) x e in
          let s = c.sound t p.0 p.1 in
          let k = back p.0.0 s.1 in
          subst (λ (y : B × E.Rest). (t ≡ C.print (g y.0) ++ E.text y.1) × Good y.0) (some-injective _ x p.2)
          (rw k.1 s.0, k.0);
      full = λ b ok r m.
          let k = there b ok in
          ap (λ (o : Found E A). then o (up f)) (c.full (g b) k.0 r m) ∙ ap (λ (y : B). some (y, r)) k.1;
    }

pub same_inverse : {E : Ending} {A B : Type 0} {C : Format E A} → Inverse C → (f : A → B) (g : B → A) (fg : (b : B) → f (g b) ≡ b) (gf : (a : A) → g (f a) ≡ a)
    → Inverse (same C f g fg gf)
unfolding same
same_inverse {C = C} c f g fg gf = view_inverse c f g (λ b. C.Ok (g b)) (λ b ok. (ok, fg b)) (λ a ok. (rw (gf a) ok, gf a))

module _ {E : Ending} {A B : Type 0} {C : Format E A} {D : Format E B} (c : Inverse C) (d : Inverse D) where
  abbrev Is : List ℕ → (A ⊎ B) × E.Rest → Type 0
  Is t y = (t ≡ print_alt C D y.0 ++ E.text y.1) × OkAlt C D y.0

  pub sound_alt : (t : List ℕ) (o : Found E A) → C.read t ≡ o → (x : (A ⊎ B) × E.Rest) → read_alt C D t o ≡ some x → Is t x
  sound_alt t none h x e =
      let p = then_some (D.read t) right x e in
      subst (Is t) (some-injective _ x p.2) (d.sound t p.0 p.1)
  sound_alt t (some y) h x e = subst (Is t) (some-injective _ x e) (c.sound t y h)

  module _ (apart : (b : B) (r : E.Rest) → C.read (D.print b ++ E.text r) ≡ none) where
    pub full_alt : (x : A ⊎ B) → OkAlt C D x → (r : E.Rest) → E.May r
        → read_alt C D (print_alt C D x ++ E.text r) (C.read (print_alt C D x ++ E.text r)) ≡ some (x, r)
    full_alt (inl a) ok r m = ap (read_alt C D (C.print a ++ E.text r)) (c.full a ok r m)
    full_alt (inr b) ok r m =
        ap (read_alt C D (D.print b ++ E.text r)) (apart b r) ∙ ap (λ (o : Found E B). then o right) (d.full b ok r m)

    pub alt_inverse : Inverse (alt C D apart)
    unfolding alt
    alt_inverse = record { sound = λ t x e. sound_alt t (C.read t) refl x e; full = full_alt }

-- a codec prints at least one byte, since a digit may follow a text without bytes
pub codec_length : {A : Type 0} (C : Codec A) (a : A) → 1 ≤ length (C.print a)
unfolding digit_next
codec_length C a = go (C.print a) (C.stop a (48 ∷ []))
  where
    go : (l : List ℕ) → Stop (l ++ (48 ∷ [])) → 1 ≤ length l
    go [] h = absurd (true≢false h)
    go (b ∷ l) h = omega arith

-- what a codec leaves is shorter than what it is given
pub codec_on : {A : Type 0} {C : Codec A} → Inverse C → (t : List ℕ) (a : A) (u : List ℕ) → C.read t ≡ some (a, u) → length u < length t
codec_on {C = C} c t a u e =
    let p = c.sound t (a, u) e in
    omega (arith, ap length p.0, length-append (C.print a) u, codec_length C a)

module _ {E : Ending} {A B : Type 0} {C : Codec A} (c : Inverse C) where
  module _ {D : Format E B} (d : Inverse D) where
    abbrev Are : List ℕ → (List A × B) × E.Rest → Type 0
    Are t y = (t ≡ print_many C D y.0.0 y.0.1 ++ E.text y.1) × OkMany C D y.0

    sound_over : (t : List ℕ) (x : (List A × B) × E.Rest) → then (D.read t) over ≡ some x → Are t x
    sound_over t x e =
        let p = then_some (D.read t) over x e in
        let s = d.sound t p.0 p.1 in
        subst (Are t) (some-injective _ x p.2) (s.0, (tt, s.1))

    pub sound_many : (fuel t : List ℕ) (x : (List A × B) × E.Rest) → read_many C D fuel t ≡ some x → Are t x
    unfolding read_many
    sound_many [] t x e = sound_over t x e
    sound_many (b ∷ fuel) t x e = go (sound_many fuel) (C.read t) refl e
      where
        go : ((t : List ℕ) (x : (List A × B) × E.Rest) → read_many C D fuel t ≡ some x → Are t x) → (o : Reading A) → C.read t ≡ o
            → step_many C D (read_many C D fuel) t o ≡ some x → Are t x
        go ih none h e = sound_over t x e
        go ih (some y) h e =
            let q = then_some (read_many C D fuel y.1) (onto y.0) x e in
            let f = c.sound t y h in
            let g = ih y.1 q.0 q.1 in
            subst (Are t) (some-injective _ x q.2)
            (rw (append_assoc, ← g.0) f.0, ((f.1, g.1.0), g.1.1))

    pub many_length : (xs : List A) (b : B) → length xs ≤ length (print_many C D xs b)
    many_length [] b = omega arith
    many_length (a ∷ xs) b = omega (arith, many_length xs b, length-append (C.print a) (print_many C D xs b), codec_length C a)

    module _ (apart : (b : B) (r : E.Rest) → C.read (D.print b ++ E.text r) ≡ none) where
      pub full_many : (fuel : List ℕ) (xs : List A) (b : B) → length xs ≤ length fuel → OkMany C D (xs, b) → (r : E.Rest) → E.May r
          → read_many C D fuel (print_many C D xs b ++ E.text r) ≡ some ((xs, b), r)
      unfolding read_many
      full_many [] [] b l ok r m = ap (λ (o : Found E B). then o over) (d.full b ok.1 r m)
      full_many [] (a ∷ xs) b l ok r m = absurd (not-suc-le-zero l)
      full_many (f ∷ fuel) [] b l ok r m = rw (apart b r, read_many) (ap (λ (o : Found E B). then o over) (d.full b ok.1 r m))
      full_many (f ∷ fuel) (a ∷ xs) b l ok r m =
          ap (read_many C D (f ∷ fuel)) (append_assoc (C.print a) (print_many C D xs b) (E.text r))
          ∙ rw (c.full a ok.0.0 (print_many C D xs b ++ E.text r) (stop_many C D xs b r), read_many)
          (ap (λ (o : Found E (List A × B)). then o (onto a)) (full_many fuel xs b (le_of_suc-le-suc l) (ok.0.1, ok.1) r m))

      pub many_inverse : Inverse (many C D apart)
      unfolding many
      many_inverse =
          record {
            sound = λ t x e. sound_many t t x e;
            full = λ x ok r m.
                full_many (print_many C D x.0 x.1 ++ E.text r) x.0 x.1
                (omega (arith, many_length x.0 x.1, length-append (print_many C D x.0 x.1) (E.text r))) ok r m;
          }

  module _ (D : Format E B) where
    -- any fuel of as many bytes as the text reads alike
    no_fuel : (fuel t : List ℕ) → length t ≤ 0 → read_many C D [] t ≡ read_many C D fuel t
    unfolding read_many
    no_fuel [] t h = refl
    no_fuel (f ∷ fuel) t h = go (C.read t) refl
      where
        go : (o : Reading A) → C.read t ≡ o → then (D.read t) over ≡ step_many C D (read_many C D fuel) t o
        go none e = refl
        go (some x) e = absurd (omega (arith, codec_on c t x.0 x.1 e))

    fuel_alike : (m n t : List ℕ) → length t ≤ length m → length t ≤ length n → read_many C D m t ≡ read_many C D n t
    unfolding read_many
    fuel_alike [] n t h k = no_fuel n t h
    fuel_alike (f ∷ m) [] t h k = sym (no_fuel (f ∷ m) t k)
    fuel_alike (f ∷ m) (g ∷ n) t h k = go (fuel_alike m n) (C.read t) refl
      where
        go : ((t : List ℕ) → length t ≤ length m → length t ≤ length n → read_many C D m t ≡ read_many C D n t) → (o : Reading A) → C.read t ≡ o
            → step_many C D (read_many C D m) t o ≡ step_many C D (read_many C D n) t o
        go ih none e = refl
        go ih (some x) e =
            let l = codec_on c t x.0 x.1 e in
            ap (λ (o : Found E (List A × B)). then o (onto x.0)) (ih x.1 (omega arith) (omega arith))

    -- how many are read, one at a time: no fuel is seen
    pub many_more : (apart : (b : B) (r : E.Rest) → C.read (D.print b ++ E.text r) ≡ none) (t : List ℕ) (a : A) (u : List ℕ) → C.read t ≡ some (a, u)
        → (many C D apart).read t ≡ then ((many C D apart).read u) (onto a)
    unfolding many read_many
    many_more apart [] a u e = absurd (not-suc-le-zero (codec_on c [] a u e))
    many_more apart (b ∷ t) a u e =
        let l = codec_on c (b ∷ t) a u e in
        rw (e, read_many) (ap (λ (o : Found E (List A × B)). then o (onto a)) (fuel_alike t u u (le_of_suc-le-suc l) (omega arith)))

module _ {A : Type 0} {C : Codec A} (c : Inverse C) (s : List ℕ) (h : Led s) (apart : (r : List ℕ) → C.read (s ++ r) ≡ none) where
  pub listed_inverse : Inverse (listed C s h apart)
  unfolding lit
  listed_inverse = many_inverse c (lit_inverse s h) (λ u r. apart r)

  pub list_inverse : Inverse (list C s h apart)
  unfolding list lit
  list_inverse = same_inverse listed_inverse (λ x. x.0) (λ xs. (xs, tt)) (λ xs. refl) (λ x. refl)

  -- how a list is read, one at a time
  pub list_more : (t : List ℕ) (a : A) (u : List ℕ) → C.read t ≡ some (a, u) → (list C s h apart).read t ≡ then ((list C s h apart).read u) (λ x. some (a ∷ x.0, x.1))
  unfolding list same view_as lit
  list_more t a u e = rw (many_more c (lit s h) (λ u r. apart r) t a u e) (simp then_then)
