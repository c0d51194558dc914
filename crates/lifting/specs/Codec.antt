-- Formats: a printer and a reader, and the combinators that make formats of formats. Assumes nothing.
--     lit, num           a literal; a number after one byte
--     seq, alt, many     one after the other; one or the other; any number of the one, then the other
--     view_as, same         the format of another type
-- To believe: `Ending` and `Format`, and of each format which values it is for (`Ok`) and what it prints (`print`). What it reads follows
-- from these by the two laws of proofs/Codec.antt, `sound` and `full`, which are proved there of each combinator.
use Rattle.std.specs.Prelude.{◌≡◌, true, false, ◌⊎◌, ℕ, ◌<◌, eqb}
use Rattle.std.proofs.Math.Path.{refl}
use Rattle.std.proofs.Common.{inl, inr, eqb-true, eq-eqb}
use mathlib.Core.List.{List, [], ◌∷◌, ◌++◌, append_assoc}
use Rattle.std.proofs.Math.Option.{Option, none, some, some-injective, none-ne-some}
use Rattle.lifting.specs.Digits.{word_bound, digit, digits, Reading, number, digit_next, Stop, guard_some}

-- where a format ends: what its reader hands back as the rest, the text of that, and before which rest a print is read again
pub record Ending : Type 1 where
  pub Rest : Type 0
  pub text : Rest → List ℕ
  pub May : Rest → Type 0

-- more text may follow; a digit must not, since it would join a number that ends here
abbrev pub in_text : Ending
in_text = record { Rest = List ℕ; text = λ r. r; May = Stop }

-- nothing follows
abbrev pub at_end : Ending
at_end = record { Rest = Unit {0}; text = λ r. []; May = λ r. Unit {0} }

-- what reading gives: a value and the rest
abbrev pub Found : Ending → Type 0 → Type 0
Found E A = Option (A × E.Rest)

-- a format of A: which values it is for, how one is printed and how it is read. What it prints begins with no digit, so that it may
-- stand behind a number.
pub record Format (E : Ending) (A : Type 0) : Type 1 where
  pub Ok : A → Type 0
  pub print : A → List ℕ
  pub read : List ℕ → Found E A
  pub stop : (a : A) (r : E.Rest) → Stop (print a ++ E.text r)

-- read from the front of a text
abbrev pub Codec : Type 0 → Type 1
Codec A = Format in_text A

-- read to the end of a text
abbrev pub Whole : Type 0 → Type 1
Whole A = Format at_end A

-- what the first reader finds goes on to the second
abbrev pub then : {A B : Type 0} → Option A → (A → Option B) → Option B
then none k = none
then (some a) k = k a

pub then_some : {A B : Type 0} (o : Option A) (k : A → Option B) (b : B) → then o k ≡ some b → (a : A) × (o ≡ some a) × (k a ≡ some b)
then_some none k b e = absurd (none-ne-some _ e)
then_some (some a) k b e = (a, refl, e)

pub then_then : {A B F : Type 0} (o : Option A) (k : A → Option B) (l : B → Option F) → then (then o k) l ≡ then o (λ a. then (k a) l)
then_then none k l = refl
then_then (some a) k l = refl

-- the text behind the literal s
unfoldable pub strip : List ℕ → List ℕ → Option (List ℕ)
strip [] t = some t
strip (b ∷ s) [] = none
strip (b ∷ s) (c ∷ t) = elim (eqb b c) [ true ↦ strip s t | false ↦ none ]

pub strip_sound : (s t r : List ℕ) → strip s t ≡ some r → t ≡ s ++ r
unfolding strip
strip_sound [] t r e = some-injective t r e
strip_sound (b ∷ s) [] r e = absurd (none-ne-some _ e)
strip_sound (b ∷ s) (c ∷ t) r e =
    let g = guard_some (eqb b c) (strip s t) r e in
    cc (eqb-true b c g.0, strip_sound s t r g.1)

pub strip_full : (s r : List ℕ) → strip s (s ++ r) ≡ some r
unfolding strip
strip_full [] r = refl
strip_full (b ∷ s) r = rw (eq-eqb b b refl, strip) (strip_full s r)

-- a text that begins with a byte that is no digit
abbrev pub Led : List ℕ → Type 0
Led [] = ⊥
Led (b ∷ t) = digit b ≡ false

pub led_stop : (l r : List ℕ) → Led l → Stop (l ++ r)
unfolding digit_next
led_stop [] r h = absurd h
led_stop (b ∷ l) r h = h

-- a literal
unfoldable pub lit : (s : List ℕ) → Led s → Codec (Unit {0})
lit s h =
    record {
      Ok = λ a. Unit {0};
      print = λ a. s;
      read = λ t. then (strip s t) (λ r. some (tt, r));
      stop = λ a r. led_stop s r h;
    }

-- a number after the byte b
unfoldable pub num : (b : ℕ) → digit b ≡ false → Codec ℕ
unfolding digit_next
num b h =
    record {
      Ok = λ n. n < word_bound;
      print = λ n. b ∷ digits n;
      read = λ t. then (strip (b ∷ []) t) number;
      stop = λ n r. h;
    }

-- one after the other
abbrev pub both_of : {A B R : Type 0} → A → B × R → Option ((A × B) × R)
both_of a y = some ((a, y.0), y.1)

module _ {E : Ending} {A B : Type 0} (C : Codec A) (D : Format E B) where
  abbrev pub second : A × List ℕ → Found E (A × B)
  second x = then (D.read x.1) (both_of x.0)

  abbrev OkSeq : A × B → Type 0
  OkSeq x = C.Ok x.0 × D.Ok x.1

  abbrev print_seq : A × B → List ℕ
  print_seq x = C.print x.0 ++ D.print x.1

  unfoldable pub seq : Format E (A × B)
  seq =
      record {
        Ok = OkSeq;
        print = print_seq;
        read = λ t. then (C.read t) second;
        stop = λ x r. rw append_assoc (C.stop x.0 (D.print x.1 ++ E.text r));
      }

-- what was read, as a value of another type
abbrev pub up : {A B R : Type 0} → (A → B) → A × R → Option (B × R)
up f x = some (f x.0, x.1)

-- the format of another type, for its good values: f makes one of what was read, and g takes one apart to be printed
module _ {E : Ending} {A B : Type 0} (C : Format E A) (f : A → B) (g : B → A) (Good : B → Type 0) where
  unfoldable pub view_as : Format E B
  view_as =
      record {
        Ok = Good;
        print = λ b. C.print (g b);
        read = λ t. then (C.read t) (up f);
        stop = λ b r. C.stop (g b) r;
      }

-- where f and g are inverse to each other throughout
unfoldable pub same : {E : Ending} {A B : Type 0} (C : Format E A) (f : A → B) (g : B → A) → ((b : B) → f (g b) ≡ b) → ((a : A) → g (f a) ≡ a) → Format E B
same C f g fg gf = view_as C f g (λ b. C.Ok (g b))

-- one or the other: the first does not read what the second prints
abbrev pub left : {A B R : Type 0} → A × R → Option ((A ⊎ B) × R)
left x = some (inl x.0, x.1)

abbrev pub right : {A B R : Type 0} → B × R → Option ((A ⊎ B) × R)
right x = some (inr x.0, x.1)

module _ {E : Ending} {A B : Type 0} (C : Format E A) (D : Format E B) where
  abbrev pub OkAlt : A ⊎ B → Type 0
  OkAlt (inl a) = C.Ok a
  OkAlt (inr b) = D.Ok b

  abbrev pub print_alt : A ⊎ B → List ℕ
  print_alt (inl a) = C.print a
  print_alt (inr b) = D.print b

  abbrev pub read_alt : List ℕ → Found E A → Found E (A ⊎ B)
  read_alt t none = then (D.read t) right
  read_alt t (some x) = left x

  pub stop_alt : (x : A ⊎ B) (r : E.Rest) → Stop (print_alt x ++ E.text r)
  stop_alt (inl a) r = C.stop a r
  stop_alt (inr b) r = D.stop b r

  module _ (apart : (b : B) (r : E.Rest) → C.read (D.print b ++ E.text r) ≡ none) where
    unfoldable pub alt : Format E (A ⊎ B)
    alt =
        record {
          Ok = OkAlt;
          print = print_alt;
          read = λ t. read_alt t (C.read t);
          stop = stop_alt;
        }

-- each element of a list is P
abbrev pub Every : {A : Type 0} → (A → Type 0) → List A → Type 0
Every P [] = Unit {0}
Every P (a ∷ xs) = P a × Every P xs

-- any number of the one, then the other, with which none of them begins
abbrev pub onto : {A B R : Type 0} → A → (List A × B) × R → Option ((List A × B) × R)
onto a y = some ((a ∷ y.0.0, y.0.1), y.1)

abbrev pub over : {A B R : Type 0} → B × R → Option ((List A × B) × R)
over y = some (([], y.0), y.1)

module _ {E : Ending} {A B : Type 0} (C : Codec A) (D : Format E B) where
  abbrev pub OkMany : List A × B → Type 0
  OkMany x = Every C.Ok x.0 × D.Ok x.1

  abbrev pub print_many : List A → B → List ℕ
  print_many [] b = D.print b
  print_many (a ∷ xs) b = C.print a ++ print_many xs b

  -- one of them has been read, or not
  abbrev pub step_many : (List ℕ → Found E (List A × B)) → List ℕ → Reading A → Found E (List A × B)
  step_many k t none = then (D.read t) over
  step_many k t (some x) = then (k x.1) (onto x.0)

  -- the first list is fuel: each of them takes at least one byte
  unfoldable pub read_many : List ℕ → List ℕ → Found E (List A × B)
  read_many [] t = then (D.read t) over
  read_many (_ ∷ fuel) t = step_many (read_many fuel) t (C.read t)

  pub stop_many : (xs : List A) (b : B) (r : E.Rest) → Stop (print_many xs b ++ E.text r)
  stop_many [] b r = D.stop b r
  stop_many (a ∷ xs) b r = rw append_assoc (C.stop a (print_many xs b ++ E.text r))

  module _ (apart : (b : B) (r : E.Rest) → C.read (D.print b ++ E.text r) ≡ none) where
    unfoldable pub many : Format E (List A × B)
    many =
        record {
          Ok = OkMany;
          print = λ x. print_many x.0 x.1;
          read = λ t. read_many t t;
          stop = λ x r. stop_many x.0 x.1 r;
        }

    -- where none is read, the other follows
    pub many_over : (t : List ℕ) → C.read t ≡ none → many.read t ≡ then (D.read t) over
    unfolding many read_many
    many_over [] e = refl
    many_over (b ∷ t) e = rw (e, read_many)

-- a list: any number of C, then a literal with which none of them begins
module _ {A : Type 0} (C : Codec A) (s : List ℕ) (h : Led s) (apart : (r : List ℕ) → C.read (s ++ r) ≡ none) where
  abbrev pub listed : Codec (List A × Unit {0})
  unfolding lit
  listed = many C (lit s h) (λ u r. apart r)

  unfoldable pub list : Codec (List A)
  list = same listed (λ x. x.0) (λ xs. (xs, tt)) (λ xs. refl) (λ x. refl)

  -- where none is read, the literal follows
  pub list_over : (t : List ℕ) → C.read t ≡ none → list.read t ≡ then (strip s t) (λ r. some ([], r))
  unfolding list same view_as lit
  list_over t e = rw (many_over C (lit s h) (λ u r. apart r) t e) (simp then_then)
