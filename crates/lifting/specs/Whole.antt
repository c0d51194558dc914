-- Formats of a whole text: lines of several kinds in their order, to the end. Assumes nothing.
use Rattle.std.specs.Prelude.{◌≡◌, refl, List, [], ◌∷◌, ◌++◌, ℕ}
use Rattle.std.proofs.Common.{append_assoc}
use Rattle.std.proofs.Math.Option.{Option, none, some}
use Rattle.lifting.specs.Digits.{digit_next}
use Rattle.lifting.specs.Codec.{Codec, Whole, then, print_many}

-- nothing more
abbrev pub read_end : List ℕ → Option (Unit {0} × Unit {0})
read_end [] = some (tt, tt)
read_end (b ∷ t) = none

unfoldable pub end : Whole (Unit {0})
unfolding digit_next
end =
    record {
      Ok = λ a. Unit {0};
      print = λ a. [];
      read = read_end;
      stop = λ a r. refl;
    }

-- a reader that refuses each line of a kind and the text that follows them refuses lines of that kind before that text
pub skip : {A B F : Type 0} (C : Codec A) (D : Whole B) (R : Codec F) → ((a : A) (r : List ℕ) → R.read (C.print a ++ r) ≡ none)
    → ((b : B) (r : Unit {0}) → R.read (D.print b ++ []) ≡ none) → (x : List A × B) (r : Unit {0}) → R.read (print_many C D x.0 x.1 ++ []) ≡ none
skip {A} C D R line rest x r = go x.0
  where
    go : (xs : List A) → R.read (print_many C D xs x.1 ++ []) ≡ none
    go [] = rest x.1 r
    go (a ∷ xs) = rw append_assoc (line a (print_many C D xs x.1 ++ []))

-- the value of a text that is read to its end
unfoldable pub read_whole : {A : Type 0} → Whole A → List ℕ → Option A
read_whole W t = then (W.read t) (λ x. some x.0)
