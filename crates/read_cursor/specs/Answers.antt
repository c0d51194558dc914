-- What a cursor's answer says: nothing, or what was found and the next cursor, which is a place of the same text. Assumes nothing.
use Rattle.std.specs.Prelude.{◌≡◌, ℕ, List, Option, None, Some}
use Rattle.lifting.specs.Digits.{Reading}
use Rattle.read_cursor.specs.declared.Cursor.{Cursor}
use Rattle.read_cursor.specs.Read.{Took, Denied}

pub record Reached {A : Type 0} (read : List ℕ → Reading A) (c : Cursor) (a : A) (d : Cursor) : Type 0 where
  pub took : Took read c.text.now c.at a d.at
  pub same_text : d.text ≡ c.text

pub record Missed {A : Type 0} (read : List ℕ → Reading A) (c : Cursor) : Type 0 where
  pub denied : Denied read c.text.now c.at

-- f makes the definitions' value of the code's
abbrev pub ReadsAs : {A B : Type 0} → (A → B) → (List ℕ → Reading B) → Cursor → Option (A × Cursor) → Type 0
ReadsAs f read c None = Missed read c
ReadsAs f read c (Some x) = Reached read c (f x.0) x.1

abbrev pub ReadsOn : {A : Type 0} → (List ℕ → Reading A) → Cursor → Option (A × Cursor) → Type 0
ReadsOn read c found = ReadsAs (λ a. a) read c found

abbrev pub StepsOn : (List ℕ → Reading (Unit {0})) → Cursor → Option Cursor → Type 0
StepsOn read c None = Missed read c
StepsOn read c (Some d) = Reached read c tt d
