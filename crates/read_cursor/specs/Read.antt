-- What a reader finds at a place of the text. Assumes nothing.
--     Reads              from this place the reader finds this: a value and the place where it goes on, or nothing
--     Took, Denied       the two cases by name
--     literal, behind_literal    the readers of a literal, and of what stands behind_literal one
use Rattle.std.specs.Prelude.{◌≡◌, List, Bool, true, false, ℕ, ◌≤◌, ◌<◌, length, drop}
use Rattle.std.proofs.Math.Option.{Option, none, some}
use Rattle.lifting.specs.Digits.{Reading}
use Rattle.lifting.specs.Codec.{then, strip}
use Rattle.lifting.specs.Whole.{end}

-- reading goes on behind the place, and within the text
pub record Onward (text : List ℕ) (at next : ℕ) : Type 0 where
  pub moved : at < next
  pub fits : next ≤ length text

-- a place where reading goes on, as the rest of the text from there
abbrev pub rest_from : {A : Type 0} → List ℕ → Option (A × ℕ) → Reading A
rest_from text none = none
rest_from text (some x) = some (x.0, drop x.1 text)

abbrev pub Moves : {A : Type 0} → List ℕ → ℕ → Option (A × ℕ) → Type 0
Moves text at none = Unit {0}
Moves text at (some x) = Onward text at x.1

pub record Reads {A : Type 0} (read : List ℕ → Reading A) (text : List ℕ) (at : ℕ) (found : Option (A × ℕ)) : Type 0 where
  pub is : read (drop at text) ≡ rest_from text found
  pub moves : Moves text at found

abbrev pub Took : {A : Type 0} → (List ℕ → Reading A) → List ℕ → ℕ → A → ℕ → Type 0
Took read text at a next = Reads read text at (some (a, next))

abbrev pub Denied : {A : Type 0} → (List ℕ → Reading A) → List ℕ → ℕ → Type 0
Denied read text at = Reads read text at none

-- a literal: what `lit` reads
abbrev pub literal : List ℕ → List ℕ → Reading (Unit {0})
literal s t = then (strip s t) (λ r. some (tt, r))

-- what stands behind a literal
abbrev pub behind_literal : {A : Type 0} → List ℕ → (List ℕ → Reading A) → List ℕ → Reading A
behind_literal s read t = then (strip s t) read

-- the text ends at a place, or does not
abbrev pub TextEnded : Bool → List ℕ → ℕ → Type 0
TextEnded true text at = end.read (drop at text) ≡ some (tt, tt)
TextEnded false text at = end.read (drop at text) ≡ none
