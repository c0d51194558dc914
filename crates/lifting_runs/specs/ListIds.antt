-- The ids that a list's instructions give, and numbers that run on without repeats. Definitions. Assumes nothing.
use Rattle.std.specs.Prelude.{◌≡◌}
use mathlib.Core.List.{List, [], ◌∷◌}
use Prim.Native.Nat.{ℕ, zero, suc, ◌≤◌, ◌<◌}
use Rattle.lifting.specs.Ast.{Func, Value}
use Rattle.lifting.specs.Points.{Table}
use Rattle.lifting.specs.Ids.{id_of, new_id, value}
use Rattle.lifting.specs.Instructions.{Instruction}
use Rattle.general_laws.specs.Members.{In, NoDup}

-- the ids that a list's instructions give, in the list's order: their results that are not 0, which stands for none
abbrev pub if_given : ℕ → List ℕ → List ℕ
if_given zero l = l
if_given (suc n) l = suc n ∷ l

abbrev pub given_ids : List Instruction → List ℕ
given_ids [] = []
given_ids (i ∷ l) = if_given i.result (given_ids l)

-- xs are the numbers from a to one below b, none twice
pub record RunOn (a b : ℕ) (xs : List ℕ) : Type 0 where
  pub once : NoDup xs
  pub in_range : (x : ℕ) → In x xs → (a ≤ x) × (x < b)
  pub has_each : (x : ℕ) → a ≤ x → x < b → In x xs

-- a value with an id of its own: no constant
abbrev pub Fresh : Func → ℕ → Table → Table → Value → Type 0
Fresh F first T K v = id_of F first T K v ≡ new_id F first T K (value v)
