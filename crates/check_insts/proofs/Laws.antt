-- What the proofs of this crate cite, over plain variables.
use mathlib.Core.Path.{◌≡◌, refl, ap, ◌∙◌}
use mathlib.Core.Bool.{Bool, true, ◌||◌}
use mathlib.Core.List.{List, [], ◌∷◌}
use Prim.Native.Nat.{ℕ}
use native.Mathlib.Decide.{ℕ_discrete}
use lib.Dec.{eqb}
use borrow.Author.Tests.{eq-eqb, ne_eqb}
use Rattle.opcodes.specs.Table.{among}
use Rattle.general_laws.specs.Lists.{choose, within}

-- a number stands in a list: the opcode table's test is the definitions'
one_more : {n x : ℕ} {b c : Bool} (d : Dec (n ≡ x)) → b ≡ c → (eqb n x || b) ≡ choose d true c
one_more {n} {x} {b} (yes e) p = ap (λ (t : Bool). t || b) (eq-eqb n x e)
one_more {n} {x} {b} (no e) p = ap (λ (t : Bool). t || b) (ne_eqb n x e) ∙ p

pub among_within : (n : ℕ) (l : List ℕ) → among n l ≡ within n l
among_within n [] = refl
among_within n (x ∷ l) = one_more (ℕ_discrete n x) (among_within n l)
