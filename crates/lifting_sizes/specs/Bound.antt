-- The list of an imported function has no blocks; and what a caller may rely on that lends room for the longest list, which `room_enough` in
-- `proofs/Bound` proves. Assumes nothing.
use Rattle.std.specs.Prelude.{◌≡◌, Bool, ℕ, suc, ◌≤◌, length}
use Rattle.std.proofs.Math.Path.{ap}
use Rattle.std.proofs.Math.Bool.{true, false}
use mathlib.Core.List.{List, []}
use Rattle.lifting.specs.Ast.{Func}
use Rattle.lifting.specs.Parts.{has_body}
use Rattle.lifting.specs.Order.{roots}
use Rattle.lifting.specs.Points.{Table}
use Rattle.lifting.specs.Walk.{walk_of, walk_roots}
use Rattle.lifting.specs.Absorb.{absorb, kept}
use Rattle.lifting.specs.Instructions.{block_insts}
use Rattle.lifting.specs.Answer.{answer, refused}
use Rattle.lifting_blocks.specs.Totals.{total}
use Rattle.lifting_sizes.specs.Weights.{max_words}
use Rattle.lifting_sizes.specs.BlockWeights.{inst_weight}

module _ (F : Func) (first : ℕ) where
  abbrev T : Table
  T = walk_of F

  abbrev K : Table
  K = kept (walk_of F)

  -- an imported function has no blocks
  pub imported_weight : has_body F.regions ≡ false → total inst_weight (block_insts F first T K K) ≡ 0
  unfolding walk_of kept absorb block_insts
  imported_weight e =
      ap (λ (U : Table). total inst_weight (block_insts F first U (kept U) (kept U)))
      (ap (λ (b : Bool). elim b as (λ (c : Bool). Table) [ true ↦ walk_roots F (suc (length F.regions)) (roots F) | false ↦ [] ]) e)

-- What is claimed of a caller that lends as many words as the longest list has: it never meets refusal 11.
abbrev pub RoomEnough : Type 0
RoomEnough = (text : List ℕ) (first func work out : ℕ) → max_words ≤ out → answer text first func work out ≡ refused 11 → ⊥
