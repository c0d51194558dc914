-- Document 01, refusal 5: a node doesn't stand exactly once in all regions' lists, or an op exactly once in all blocks' lists; a region is
-- child of two places or of itself through others, or of itself directly; region 0 is a child; without ctrl lines, another region is no
-- child. Assumes nothing.
use Rattle.std.specs.Prelude.{Bool, true, false, not, cond, ◌&&◌, List, [], ◌∷◌, ℕ, zero, suc, eqb, length}
use Rattle.std.proofs.Math.Option.{Option, none, some}
use Rattle.std.proofs.Math.Decide.{ℕ_discrete}
use Rattle.general_laws.specs.Lists.{tabulate, below, every, within, times, distinct}
use Rattle.lifting.specs.Ast.{ControlInst, Func}
use Rattle.lifting.specs.Parts.{region_of, node_of, children_of, node_list, op_list, child_list}

-- each number below n stands exactly once in the list
abbrev pub stands_once : ℕ → List ℕ → Bool
stands_once n l = every (λ i. eqb (times ℕ_discrete i l) 1) (below n)

module _ (F : Func) where
  -- one of these nodes has the child c
  abbrev pub holds : List ℕ → ℕ → Bool
  holds [] c = false
  holds (n ∷ ns) c = cond (within c (children_of (node_of F n))) true (holds ns c)

  abbrev pub some_if : Bool → ℕ → Option ℕ → Option ℕ
  some_if true s o = some s
  some_if false s o = o

  -- the region, of those below k, one of whose nodes has the child c
  abbrev pub parent_below : ℕ → ℕ → Option ℕ
  parent_below zero c = none
  parent_below (suc s) c = some_if (holds (region_of F s).nodes c) s (parent_below s c)

  abbrev pub parent_of : ℕ → Option ℕ
  parent_of c = parent_below (length F.regions) c

  -- the regions around r, from its parent outward, at most k of them
  abbrev pub around : ℕ → ℕ → List ℕ
  around zero r = []
  around (suc k) r = elim (parent_of r) [ none ↦ [] | some s ↦ s ∷ around k s ]

  -- a region is child of itself, directly or through others
  abbrev pub around_itself : ℕ → Bool
  around_itself r = within r (around (length F.regions) r)

-- without ctrl lines, every region but the body is a child
abbrev pub roots_have_ways_out : List (ℕ × ControlInst) → List ℕ → ℕ → Bool
roots_have_ways_out [] cs zero = true
roots_have_ways_out [] cs (suc n) = every (λ r. within r cs) (tabulate (λ i. i) 1 n)
roots_have_ways_out (x ∷ l) cs n = true

-- A text passes 5.
unfoldable pub is_tree : Func → Bool
unfolding node_list op_list child_list ℕ_discrete
is_tree F =
    stands_once (length F.nodes) (node_list F)
    && stands_once (length F.ops) (op_list F)
    && distinct (child_list F)
    && every (λ r. not (around_itself F r)) (below (length F.regions))
    && not (within 0 (child_list F))
    && roots_have_ways_out F.ctrls (child_list F) (length F.regions)
