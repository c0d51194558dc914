-- Refusal 5 as a test of the function slice's words: what the code computes. specs/Same says that it is the definition. The counts come
-- first: only a pool that is within its room may be looked at. Assumes nothing.
use Rattle.std.specs.Prelude.{◌≡◌, Bool, true, false, not, cond, ◌&&◌, List, ◌∷◌, ℕ, zero, suc, ◌+◌, ◌/◌, ◌%◌, ◌≤◌, ◌<◌, eqb, ltb, length}
use Rattle.std.proofs.Math.Decide.{ℕ_discrete}
use Rattle.general_laws.specs.Lists.{choose, tabulate, below, every, gather, within, distinct}
use Rattle.func.specs.Layout.{func_need, node_refs, op_refs, child_refs, regions, nodes, ops, ctrls, entry_room}
use Rattle.func.specs.Store.{count}
use Rattle.func.specs.Tables.{word}

-- n numbers of pool k, from entry `at` on
unfoldable pub pool_numbers : ℕ → List ℕ → ℕ → ℕ → List ℕ
pool_numbers k w at n = tabulate (λ i. word k w i 0) at n

-- all of them
abbrev pub refs : ℕ → List ℕ → List ℕ
refs k w = pool_numbers k w 0 (count k w)

-- each line of pool p stands once in pool k
abbrev pub once_test : ℕ → ℕ → List ℕ → Bool
once_test k p w = eqb (count k w) (count p w) && distinct (refs k w)

-- There can be c children of n regions: without ctrl lines (k of them) all regions but the first, else not the first.
abbrev pub child_fit : ℕ → ℕ → ℕ → Bool
child_fit n c k = cond (eqb n 0) (eqb c 0) (cond (eqb k 0) (eqb (c + 1) n) (ltb c n))

abbrev pub child_test : List ℕ → Bool
child_test w = child_fit (count regions w) (count child_refs w) (count ctrls w) && distinct (0 ∷ refs child_refs w)

-- the nodes of region r, the children of node n, and of all of region r's nodes
abbrev pub node_refs_in : List ℕ → ℕ → List ℕ
node_refs_in w r = pool_numbers node_refs w (word regions w r 1 / 4096) (word regions w r 1 % 4096)

abbrev pub child_refs_in : List ℕ → ℕ → List ℕ
child_refs_in w n = pool_numbers child_refs w (word nodes w n 5 / 4096) (word nodes w n 5 % 4096)

unfoldable pub kids : List ℕ → ℕ → List ℕ
kids w r = gather (child_refs_in w) (node_refs_in w r)

-- one more than the last of the regions below s that has the child c, or 0
unfoldable pub parent_in : List ℕ → ℕ → ℕ → ℕ
parent_in w zero c = 0
parent_in w (suc s) c = cond (within c (kids w s)) (suc s) (parent_in w s c)

-- Region r comes again within k steps outward from `at`, where p is one more than a region's parent, or 0.
unfoldable pub climbs : (ℕ → ℕ) → ℕ → ℕ → ℕ → Bool
climbs p r zero at = false
climbs p r (suc k) at = elim (p at) [ zero ↦ false | suc s ↦ choose (ℕ_discrete r s) true (climbs p r k s) ]

-- none of n regions comes again within n steps outward from it
abbrev pub acyclic : (ℕ → ℕ) → ℕ → Bool
acyclic p n = every (λ r. not (climbs p r n r)) (below n)

-- no region lies around itself
abbrev pub cycle_test : List ℕ → Bool
cycle_test w = acyclic (parent_in w (count regions w)) (count regions w)

-- The text passes 5.
unfoldable pub tree_test : List ℕ → Bool
tree_test w = once_test node_refs nodes w && once_test op_refs ops w && child_test w && cycle_test w

-- What the code needs to stay within the slices. The numbers of pool k name lines of pool p, where pool k is within its room, and there
-- are no more lines than it has room for.
pub record Refs (k p : ℕ) (w : List ℕ) : Type 0 where
  pub low : count p w ≤ entry_room k
  pub named : count k w ≤ entry_room k → (i : ℕ) → i < count k w → word k w i 0 < count p w

-- Word j of each row of pool k is a run of pool p, where pool p is within its room.
abbrev pub Runs : ℕ → ℕ → ℕ → List ℕ → Type 0
Runs k j p w = count p w ≤ entry_room p → (r : ℕ) → r < count k w → word k w r j / 4096 + word k w r j % 4096 ≤ count p w

pub record TreeSafe (w : List ℕ) : Type 0 where
  pub size : func_need ≤ length w
  pub region_room : count regions w ≤ entry_room regions
  pub node_room : count nodes w ≤ entry_room nodes
  pub node_refs_law : Refs node_refs nodes w
  pub op_refs_law : Refs op_refs ops w
  pub child_refs_law : Refs child_refs regions w
  pub region_runs : Runs regions 1 node_refs w
  pub node_runs : Runs nodes 5 child_refs w
  pub node_lists : count child_refs w ≤ entry_room child_refs → gather (child_refs_in w) (below (count nodes w)) ≡ refs child_refs w

-- the lists of nodes and of children are there whole
pub record ListsWhole (w : List ℕ) : Type 0 where
  pub safe : TreeSafe w
  pub nodes_fit : count node_refs w ≤ entry_room node_refs
  pub children_fit : count child_refs w ≤ entry_room child_refs
