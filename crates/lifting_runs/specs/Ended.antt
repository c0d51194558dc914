-- Two kinds of points that no run comes to, since an exit stands right before them (W2): a node's exit where the node is an exit, and the exit of
-- a case whose last node is one. Such a case need not have its select's outputs. Definitions. Assumes nothing.
use Rattle.std.specs.Prelude.{◌≡◌, Bool, true, false, List, [], ◌∷◌, ℕ}
use Rattle.lifting.specs.Ast.{Func, Node, block, exit, loop, select}
use Rattle.lifting.specs.Parts.{children_of, node_of, region_of}
use Rattle.lifting.specs.Counts.{ends_in_exit, is_exit}
use Rattle.lifting.specs.Points.{BlockLifting, CfgPoint, node_entry, node_exit, region_entry, region_exit}
use Rattle.lifting.specs.Walk.{in_node}
use Rattle.lifting.specs.Absorb.{labels}
use Rattle.general_laws.specs.Members.{In}
use Rattle.lifting_runs.specs.Places.{VisitedAt}

-- the last of some nodes
abbrev pub last_of : List ℕ → ℕ
last_of [] = 0
last_of (n ∷ []) = n
last_of (n ∷ m ∷ l) = last_of (m ∷ l)

abbrev pub is_select : Node → Bool
is_select (block is) = false
is_select (select k v cs ds u) = true
is_select (loop b c is u) = false
is_select (exit i vs) = false

module _ (F : Func) where
  -- region c is a case, and its last node is an exit
  pub record CaseEnds (c : ℕ) : Type 0 where
    pub node : ℕ
    pub stands : VisitedAt F c (in_node node)
    pub in_select : is_select (node_of F node) ≡ true
    pub child : In c (children_of (node_of F node))
    pub ends : ends_in_exit F (region_of F c).nodes ≡ true

  abbrev pub Ended : CfgPoint → Type 0
  Ended (region_entry r) = ⊥
  Ended (region_exit r) = CaseEnds r
  Ended (node_entry n) = ⊥
  Ended (node_exit n) = is_exit (node_of F n) ≡ true

  -- The only points whose way out may take too few values: the second kind.
  abbrev pub EndedCase : CfgPoint → Type 0
  EndedCase (region_entry r) = ⊥
  EndedCase (region_exit r) = CaseEnds r
  EndedCase (node_entry n) = ⊥
  EndedCase (node_exit n) = ⊥

  -- what leads to such a point is the exit of the last node before it
  abbrev pub Behind : CfgPoint × BlockLifting → Type 0
  Behind x = (q : CfgPoint) → In q (labels x.1.term) → Ended q → (c : ℕ) × (q ≡ region_exit c) × (x.0 ≡ node_exit (last_of (region_of F c).nodes))
