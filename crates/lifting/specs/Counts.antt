-- Document 01, refusal 6: unequal counts, where document 02, W2, lets a case off. Assumes nothing.
use Rattle.std.specs.Prelude.{Bool, true, false, ◌&&◌, ◌||◌, List, [], ◌∷◌, ℕ, leb, ltb, eqb, length}
use Rattle.std.proofs.Math.Decide.{ℕ_discrete}
use Rattle.general_laws.specs.Lists.{every}
use Rattle.lifting.specs.Ast.{SelectionKind, bool_cond, spv_inst, Node, block, select, loop, exit, ControlInst, Region, Func}
use Rattle.lifting.specs.Parts.{node_of, region_of, vals_for}

-- `bool` without 2 cases; another select without cases
abbrev pub cases_fit : SelectionKind → ℕ → Bool
cases_fit bool_cond n = eqb n 2
cases_fit (spv_inst i) n = ltb 0 n

-- W2: 'a case whose last node is an exit'. The last by its region's list is itself an exit node.
abbrev pub is_exit : Node → Bool
is_exit (block is) = false
is_exit (select k v cs ds u) = false
is_exit (loop b c vs u) = false
is_exit (exit i vs) = true

abbrev pub ends_in_exit : Func → List ℕ → Bool
ends_in_exit F [] = false
ends_in_exit F (n ∷ []) = is_exit (node_of F n)
ends_in_exit F (n ∷ m ∷ ns) = ends_in_exit F (m ∷ ns)

-- case outputs and outs; such a case 'may now have no outputs at all'
abbrev pub outs_fit : Func → ℕ → ℕ → Bool
outs_fit F c n = eqb (length (region_of F c).outs) n || (eqb (length (region_of F c).outs) 0 && ends_in_exit F (region_of F c).nodes)

-- a loop's inits, its body's inputs, its body's outputs; case outputs and outs; a case with inputs
abbrev pub node_fits : Func → Node → Bool
node_fits F (block is) = true
node_fits F (select k v cs ds u) =
    every (λ c. eqb (length (region_of F c).ins) 0 && outs_fit F c (length ds)) cs && cases_fit k (length cs)
node_fits F (loop b c vs u) =
    eqb (length vs) (length (region_of F b).ins) && eqb (length (region_of F b).outs) (length (region_of F b).ins)
node_fits F (exit i vs) = true

-- each edge-value entry and the inputs of the region it names, target or not, where a target without an entry has zero values
abbrev pub edges_fit : Func → ControlInst → Bool
edges_fit F c =
    every (λ e. eqb (length e.1) (length (region_of F e.0).ins)) c.vals
    && every (λ r. eqb (length (vals_for c r)) (length (region_of F r).ins)) c.to

-- region 0's outputs over 1, or any with ctrl lines
abbrev pub body_outs : List (ℕ × ControlInst) → ℕ → Bool
body_outs [] n = leb n 1
body_outs (x ∷ l) n = eqb n 0

-- region 0's inputs and the params; an imported function has no region 0
abbrev pub body_fits : List Region → ℕ → List (ℕ × ControlInst) → Bool
body_fits [] n l = true
body_fits (r ∷ rs) n l = eqb (length r.ins) n && body_outs l (length r.outs)

-- A text passes 6.
unfoldable pub counts_agree : Func → Bool
unfolding ℕ_discrete
counts_agree F =
    body_fits F.regions (length F.params) F.ctrls
    && every (node_fits F) F.nodes
    && every (λ c. edges_fit F c.1) F.ctrls
