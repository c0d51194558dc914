-- The edges of a way out that may carry values into phis, each by the number of its entry. Assumes nothing.
use Rattle.std.specs.Prelude.{List, [], ◌∷◌, ℕ, suc, get_or}
use Rattle.lifting.specs.Ast.{Value}
use Rattle.lifting.specs.Points.{CfgPoint, Terminator, region_entry}

-- one for each entry, the first with number e
abbrev pub entry_edges : ℕ → List (CfgPoint × List Value) → List (CfgPoint × ℕ)
entry_edges e [] = []
entry_edges e (x ∷ l) = (x.0, e) ∷ entry_edges (suc e) l

-- a way out without entries carries values only along a sole edge: those that its target takes along every edge without values of its own
abbrev pub sole_edge : List CfgPoint → List (CfgPoint × ℕ)
sole_edge [] = []
sole_edge (p ∷ []) = (p, 0) ∷ []
sole_edge (p ∷ q ∷ l) = []

abbrev pub edges_by : List (CfgPoint × List Value) → List CfgPoint → List (CfgPoint × ℕ)
edges_by [] ps = sole_edge ps
edges_by (x ∷ l) ps = entry_edges 0 (x ∷ l)

abbrev pub term_edges : Terminator → List (CfgPoint × ℕ)
term_edges t = edges_by t.vals t.targets

-- the values along the edge of entry e, where the target takes d along an edge without values
abbrev pub values_along : List (CfgPoint × List Value) → ℕ → List Value → List Value
values_along [] e d = d
values_along (x ∷ l) e d = (get_or (x ∷ l) e (region_entry 0, [])).1
