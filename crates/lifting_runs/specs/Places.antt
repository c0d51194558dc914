-- The blocks of `from_func_decl` at the points of regions and nodes, before absorption, and what the walk visits.
use Rattle.std.specs.Prelude.{◌≡◌, List, ◌∷◌, ℕ}
use Rattle.std.proofs.Math.Option.{some}
use Rattle.lifting.specs.Ast.{ControlInst, Decl, Func, SelectionKind, Value, loop, select}
use Rattle.lifting.specs.Parts.{ctrl_of, node_of, region_of}
use Rattle.lifting.specs.Points.{BlockLifting, CfgPoint, node_entry, node_exit, region_entry, region_exit}
use Rattle.lifting.specs.Walk.{Place, entry_block, exit_block, in_block, in_node, next_point, out_block, top}
use Rattle.general_laws.specs.Members.{In}

-- s is what is left of l
pub data Suffix (l : List ℕ) : List ℕ → Type 0 where
  whole : Suffix l l
  next : {x : ℕ} {s : List ℕ} → Suffix l (x ∷ s) → Suffix l s

module _ (F : Func) where
  -- the regions that a run can come to, and where they stand
  pub data VisitedAt : ℕ → Place → Type 0 where
    at_body : VisitedAt 0 top
    in_case : {r n c : ℕ} {p : Place} {ns : List ℕ} {kd : SelectionKind} {v : Value} {cs : List ℕ} {ds : List Decl} {u : ℕ}
        → VisitedAt r p → Suffix (region_of F r).nodes (n ∷ ns) → node_of F n ≡ select kd v cs ds u → In c cs → VisitedAt c (in_node n)
    in_loop : {r n b : ℕ} {p : Place} {ns : List ℕ} {c : Value} {is : List Value} {u : ℕ}
        → VisitedAt r p → Suffix (region_of F r).nodes (n ∷ ns) → node_of F n ≡ loop b c is u → VisitedAt b (in_node n)
    by_ctrl : {r s : ℕ} {c : ControlInst} → VisitedAt r top → ctrl_of F r ≡ some c → In s c.to → VisitedAt s top

  -- a table holds the right block at each point that a run can come to
  pub record LaidAt (B : CfgPoint → BlockLifting) : Type 0 where
    pub entry_at : {r : ℕ} {p : Place} → VisitedAt r p → B (region_entry r) ≡ entry_block F r p
    pub exit_at : {r : ℕ} {p : Place} → VisitedAt r p → B (region_exit r) ≡ exit_block F r p
    pub in_at : {r n : ℕ} {p : Place} {ns : List ℕ} → VisitedAt r p → Suffix (region_of F r).nodes (n ∷ ns) → B (node_entry n) ≡ in_block F (node_of F n) n
    pub out_at : {r n : ℕ} {p : Place} {ns : List ℕ} → VisitedAt r p → Suffix (region_of F r).nodes (n ∷ ns) → B (node_exit n) ≡ out_block F (node_of F n) n (next_point r ns)
