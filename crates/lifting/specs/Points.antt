-- Document 01, 'Blocks and their order': points, and what a block holds before it has ids (spirt's `CfgPoint`, `Merge`, `Terminator`,
-- `BlockLifting`). Assumes nothing.
use Rattle.std.specs.Prelude.{◌≡◌, List, [], ◌∷◌, ℕ}
use Rattle.std.proofs.Math.Option.{Option, none, some}
use Rattle.std.proofs.Math.Decide.{ℕ_discrete}
use Rattle.general_laws.specs.Lists.{find, keys}
use Rattle.lifting.specs.Ast.{Value, Decl, ControlInstKind, unreachable, branch}
use Rattle.lifting.specs.Parts.{vals_or}

-- Points are a region's entry and exit and a node's entry and exit.
pub data CfgPoint : Type 0 where
  region_entry region_exit node_entry node_exit : ℕ → CfgPoint
  deriving Discrete as CfgPoint-discrete

unfoldable pub eq_point : (x y : CfgPoint) → Dec (x ≡ y)
eq_point = CfgPoint-discrete ℕ_discrete

-- the labels of a merge: where a selection's cases come together; where a loop is left, and where its way back begins; behind them its control
-- number (document 02, W4)
pub data Merge : Type 0 where
  no_merge : Merge
  selection_merge : CfgPoint → ℕ → Merge
  loop_merge : CfgPoint → CfgPoint → ℕ → Merge

-- the way out of a block; `vals` are the values for targets' phis
pub record Terminator : Type 0 where
  pub attrs : ℕ
  pub kind : ControlInstKind
  pub ins : List Value
  pub targets : List CfgPoint
  pub vals : List (CfgPoint × List Value)
  pub merge : Merge

-- phis (the values that they set, their attributes and types, and what an edge without values gives them), ops, the way out
pub record BlockLifting : Type 0 where
  pub keys : List Value
  pub decls : List Decl
  pub defaults : List Value
  pub ops : List ℕ
  pub term : Terminator

-- blocks in the order in which their points are visited
abbrev pub Table : Type 0
Table = List (CfgPoint × BlockLifting)

abbrev pub points : Table → List CfgPoint
points = keys

abbrev pub straight : CfgPoint → Terminator
straight p = record { attrs = 0; kind = branch; ins = []; targets = p ∷ []; vals = []; merge = no_merge }

abbrev pub nothing_here : Terminator
nothing_here = record { attrs = 0; kind = unreachable; ins = []; targets = []; vals = []; merge = no_merge }

abbrev pub plain : Terminator → BlockLifting
plain t = record { keys = []; decls = []; defaults = []; ops = []; term = t }

abbrev pub block_or : Option BlockLifting → BlockLifting
block_or none = plain nothing_here
block_or (some b) = b

abbrev pub block_at : Table → CfgPoint → BlockLifting
block_at T p = block_or (find eq_point p T)

-- The values that move along the edge from a way out to q: those that it has for q, else q's defaults. Only a loop's entry has defaults, its
-- inits: what comes before a loop goes on to it as to any node (`straight`), with no values of its own.
abbrev pub edge_of : Table → Terminator → CfgPoint → List Value
edge_of T t q = vals_or (find eq_point q t.vals) (block_at T q).defaults
