-- Document 01, 'Blocks and their order': use counts, absorption over points in reverse order, and the drop of points of count 0, as in
-- `from_func_decl`. Assumes nothing.
use Rattle.std.specs.Prelude.{List, [], ◌∷◌, ◌++◌, ℕ, zero, suc, ◌+◌}
use Rattle.std.proofs.Math.Option.{Option, none, some}
use Rattle.std.proofs.Math.Decide.{ℕ_discrete}
use Rattle.general_laws.specs.Lists.{choose, times}
use Rattle.lifting.specs.Ast.{Value, ControlInstKind, unreachable, return, branch, select_branch, exit_invocation}
use Rattle.lifting.specs.Points.{CfgPoint, eq_point, Merge, no_merge, selection_merge, loop_merge, Terminator, BlockLifting, Table, points, nothing_here, block_at}

abbrev pub merge_labels : Merge → List CfgPoint
merge_labels no_merge = []
merge_labels (selection_merge a u) = a ∷ []
merge_labels (loop_merge a b u) = a ∷ b ∷ []

abbrev pub labels : Terminator → List CfgPoint
labels t = merge_labels t.merge ++ t.targets

abbrev pub count_in : CfgPoint → List CfgPoint → ℕ
count_in = times eq_point

-- one per target, one per merge label
abbrev pub uses : Table → CfgPoint → ℕ
uses [] q = 0
uses (x ∷ T) q = count_in q (labels x.1.term) + uses T q

abbrev pub count_one : CfgPoint → CfgPoint → ℕ
count_one q p = choose (eq_point q p) 1 0

-- one for the first point
abbrev pub first_use : Table → CfgPoint → ℕ
first_use [] q = 0
first_use (x ∷ T) q = count_one q x.0

-- Uses of a point: one for the first point, one per target, one per merge label.
unfoldable pub use_count : Table → CfgPoint → ℕ
use_count T q = first_use T q + uses T q

-- attributes 0, kind branch, no inputs, one target, no edge-value entry, no merge: the target
abbrev pub if_zero : ℕ → Option CfgPoint → Option CfgPoint
if_zero zero o = o
if_zero (suc n) o = none

abbrev pub if_branch : ControlInstKind → Option CfgPoint → Option CfgPoint
if_branch unreachable o = none
if_branch return o = none
if_branch branch o = o
if_branch (select_branch k) o = none
if_branch (exit_invocation i) o = none

abbrev pub if_empty : {A : Type 0} → List A → Option CfgPoint → Option CfgPoint
if_empty [] o = o
if_empty (x ∷ l) o = none

abbrev pub if_no_merge : Merge → Option CfgPoint → Option CfgPoint
if_no_merge no_merge o = o
if_no_merge (selection_merge a u) o = none
if_no_merge (loop_merge a b u) o = none

abbrev pub the_only : List CfgPoint → Option CfgPoint
the_only [] = none
the_only (p ∷ []) = some p
the_only (p ∷ q ∷ l) = none

abbrev pub sole_target : Terminator → Option CfgPoint
sole_target t = if_zero t.attrs (if_branch t.kind (if_empty t.ins (if_empty t.vals (if_no_merge t.merge (the_only t.targets)))))

-- its ops belong to the block that absorbed it
abbrev pub emptied : BlockLifting → BlockLifting
emptied b = record { keys = b.keys; decls = b.decls; defaults = b.defaults; ops = []; term = nothing_here }

abbrev pub joined : BlockLifting → BlockLifting → BlockLifting
joined b c = record { keys = b.keys; decls = b.decls; defaults = b.defaults; ops = b.ops ++ c.ops; term = c.term }

-- what becomes of the block d at p when the block at b absorbs the block c at t
abbrev pub refit : CfgPoint → CfgPoint → BlockLifting → CfgPoint → BlockLifting → BlockLifting
refit b t c p d = choose (eq_point p t) (emptied d) (choose (eq_point p b) (joined d c) d)

abbrev pub absorb_into : CfgPoint → CfgPoint → BlockLifting → Table → Table
absorb_into b t c [] = []
absorb_into b t c (x ∷ T) = (x.0, refit b t c x.0 x.1) ∷ absorb_into b t c T

-- Points of count 0 are dropped.
abbrev pub keep_if : ℕ → (CfgPoint × BlockLifting) → Table → Table
keep_if zero x T = T
keep_if (suc n) x T = x ∷ T

abbrev pub keep : (CfgPoint → ℕ) → Table → Table
keep c [] = []
keep c (x ∷ T) = keep_if (c x.0) x (keep c T)

pub record Absorbing : Type 0 where
  pub table : Table
  pub counts : CfgPoint → ℕ

abbrev pub if_no_phis : List Value → Absorbing → Absorbing → Absorbing
if_no_phis [] a b = a
if_no_phis (k ∷ ks) a b = b

-- a block absorbs its target exactly if the target has use count 1 and no phis; an absorbed target counts 0
abbrev pub try_target : CfgPoint → Option CfgPoint → Absorbing → Absorbing
try_target b none s = s
try_target b (some t) s =
    choose (ℕ_discrete (s.counts t) 1)
    (if_no_phis (block_at s.table t).keys
    (record { table = absorb_into b t (block_at s.table t) s.table; counts = λ q. choose (eq_point q t) 0 (s.counts q) }) s)
    s

abbrev pub absorb_at : CfgPoint → Absorbing → Absorbing
absorb_at b s = try_target b (sole_target (block_at s.table b).term) s

-- over points in reverse order
abbrev pub absorb_all : List CfgPoint → Absorbing → Absorbing
absorb_all [] s = s
absorb_all (b ∷ l) s = absorb_at b (absorb_all l s)

unfoldable pub absorb : Table → Absorbing
unfolding use_count eq_point ℕ_discrete
absorb T = absorb_all (points T) (record { table = T; counts = use_count T })

unfoldable pub kept : Table → Table
unfolding absorb
kept T = let s = absorb T in keep s.counts s.table
