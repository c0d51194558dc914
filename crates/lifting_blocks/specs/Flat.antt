-- Kept blocks laid out flat: a kept block is a run of neighbouring visited points, so a pass over kept blocks is one pass over the visited
-- points, whose part at each point depends on the points before it only. Definitions. Assumes nothing.
use Rattle.std.specs.Prelude.{Bool, true, false, List, [], ◌∷◌, ◌++◌, ℕ, zero, suc, get_or}
use Rattle.std.proofs.Math.Option.{Option, none, some}
use Rattle.std.proofs.Math.Decide.{ℕ_discrete}
use Rattle.general_laws.specs.Lists.{choose, gather}
use Rattle.lifting.specs.Ast.{Value, Decl}
use Rattle.lifting.specs.Points.{CfgPoint, region_entry, eq_point, Terminator, BlockLifting, Table, nothing_here, plain}
use Rattle.lifting.specs.Absorb.{sole_target, joined}

-- f 0, f 1, .., f (n - 1), one after the other
unfoldable pub up_to {ℓ} : {A : Type ℓ} → (ℕ → List A) → ℕ → List A
up_to f zero = []
up_to f (suc n) = up_to f n ++ f n

-- where a visited point stands: in no kept block, at the start of one, or in the one whose label is that of a point before it
pub data Status : Type 0 where
  gone : Status
  starts : Status
  goes : CfgPoint → Status

-- what a point passes on to the next one: nothing, or that it absorbs it, into no kept block or into the block of a point
pub data Carry : Type 0 where
  fresh : Carry
  off : Carry
  on : CfgPoint → Carry

abbrev pub by_count : ℕ → Status
by_count zero = gone
by_count (suc n) = starts

abbrev pub status : Carry → ℕ → Status
status fresh n = by_count n
status off n = gone
status (on h) n = goes h

abbrev pub carry : Status → CfgPoint → Bool → Carry
carry s p false = fresh
carry gone p true = off
carry starts p true = on p
carry (goes h) p true = on h

abbrev pub no_keys : List Value → Bool
no_keys [] = true
no_keys (k ∷ ks) = false

abbrev pub absorbs_target : Option CfgPoint → CfgPoint → ℕ → List Value → Bool
absorbs_target none q n ks = false
absorbs_target (some t) q n ks = choose (eq_point t q) (choose (ℕ_discrete n 1) (no_keys ks) false) false

abbrev pub no_pair : CfgPoint × BlockLifting
no_pair = (region_entry 0, plain nothing_here)

-- a point's block once it has absorbed, and what stands behind it
pub record AbsorbedRun : Type 0 where
  pub block : BlockLifting
  pub rest : Table

abbrev pub absorb_step : Bool → (CfgPoint × BlockLifting) → CfgPoint → AbsorbedRun → AbsorbedRun
absorb_step true x q r = record { block = joined x.1 r.block; rest = r.rest }
absorb_step false x q r = record { block = x.1; rest = (q, r.block) ∷ r.rest }

-- c counts the uses of a point
module _ (c : CfgPoint → ℕ) where
  -- x absorbs y: its only target is y, which has use count 1 and no phis
  unfoldable pub absorbs_next : (CfgPoint × BlockLifting) → (CfgPoint × BlockLifting) → Bool
  absorbs_next x y = absorbs_target (sole_target x.1.term) y.0 (c y.0) y.1.keys

  -- x absorbs the first of T
  unfoldable pub absorbs_first : (CfgPoint × BlockLifting) → Table → Bool
  absorbs_first x [] = false
  absorbs_first x (y ∷ T) = absorbs_next x y

  -- the point at i absorbs the next one
  unfoldable pub absorbs_here : Table → ℕ → Bool
  absorbs_here [] i = false
  absorbs_here (x ∷ T) zero = absorbs_first x T
  absorbs_here (x ∷ T) (suc i) = absorbs_here T i

  unfoldable pub status_from : Carry → Table → ℕ → Status
  status_from g T zero = status g (c (get_or T 0 no_pair).0)
  status_from g T (suc i) = status (carry (status_from g T i) (get_or T i no_pair).0 (absorbs_here T i)) (c (get_or T (suc i) no_pair).0)

  abbrev pub status_at : Table → ℕ → Status
  status_at T i = status_from fresh T i

  -- neighbours absorbed, from the last point back
  unfoldable pub absorb_from : (CfgPoint × BlockLifting) → Table → AbsorbedRun
  absorb_from x [] = record { block = x.1; rest = [] }
  absorb_from x (y ∷ T) = absorb_step (absorbs_next x y) x y.0 (absorb_from y T)

  unfoldable pub absorb_runs : Table → Table
  absorb_runs [] = []
  absorb_runs (x ∷ T) = (x.0, (absorb_from x T).block) ∷ (absorb_from x T).rest

-- A pass over kept blocks: what it writes at a block's start (label and phis), for each op, at its end (the block's label and its way out).
pub record Pass (A : Type 0) : Type 0 where
  pub start : CfgPoint → List Value → List Decl → List A
  pub op : ℕ → List A
  pub end : CfgPoint → Terminator → List A

module _ {A : Type 0} (m : Pass A) where
  unfoldable pub block_part : (CfgPoint × BlockLifting) → List A
  block_part x = m.start x.0 x.1.keys x.1.decls ++ (gather m.op x.1.ops ++ m.end x.0 x.1.term)

  unfoldable pub block_parts : Table → List A
  unfolding block_part
  block_parts T = gather block_part T

  abbrev pub unless_absorbs : Bool → List A → List A
  unless_absorbs true l = []
  unless_absorbs false l = l

  -- of one visited point
  unfoldable pub pass_part : Status → Bool → (CfgPoint × BlockLifting) → List A
  pass_part gone g x = []
  pass_part starts g x = m.start x.0 x.1.keys x.1.decls ++ (gather m.op x.1.ops ++ unless_absorbs g (m.end x.0 x.1.term))
  pass_part (goes h) g x = gather m.op x.1.ops ++ unless_absorbs g (m.end h x.1.term)

-- of the point at i
unfoldable pub part_at : {A : Type 0} → (CfgPoint → ℕ) → Pass A → Table → ℕ → List A
unfolding pass_part status_from absorbs_here
part_at c m T i = pass_part m (status_at c T i) (absorbs_here c T i) (get_or T i no_pair)
