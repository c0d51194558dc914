-- Neighbours in a table: what holds of each entry and the point that stands next. Assumes nothing.
use Rattle.std.specs.Prelude.{◌≡◌, refl, [], ◌∷◌, ◌++◌, ℕ, zero, suc, ◌<◌, get_or, length, drop}
use Rattle.std.proofs.Common.{sym, ap, ◌∙◌, arith, drop_of_length-le}
use Rattle.std.proofs.Math.Option.{Option, none, some}
use Rattle.lifting.specs.Points.{CfgPoint, BlockLifting, Table}
use Rattle.general_laws.specs.Members.{All}
use Rattle.lifting_blocks.specs.Flat.{no_pair}

pub none_some : {A : Type 0} {x : A} → none ≡ some x → ⊥
none_some e = let z : ◌≡◌ {A = ℕ} 0 1 = cc in omega arith

pub some_injective : {A : Type 0} {x y : A} → some x ≡ some y → y ≡ x
some_injective e = cc

-- the first point of a table, or what comes after the table
abbrev pub first_in_table : Table → Option CfgPoint → Option CfgPoint
first_in_table [] o = o
first_in_table (x ∷ T) o = some x.0

-- P of each entry and the next point; o is what comes after the table
abbrev pub Chain : (CfgPoint × BlockLifting → Option CfgPoint → Type 0) → Table → Option CfgPoint → Type 0
Chain P [] o = Unit {0}
Chain P (x ∷ T) o = P x (first_in_table T o) × Chain P T o

pub first_append : (S T : Table) (o : Option CfgPoint) → first_in_table (S ++ T) o ≡ first_in_table S (first_in_table T o)
first_append [] T o = refl
first_append (x ∷ S) T o = refl

module _ (P : CfgPoint × BlockLifting → Option CfgPoint → Type 0) where
  pub chain_append : (S T : Table) (o : Option CfgPoint) → Chain P S (first_in_table T o) → Chain P T o → Chain P (S ++ T) o
  chain_append [] T o s t = t
  chain_append (x ∷ S) T o s t = (rw (first_append S T o) s.0, chain_append S T o s.1 t)

  pub chain_get_or : (T : Table) (o : Option CfgPoint) → Chain P T o → (i : ℕ) → i < length T → P (get_or T i no_pair) (first_in_table (drop (suc i) T) o)
  chain_get_or [] o h i l = absurd (omega arith)
  chain_get_or (x ∷ T) o h zero l = h.0
  chain_get_or (x ∷ T) o h (suc i) l = chain_get_or T o h.1 i (omega arith)

  pub chain_map : (Q : CfgPoint × BlockLifting → Option CfgPoint → Type 0) → ((x : CfgPoint × BlockLifting) (o : Option CfgPoint) → P x o → Q x o) → (T : Table) (o : Option CfgPoint) → Chain P T o → Chain Q T o
  chain_map Q f [] o h = tt
  chain_map Q f (x ∷ T) o h = (f x (first_in_table T o) h.0, chain_map Q f T o h.1)

  pub chain_all : (Q : CfgPoint × BlockLifting → Type 0) → ((x : CfgPoint × BlockLifting) (o : Option CfgPoint) → P x o → Q x) → (T : Table) (o : Option CfgPoint) → Chain P T o → All Q T
  chain_all Q f [] o h = tt
  chain_all Q f (x ∷ T) o h = (f x (first_in_table T o) h.0, chain_all Q f T o h.1)

-- by position: the next point is the one at the next position
pub next_at_law : (T : Table) (i : ℕ) (q : CfgPoint) → first_in_table (drop (suc i) T) none ≡ some q → (suc i < length T) × (q ≡ (get_or T (suc i) no_pair).0)
next_at_law [] i q e = absurd (none_some e)
next_at_law (x ∷ []) i q e = absurd (none_some (ap (λ (U : Table). first_in_table U none) (sym (drop_of_length-le {A = CfgPoint × BlockLifting} [] {i = i} (omega arith))) ∙ e))
next_at_law (x ∷ y ∷ T) zero q e = (omega arith, cc)
next_at_law (x ∷ y ∷ T) (suc i) q e = let r = next_at_law (y ∷ T) i q e in (omega (arith, r.0), r.1)
