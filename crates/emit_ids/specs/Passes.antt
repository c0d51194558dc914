-- The passes over the visited points that give ids, one for each kind of names. Assumes nothing.
--     laid_given    the blocks stay laid out
--     Passing, pass-..     a pass over the positions
use Rattle.std.specs.Prelude.{◌≡◌, List, ℕ, ◌+◌, ◌*◌, ◌≤◌, ◌<◌, length}
use Rattle.std.proofs.Common.{ap, arith}
use Rattle.lifting.specs.Ids.{Name}
use Rattle.lifting_blocks.specs.Flat.{up_to}
use Rattle.blocks.specs.Laid.{Laid, laid_kept}
use Rattle.emit_names.specs.Numbered.{GivesIds, gives_as, gives_length, gives_low, gives_none, gives_turn}

-- the blocks stay laid out
pub laid_given : {l : List Name} {w u v : List ℕ} {m k n : ℕ} → Laid w u m → GivesIds l k u n v → Laid w v m
laid_given laid g = laid_kept laid (λ x a b. gives_low g x b) (gives_length g)

-- ---- a pass over the positions

pub record Passing (f : ℕ → List Name) (w u₀ : List ℕ) (m k₀ i : ℕ) (u : List ℕ) (k : ℕ) : Type 0 where
  pub laid : Laid w u m
  pub below : i ≤ m
  pub given : GivesIds (up_to f i) k₀ u₀ k u
  pub room : k ≤ k₀ + 4095 * i

pub pass_first : {f : ℕ → List Name} {w u : List ℕ} {m k : ℕ} → Laid w u m → Passing f w u m k 0 u k
unfolding up_to
pass_first {u = u} {k = k} l = record { laid = l; below = omega arith; given = gives_none k u; room = omega arith }

module _ {f : ℕ → List Name} {w u₀ : List ℕ} {m k₀ i : ℕ} {u : List ℕ} {k : ℕ} (p : Passing f w u₀ m k₀ i u k) where
  pub pass_room : k₀ ≤ 1000000000 → i < m → k ≤ 4000000000
  pass_room h l = omega (arith, p.room, p.laid.few)

  pub pass_next : {v : List ℕ} {n : ℕ} → i < m → GivesIds (f i) k u n v → length (f i) ≤ 4095 → Passing f w u₀ m k₀ (i + 1) v n
  pass_next h g few = record {
    laid = laid_given p.laid g;
    below = omega arith;
    given = gives_turn f i p.given g;
    room = omega (arith, p.room, g.next);
  }

  pub pass_length : length u ≡ length u₀
  pass_length = gives_length p.given

  pub pass_done : m ≤ i → GivesIds (up_to f m) k₀ u₀ k u
  pass_done h = let e : i ≡ m = omega (arith, p.below) in gives_as (ap (up_to f) e) p.given
