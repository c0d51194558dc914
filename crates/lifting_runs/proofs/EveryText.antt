-- What holds of the kept blocks and the names of every accepted text. One without a body has neither points nor blocks, and its names are the
-- function and the parameters. Assumes nothing.
use Rattle.std.specs.Prelude.{◌≡◌, refl, true, ℕ}
use Rattle.std.proofs.Common.{sym, ap, subst}
use mathlib.Core.List.{List, [], ◌∷◌}
use Rattle.lifting.specs.Ast.{Func, Region, Value, const, data_inst_output, node_output, region_input}
use Rattle.lifting.specs.Parts.{has_body}
use Rattle.lifting.specs.Points.{BlockLifting, CfgPoint, Table, points}
use Rattle.lifting.specs.Walk.{walk_of}
use Rattle.lifting.specs.Absorb.{absorb, kept}
use Rattle.lifting.specs.Ids.{id_of, names, phi_keys}
use Rattle.general_laws.specs.Members.{All, NoDup, all_in, in_nil}
use Rattle.general_laws.specs.Tests.{all_gather}
use Rattle.lifting_runs.specs.Accepted.{Accepted}
use Rattle.lifting_runs.specs.Refers.{refers}
use Rattle.lifting_runs.specs.Fits.{forest, numbers_fit}
use Rattle.lifting_runs.specs.Forest.{tree_of}
use Rattle.lifting_runs.specs.EmitRun.{Sound}
use Rattle.lifting_runs.proofs.AcceptedRuns.{NoCon, keys_plain, some_world, sound}
use Rattle.lifting_runs.specs.IdsOnce
use Rattle.lifting_runs.proofs.Numbering.{no_name_twice, no_point_twice}
use Rattle.lifting_runs.specs.ListIds.{Fresh}
use Rattle.lifting_runs.specs.Passes.{ListPassed, accepted_of}

-- a function without a body is not walked
pub walk_none : (F : Func) → F.regions ≡ [] → walk_of F ≡ []
unfolding walk_of
walk_none F e = rw e

-- what holds of the walk of a body, and of no points, holds of every text's walk
pub of_walk : (F : Func) (P : Table → Type 0) → (has_body F.regions ≡ true → P (walk_of F)) → P [] → P (walk_of F)
of_walk F P walked bare = by_regions F.regions refl
  where
    by_regions : (rs : List Region) → F.regions ≡ rs → P (walk_of F)
    by_regions [] e = subst P (sym (walk_none F e)) bare
    by_regions (r ∷ rs) e = walked (ap has_body e)

-- what the list needs of the walk T and of what is kept of it
pub record Fine (F : Func) (first : ℕ) (T K : Table) : Type 0 where
  pub sound : Sound F first T K
  pub points_once : NoDup (points K)
  pub names_once : NoDup (names F T K)
  pub phis_fresh : All (Fresh F first T K) (phi_keys T)

module _ (F : Func) (first : ℕ) (text : List ℕ) (out : ℕ) (ws : List ℕ) (next : ℕ) (p : ListPassed text first out F ws next) where
  pub accepted_text : has_body F.regions ≡ true → Accepted F first
  accepted_text body = accepted_of F first body p.references p.tree p.counts p.control p.ids p.values

  -- with a body: phis are no constants
  with_body : has_body F.regions ≡ true → Fine F first (walk_of F) (kept (walk_of F))
  unfolding NoCon id_of
  with_body body = record {
    sound = sound F first acc body some_world;
    points_once = no_point_twice F first acc body;
    names_once = no_name_twice F first acc body;
    phis_fresh = all_gather Own (λ (x : CfgPoint × BlockLifting). x.1.keys) (walk_of F) (λ x i. owned x.1.keys (all_in _ (walk_of F) (keys_plain F first acc body) x i));
  }
    where
      acc : Accepted F first
      acc = accepted_text body

      Own : Value → Type 0
      Own = Fresh F first (walk_of F) (kept (walk_of F))

      own : (v : Value) → NoCon F first acc body v → Own v
      own (const n) h = absurd h
      own (region_input r i) h = refl
      own (node_output n i) h = refl
      own (data_inst_output i) h = refl

      owned : (vs : List Value) → All (NoCon F first acc body) vs → All Own vs
      owned [] h = tt
      owned (v ∷ vs) h = (own v h.0, owned vs h.1)

  -- without one
  without : Fine F first [] (kept [])
  unfolding kept absorb
  without =
      let refs = refers F p.references in
      let f = forest F refs p.tree in
      record {
        sound = record { numbered = numbers_fit F first refs p.ids; all_ok = tt };
        points_once = tt;
        names_once = IdsOnce.names_once F _ (tree_of F f.0) f.1 f.0 [] (λ r i. absurd (in_nil i)) tt;
        phis_fresh = tt;
      }

  pub every_fine : Fine F first (walk_of F) (kept (walk_of F))
  every_fine = of_walk F (λ (T : Table). Fine F first T (kept T)) with_body without
