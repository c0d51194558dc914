-- Demand 3, whole, about the words that are written: for every accepted text with a body and every world, running the regions and running the
-- blocks of the list reach the same lists of executed instructions, and one ends exactly if the other does, alike; neither is ever stuck.
-- And demand 2's claims about the tables of every accepted text, imported ones too: new ids run on without repeats, and each phi has one pair
-- for each kept block with an edge to its block. `flat/Demand2` says them of the list.
-- No hypothesis beyond the answer: what the runs need follows from the refusals' own tests (`accepted_of`). Assumes nothing.
use Rattle.std.specs.Prelude.{◌≡◌, true, List, ℕ, ◌+◌, ◌<◌, length, get_or}
use Rattle.std.proofs.Math.Path.{sym}
use Rattle.std.proofs.Common.{ap, ◌∙◌, subst}
use Rattle.std.proofs.Math.Option.{some, some-injective}
use Rattle.lifting.specs.Ast.{Func}
use Rattle.lifting.specs.Grammar.{read}
use Rattle.lifting.specs.Parts.{has_body}
use Rattle.lifting.specs.Points.{CfgPoint, Table}
use Rattle.lifting.specs.Walk.{walk_of}
use Rattle.lifting.specs.Absorb.{kept}
use Rattle.lifting.specs.Ids.{names, new_id, next_id, the_function}
use Rattle.lifting.specs.Instructions.{Instruction, list_of, pairs}
use Rattle.lifting.specs.Words.{list_from_law, list_from}
use Rattle.lifting.specs.Answer.{answer, listed}
use Rattle.lifting.specs.Machine.{Ends}
use Rattle.lifting.specs.World.{Executed, World, stuck}
use Rattle.lifting.specs.RegionRun.{region_log, region_start, region_step}
use Rattle.lifting.specs.BlockRun.{block_log, block_start, block_step, parts}
use Rattle.lifting.specs.Runs.{AlikeRuns, TrueConstants}
use Rattle.general_laws.specs.Members.{NoDup}
use Rattle.lifting_runs.specs.Accepted.{Accepted}
use Rattle.lifting_runs.specs.Stuck.{regions_go_on}
use Rattle.lifting_runs.proofs.AcceptedRuns.{accepted_alike, blocks_go_on}
use Rattle.lifting_runs.specs.IdsOnce.{number_at}
use Rattle.lifting_runs.specs.Pairs.{OnePairEach, one_pair_each}
use Rattle.lifting_runs.specs.Passes.{ListPassed, answer_passes}
use Rattle.lifting_runs.proofs.EveryText.{Fine, accepted_text, every_fine}

module _ (text : List ℕ) (first func work out : ℕ) (ws : List ℕ) (next : ℕ) (ok : answer text first func work out ≡ listed ws next)
    (F : Func) (is : read text ≡ some F) where
  pub passed : ListPassed text first out F ws next
  passed = let w = answer_passes text first func work out ws next ok in
      subst (λ (G : Func). ListPassed text first out G ws next) (some-injective w.0 F (sym w.1.text_is ∙ is)) w.1

  pub list_is : list_from ws ≡ list_of F first
  list_is = ap list_from passed.words_are ∙ list_from_law (list_of F first)

  module _ (body : has_body F.regions ≡ true) where
    pub accepted : Accepted F first
    accepted = accepted_text F first text out ws next passed body

    pub demand_3 : {Val : Type 0} (W : World Val) → TrueConstants F W → AlikeRuns F (list_from ws) W
    demand_3 W true41 = subst (λ (l : List Instruction). AlikeRuns F l W) (sym list_is) (accepted_alike F first accepted body W true41)

    -- neither run is ever stuck, whatever the values of constants
    pub never_stuck : {Val : Type 0} (W : World Val) (l : List (Executed Val))
        → (Ends (region_step F W) (region_log F W) (region_start F W) stuck l → ⊥)
        × (Ends (block_step W (parts (list_from ws)).blocks) (block_log W (parts (list_from ws)).blocks) (block_start W F.consts (list_from ws)) stuck l → ⊥)
    never_stuck W l = (regions_go_on F W l, rw list_is (blocks_go_on F first accepted body W l))

  abbrev T : Table
  T = walk_of F

  abbrev K : Table
  K = kept (walk_of F)

  pub fine : Fine F first (walk_of F) (kept (walk_of F))
  fine = every_fine F first text out ws next passed

  -- new ids run from the first id to the next free id less one, in the order of the names, and no name stands twice
  pub new_ids : NoDup (names F T K) × ((k : ℕ) → k < length (names F T K) → new_id F first T K (get_or (names F T K) k the_function) ≡ first + k) × (first + length (names F T K) ≡ next)
  unfolding new_id next_id
  new_ids = (fine.names_once, λ k h. number_at (names F T K) fine.names_once first k the_function h, sym passed.next_is)

  -- phi j of the kept block at q
  pub phi_pairs_law : (q : CfgPoint) (j : ℕ) → OnePairEach F first T K q j (pairs F first T K K q j)
  phi_pairs_law q j = one_pair_each F first T K fine.sound fine.points_once q j
