-- Demand 2 about the list that is written, for every accepted text, imported functions too: new ids run from the first id to one below the next
-- free id, none twice; every id in the list is below that one, which is 4,194,303 at most; a phi has one pair for each kept block with an edge to
-- it, holding that edge's value; the exit of a case whose last node is an exit stands in no kept block. No hypothesis beyond the answer. What is
-- claimed of single instructions, labels and control numbers, stands in `proofs/Demand2`. Assumes nothing.
use Rattle.std.specs.Prelude.{◌≡◌, true, ℕ, suc, ◌≤◌, ◌<◌, get_or}
use Rattle.std.proofs.Math.Path.{refl, ap, subst}
use Rattle.std.proofs.Common.{sym, ◌∙◌, arith}
use mathlib.Core.List.{List}
use Rattle.std.proofs.Math.Option.{some}
use Rattle.std.proofs.Math.ListN.{length}
use Rattle.lifting.specs.Ast.{Decl, Func, SelectionKind, Value, select}
use Rattle.lifting.specs.Grammar.{read}
use Rattle.lifting.specs.Parts.{has_body, node_of, region_of}
use Rattle.lifting.specs.Limits.{highest_id}
use Rattle.lifting.specs.Counts.{ends_in_exit}
use Rattle.lifting.specs.Points.{Table, region_exit}
use Rattle.lifting.specs.Walk.{walk_of}
use Rattle.lifting.specs.Absorb.{absorb, kept, use_count}
use Rattle.lifting.specs.Ids.{next_id, phi_keys}
use Rattle.lifting.specs.Instructions.{Instruction, list_of}
use Rattle.lifting.specs.Words.{list_from}
use Rattle.lifting.specs.BlockRun.{parts, phis_of}
use Rattle.lifting.specs.Answer.{answer, listed}
use Rattle.general_laws.specs.Members.{All, In}
use Rattle.lifting_runs.specs.Listing.{blocks_for, emit_blocks}
use Rattle.lifting_runs.specs.EmitRun.{all_free}
use Rattle.lifting_runs.specs.Fits.{first_fits_law}
use Rattle.lifting_runs.specs.Passes.{answer_passes}
use Rattle.lifting_runs.specs.Shaped.{Shaped}
use Rattle.lifting_runs.proofs.Shaped.{shaped_accepted}
use Rattle.lifting_runs.specs.ListIds.{RunOn, given_ids}
use Rattle.lifting_runs.proofs.ListIds.{ids_run_on}
use Rattle.lifting_runs.specs.ListPhis.{PhiPairs, phi_ids}
use Rattle.lifting_runs.proofs.ListPhis.{phi_pairs_of}
use Rattle.lifting_runs.proofs.EveryText.{of_walk}
use Rattle.lifting_runs.proofs.Demand3.{accepted, fine, list_is, passed}
use Rattle.lifting_blocks.specs.Below.{IdsBelow, list_low}
use Rattle.lifting_blocks.specs.Phis.{phi_keys_kept}
use Rattle.lifting_blocks.specs.Flat.{gone, no_pair, status_at}
use Rattle.lifting_blocks.specs.Standing.{case_exit_gone}
use Rattle.lifting_blocks.specs.NeverDecides.{by_count_alone, kept_by_count}

module _ (text : List ℕ) (first func work out : ℕ) (ws : List ℕ) (next : ℕ) (ok : answer text first func work out ≡ listed ws next)
    (F : Func) (is : read text ≡ some F) where
  pub shaped : has_body F.regions ≡ true → Shaped F
  shaped body = shaped_accepted F first (accepted text first func work out ws next ok F is body) body

  abbrev T : Table
  T = walk_of F

  abbrev K : Table
  K = kept (walk_of F)

  -- the blocks of the list
  abbrev bs : List (ℕ × List Instruction)
  bs = (parts (list_from ws)).blocks

  blocks_are : bs ≡ blocks_for F first T K K
  unfolding list_of
  blocks_are =
      let s = (fine text first func work out ws next ok F is).sound in
      ap (λ (l : List Instruction). (parts l).blocks) (list_is text first func work out ws next ok F is) ∙ emit_blocks F first T K (all_free F first T K s K s.all_ok)

  -- The phis of each block (l, body) of the list: one pair for each block whose way out names l, and no other, with that edge's value.
  pub list_phis : (l : ℕ) (body : List Instruction) → In (l, body) bs → (j : ℕ) → j < length (phis_of body) → PhiPairs F first T K bs l j (phi_ids body j)
  list_phis =
      let f = fine text first func work out ws next ok F is in
      subst (λ (xs : List (ℕ × List Instruction)). (l : ℕ) (body : List Instruction) → In (l, body) xs → (j : ℕ) → j < length (phis_of body) → PhiPairs F first T K xs l j (phi_ids body j))
      (sym blocks_are) (phi_pairs_of F first T K f.sound f.points_once)

  -- Document 02, W2: the exit of a case whose last node is an exit stands in no kept block, so phis take no pair from it.
  pub exit_of_case_gone : (n c : ℕ) {k : SelectionKind} {v : Value} {cs : List ℕ} {ds : List Decl} {u : ℕ} → node_of F n ≡ select k v cs ds u → In c cs → ends_in_exit F (region_of F c).nodes ≡ true
      → (i : ℕ) → i < length (walk_of F) → (get_or (walk_of F) i no_pair).0 ≡ region_exit c → status_at (use_count (walk_of F)) (walk_of F) i ≡ gone
  exit_of_case_gone n c e j en = of_walk F (λ (U : Table). (i : ℕ) → i < length U → (get_or U i no_pair).0 ≡ region_exit c → status_at (use_count U) U i ≡ gone)
      (λ body. case_exit_gone F (shaped body) n c e j en) (λ i h. absurd (omega arith))

  -- the test that an absorbed target has no phis never decides
  pub absorbed_by_count : kept_by_count (walk_of F) ≡ kept (walk_of F)
  unfolding kept absorb kept_by_count
  absorbed_by_count = of_walk F (λ (U : Table). kept_by_count U ≡ kept U) (λ body. by_count_alone F (shaped body)) refl

  ids_of : RunOn first next (given_ids (list_from ws))
  unfolding list_of kept absorb
  ids_of =
      let f = fine text first func work out ws next ok F is in
      let p = passed text first func work out ws next ok F is in
      let phis = of_walk F (λ (U : Table). phi_keys (kept U) ≡ phi_keys U) (λ body. phi_keys_kept F (shaped body)) refl in
      subst (RunOn first next) (ap given_ids (sym (list_is text first func work out ws next ok F is)))
      (subst (λ (n : ℕ). RunOn first n (given_ids (list_of F first))) (sym p.next_is) (ids_run_on F first T K f.sound phis f.names_once f.phis_fresh))

-- The ids that the list's instructions give: each id from the first to one below the next free id, and no other, none twice.
pub list_ids : (text : List ℕ) (first func work out : ℕ) (ws : List ℕ) (next : ℕ) → answer text first func work out ≡ listed ws next → RunOn first next (given_ids (list_from ws))
list_ids text first func work out ws next ok =
    let w = answer_passes text first func work out ws next ok in
    ids_of text first func work out ws next ok w.0 w.1.text_is

-- Document 02, W3: the highest id given is 4,194,302, so the next free id, a module's bound, is at most one more; every id in the list, the text's
-- and new ones, lies below it.
pub list_below : (text : List ℕ) (first func work out : ℕ) (ws : List ℕ) (next : ℕ) → answer text first func work out ≡ listed ws next
    → (next ≤ suc highest_id) × All (IdsBelow next) (list_from ws)
list_below text first func work out ws next ok =
    let w = answer_passes text first func work out ws next ok in
    let F : Func = w.0 in
    let f = first_fits_law F first w.1.ids in
    let low = list_low F first f.positive f.under in (
      subst (λ (n : ℕ). n ≤ suc highest_id) (sym w.1.next_is) f.highest,
      subst (λ (n : ℕ). All (IdsBelow n) (list_from ws)) (sym w.1.next_is)
          (subst (All (IdsBelow (next_id F first (walk_of F) (kept (walk_of F))))) (sym (list_is text first func work out ws next ok F w.1.text_is)) low),
    )
