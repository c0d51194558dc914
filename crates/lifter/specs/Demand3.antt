-- Demands 2 and 3 about the words that stand in the output slice after an accepted call: running the regions of the text and running the blocks of
-- that list are alike in every world, and neither run is ever stuck; the list gives each new id once, and every id in it is below the next free one;
-- each phi has one pair for each block whose way out names its block; the two labels of a 250 differ; each merge carries its own node's control
-- number, on which neither run depends. The hypotheses are what `lift_function` promises, that it told a word count, for the runs that the text has
-- a body, and for their being alike that constants of opcode 41 are true. Assumes nothing.
use Rattle.std.specs.Prelude.{◌≡◌, true, List, ℕ, suc, ◌≤◌, ◌<◌, drop, length, take, Ok}
use Rattle.std.proofs.Common.{sym, ap, subst, ◌∙◌, arith, length-append}
use Rattle.std.proofs.Math.Option.{some}
use Rattle.std.proofs.Math.Seq.{take-append_seam}
use Rattle.lifting.specs.Ast.{Func}
use Rattle.lifting.specs.Grammar.{read}
use Rattle.lifting.specs.Parts.{has_body}
use Rattle.lifting.specs.Limits.{highest_id}
use Rattle.lifting.specs.Walk.{walk_of}
use Rattle.lifting.specs.Absorb.{kept}
use Rattle.lifting.specs.Ids.{label_of}
use Rattle.lifting.specs.Instructions.{Instruction}
use Rattle.lifting.specs.Words.{list_from}
use Rattle.lifting.specs.Answer.{Answer, answer, listed, out_after, refused}
use Rattle.lifting.specs.Machine.{Ends}
use Rattle.lifting.specs.World.{Executed, World, stuck}
use Rattle.lifting.specs.RegionRun.{region_log, region_start, region_step}
use Rattle.lifting.specs.BlockRun.{block_log, block_start, block_step, parts, phis_of}
use Rattle.lifting.specs.Runs.{AlikeRuns, TrueConstants}
use Rattle.general_laws.specs.Members.{All, In}
use Rattle.lifting_runs.specs.ListIds.{RunOn, given_ids}
use Rattle.lifting_runs.specs.ListPhis.{PhiPairs, phi_ids}
use Rattle.lifting_runs.proofs.Demand3.{demand_3, never_stuck}
use Rattle.lifting_runs.specs.Controls.{SameButControls}
use Rattle.lifting_runs.proofs.Controls.{regions_of_another}
use Rattle.lifting_blocks.specs.Below.{IdsBelow}
use Rattle.lifting_blocks.specs.Labels.{LabelsDiffer}
use Rattle.lifting_blocks.specs.Merges.{OwnControl}
use Rattle.lifting_blocks.specs.Demand2.{list_below, list_ids, list_phis}
use Rattle.lifting_blocks.proofs.Demand2.{list_controls, list_labels}
use Rattle.emit_output.specs.Emit.{gives, outcome, told}

-- an answer that gives n words is their list
list_of : (a : Answer) (n next : ℕ) → gives n next ≡ outcome a → (ws : List ℕ) × (a ≡ listed ws next) × (n ≡ length ws)
list_of (listed ws k) n next e =
    let en : n ≡ length ws = cc in
    let ek : next ≡ k = cc in
    (ws, ap (listed ws) (sym ek), en)
list_of (refused k) n next e = absurd (let z : ◌≡◌ {A = ℕ} 0 1 = cc in omega arith)

module _ (text func work out exit : List ℕ) (first n next : ℕ) where
  abbrev given : Answer
  given = answer text first (length func) (length work) (length out)

  module _ (says : told (Ok (record { words = n; next = next })) ≡ outcome given) (stands : exit ≡ out_after given out) where
    -- the first n words of the output slice are the list's
    pub written_list : (ws : List ℕ) × (given ≡ listed ws next) × (take n exit ≡ ws)
    written_list =
        let l = list_of given n next says in
        let ws : List ℕ = l.0 in
        (ws, l.1, ap (λ (k : ℕ). take k exit) l.2 ∙ ap (take (length ws)) (stands ∙ ap (λ (a : Answer). out_after a out) l.1) ∙ take-append_seam ws (drop (length ws) out))

    pub written_low : n ≤ length exit
    written_low =
        let l = list_of given n next says in
        omega (arith, l.2, ap length (stands ∙ ap (λ (a : Answer). out_after a out) l.1), length-append l.0 (drop (length l.0) out))

    pub lifted_runs : (F : Func) → read text ≡ some F → has_body F.regions ≡ true → {Val : Type 0} (W : World Val) → TrueConstants F W → AlikeRuns F (list_from (take n exit)) W
    lifted_runs F is body W true41 =
        let l = written_list in
        subst (λ (ws : List ℕ). AlikeRuns F (list_from ws) W) (sym l.2)
        (demand_3 text first (length func) (length work) (length out) l.0 next l.1 F is body W true41)

    -- the ids that the list gives: each from the first to one below the next free one, none twice
    pub lifted_ids : RunOn first next (given_ids (list_from (take n exit)))
    lifted_ids =
        let l = written_list in
        subst (λ (ws : List ℕ). RunOn first next (given_ids (list_from ws))) (sym l.2)
        (list_ids text first (length func) (length work) (length out) l.0 next l.1)

    -- the next free id is 4,194,303 at most, and every id in the list lies below it (document 02, W3)
    pub lifted_below : (next ≤ suc highest_id) × All (IdsBelow next) (list_from (take n exit))
    lifted_below =
        let l = written_list in
        subst (λ (ws : List ℕ). (next ≤ suc highest_id) × All (IdsBelow next) (list_from ws)) (sym l.2)
        (list_below text first (length func) (length work) (length out) l.0 next l.1)

    -- no conditional branch of the list names one label twice (document 02, W7)
    pub lifted_labels : All LabelsDiffer (list_from (take n exit))
    lifted_labels =
        let l = written_list in
        subst (λ (ws : List ℕ). All LabelsDiffer (list_from ws)) (sym l.2) (list_labels text first (length func) (length work) (length out) l.0 next l.1)

    -- phi j of block k: one pair for each block of the list whose way out names k, and no other, with that edge's value
    pub lifted_phis : (F : Func) → read text ≡ some F → (k : ℕ) (body : List Instruction) → In (k, body) (parts (list_from (take n exit))).blocks
        → (j : ℕ) → j < length (phis_of body) → PhiPairs F first (walk_of F) (kept (walk_of F)) (parts (list_from (take n exit))).blocks k j (phi_ids body j)
    lifted_phis F is =
        let l = written_list in
        subst (λ (ws : List ℕ). (k : ℕ) (body : List Instruction) → In (k, body) (parts (list_from ws)).blocks
        → (j : ℕ) → j < length (phis_of body) → PhiPairs F first (walk_of F) (kept (walk_of F)) (parts (list_from ws)).blocks k j (phi_ids body j)) (sym l.2)
        (list_phis text first (length func) (length work) (length out) l.0 next l.1 F is)

    -- each merge names the exit of a select or a loop and carries that node's control number (document 02, W4)
    pub lifted_controls : (F : Func) → read text ≡ some F → All (OwnControl F (label_of F first (walk_of F) (kept (walk_of F)))) (list_from (take n exit))
    lifted_controls F is =
        let l = written_list in
        subst (λ (ws : List ℕ). All (OwnControl F (label_of F first (walk_of F) (kept (walk_of F)))) (list_from ws)) (sym l.2)
        (list_controls text first (length func) (length work) (length out) l.0 next l.1 F is)

    -- and the blocks run as the regions do of any function that differs from the text in control numbers only
    pub lifted_runs_another : (F : Func) → read text ≡ some F → has_body F.regions ≡ true → (G : Func) → SameButControls F G → {Val : Type 0} (W : World Val) → TrueConstants G W
        → AlikeRuns G (list_from (take n exit)) W
    lifted_runs_another F is body G same W true41 =
        let l = written_list in
        subst (λ (ws : List ℕ). AlikeRuns G (list_from ws) W) (sym l.2)
        (regions_of_another text first (length func) (length work) (length out) l.0 next l.1 F is body G same W true41)

    -- neither run is ever stuck
    pub lifted_goes_on : (F : Func) → read text ≡ some F → has_body F.regions ≡ true → {Val : Type 0} (W : World Val) (l : List (Executed Val))
        → (Ends (region_step F W) (region_log F W) (region_start F W) stuck l → ⊥)
        × (Ends (block_step W (parts (list_from (take n exit))).blocks) (block_log W (parts (list_from (take n exit))).blocks)
        (block_start W F.consts (list_from (take n exit))) stuck l → ⊥)
    lifted_goes_on F is body W l =
        let w = written_list in
        subst (λ (ws : List ℕ). (Ends (region_step F W) (region_log F W) (region_start F W) stuck l → ⊥)
        × (Ends (block_step W (parts (list_from ws)).blocks) (block_log W (parts (list_from ws)).blocks) (block_start W F.consts (list_from ws)) stuck l → ⊥)) (sym w.2)
        (never_stuck text first (length func) (length work) (length out) w.0 next w.1 F is body W l)
