-- Demand 2 about single instructions of the list that is written, for every accepted text, imported functions too: the two labels of a 250 differ;
-- each merge carries the control number of the node whose exit it names, none is lost, and nothing else of the list depends on these numbers. No
-- hypothesis beyond the answer. Assumes nothing.
use Rattle.std.specs.Prelude.{◌≡◌, ℕ, ◌<◌, get_or}
use Rattle.std.proofs.Math.Path.{ap, subst}
use Rattle.std.proofs.Common.{sym, ◌∙◌, arith}
use mathlib.Core.List.{List, map}
use Rattle.std.proofs.Math.Option.{some}
use Rattle.std.proofs.Math.ListN.{length}
use Rattle.lifting.specs.Ast.{Func}
use Rattle.lifting.specs.Grammar.{read}
use Rattle.lifting.specs.Points.{Table}
use Rattle.lifting.specs.Walk.{walk_of}
use Rattle.lifting.specs.Absorb.{kept, use_count}
use Rattle.lifting.specs.Ids.{label_of, next_id}
use Rattle.lifting.specs.Instructions.{Instruction, instructions, list_of, merge_insts}
use Rattle.lifting.specs.Words.{list_from}
use Rattle.lifting.specs.Answer.{answer, listed}
use Rattle.general_laws.specs.Members.{All, In}
use Rattle.lifting_runs.specs.Refers.{refers}
use Rattle.lifting_runs.specs.Passes.{answer_passes}
use Rattle.lifting_runs.proofs.EveryText.{of_walk}
use Rattle.lifting_runs.proofs.Demand3.{fine, list_is, passed}
use Rattle.lifting_runs.specs.Controls.{SameButControls, controls_cleared}
use Rattle.lifting_blocks.specs.Labels.{LabelsDiffer}
use Rattle.lifting_blocks.proofs.Labels.{kept_parted, list_apart}
use Rattle.lifting_blocks.specs.Merges.{OwnControl}
use Rattle.lifting_blocks.proofs.Merges.{kept_own, list_own}
use Rattle.lifting_blocks.specs.Merges.{merge_stays}
use Rattle.lifting_blocks.specs.Cleared.{cleared_inst}
use Rattle.lifting_blocks.proofs.Cleared.{list_of_cleared, next_of_cleared}
use Rattle.lifting_blocks.specs.Flat.{gone, no_pair, status_at}
use Rattle.lifting_blocks.specs.Demand2.{shaped}

module _ (text : List ℕ) (first func work out : ℕ) (ws : List ℕ) (next : ℕ) (ok : answer text first func work out ≡ listed ws next)
    (F : Func) (is : read text ≡ some F) where
  abbrev T : Table
  T = walk_of F

  abbrev K : Table
  K = kept (walk_of F)

  -- Document 02, W4: each merge of the list names the exit of a select or a loop of the text and carries that node's control number, 0, 1 or 2.
  pub list_controls : All (OwnControl F (label_of F first T K)) (list_from ws)
  unfolding list_of
  list_controls =
      subst (All (OwnControl F (label_of F first T K))) (sym (list_is text first func work out ws next ok F is))
      (list_own F first T K (refers F (passed text first func work out ws next ok F is).references) (fine text first func work out ws next ok F is).sound (kept_own F))

  -- And none is lost: the merge of each visited point that stands in a kept block is in the list. A point whose way out has a merge absorbs nothing.
  pub merges_stay : (i : ℕ) → i < length (walk_of F) → ¬ (status_at (use_count (walk_of F)) (walk_of F) i ≡ gone) → (j : Instruction)
      → In j (merge_insts F first (walk_of F) (kept (walk_of F)) (get_or (walk_of F) i no_pair).1.term.merge) → In j (list_from ws)
  unfolding list_of
  merges_stay i h n j m =
      subst (In j) (sym (list_is text first func work out ws next ok F is))
      (of_walk F (λ (U : Table). (i : ℕ) → i < length U → ¬ (status_at (use_count U) U i ≡ gone) → (j : Instruction) → In j (merge_insts F first U (kept U) (get_or U i no_pair).1.term.merge)
      → In j (instructions F first U (kept U))) (λ body. merge_stays F (shaped text first func work out ws next ok F is body) first) (λ i h. absurd (omega arith)) i h n j m)

  -- The Rust writes 0 there: with that word cleared the list is that of the function with 0 for each control number, and the next free id is the same.
  pub list_cleared : map cleared_inst (list_from ws) ≡ list_of (controls_cleared F) first
  list_cleared =
      ap (map cleared_inst) (list_is text first func work out ws next ok F is) ∙ sym (list_of_cleared F first (fine text first func work out ws next ok F is).sound)

  pub next_cleared : next ≡ next_id (controls_cleared F) first (walk_of (controls_cleared F)) (kept (walk_of (controls_cleared F)))
  next_cleared = (passed text first func work out ws next ok F is).next_is ∙ sym (next_of_cleared F first)

-- Document 02, W4: two texts that differ in control numbers only, lifted with one first id: their lists differ in these words of merges only, and the
-- next free id is the same.
pub same_lists : (text : List ℕ) (first func work out : ℕ) (ws : List ℕ) (next : ℕ) → answer text first func work out ≡ listed ws next → (F : Func) → read text ≡ some F
    → (text2 : List ℕ) (func2 work2 out2 : ℕ) (ws2 : List ℕ) (next2 : ℕ) → answer text2 first func2 work2 out2 ≡ listed ws2 next2 → (G : Func) → read text2 ≡ some G
    → SameButControls F G → (map cleared_inst (list_from ws) ≡ map cleared_inst (list_from ws2)) × (next ≡ next2)
same_lists text first func work out ws next ok F is text2 func2 work2 out2 ws2 next2 ok2 G is2 same = (
  list_cleared text first func work out ws next ok F is ∙ ap (λ (H : Func). list_of H first) same ∙ sym (list_cleared text2 first func2 work2 out2 ws2 next2 ok2 G is2),
  next_cleared text first func work out ws next ok F is ∙ ap (λ (H : Func). next_id H first (walk_of H) (kept (walk_of H))) same ∙ sym (next_cleared text2 first func2 work2 out2 ws2 next2 ok2 G is2),
)

-- Document 02, W7: no conditional branch of the list names one label twice, whatever it comes from: a ctrl line, a select, a loop's way back.
pub list_labels : (text : List ℕ) (first func work out : ℕ) (ws : List ℕ) (next : ℕ) → answer text first func work out ≡ listed ws next → All LabelsDiffer (list_from ws)
unfolding list_of
list_labels text first func work out ws next ok =
    let w = answer_passes text first func work out ws next ok in
    let F : Func = w.0 in
    let p = w.1 in
    subst (All LabelsDiffer) (sym (list_is text first func work out ws next ok F p.text_is))
    (list_apart F first (walk_of F) (kept (walk_of F)) (fine text first func work out ws next ok F p.text_is).sound (kept_parted F p.references p.tree p.control p.differ))
