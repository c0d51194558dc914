-- No list has more than `max_words` words, whatever the text, the first id and the slices lent; so refusal 11 needs an output slice of fewer.
-- Assumes nothing.
use Rattle.std.specs.Prelude.{◌≡◌, Bool, ℕ, suc, ◌+◌, ◌*◌, ◌≤◌, ◌<◌, leb, length}
use Rattle.std.proofs.Math.Path.{refl}
use Rattle.std.proofs.Common.{subst}
use Rattle.std.proofs.Math.Bool.{true, false}
use mathlib.Core.List.{List, [], ◌∷◌, ◌++◌}
use native.Mathlib.Omega.{arith}
use borrow.Author.Tests.{leb-false, leb-true}
use Rattle.lifting.specs.Ast.{Decl, Func}
use Rattle.lifting.specs.Parts.{decls, has_body, immediates, targets, values}
use Rattle.lifting.specs.Limits.{max_consts, max_decls, max_immediates, max_nodes, max_ops, max_params, max_regions, max_targets, max_values, within_limits}
use Rattle.lifting.specs.References.{references_hold}
use Rattle.lifting.specs.Tree.{is_tree}
use Rattle.lifting.specs.Counts.{counts_agree}
use Rattle.lifting.specs.Control.{control_fits}
use Rattle.lifting.specs.Points.{Table}
use Rattle.lifting.specs.Walk.{walk_of}
use Rattle.lifting.specs.Absorb.{kept}
use Rattle.lifting.specs.Instructions.{block_insts, end_inst, function_inst, instructions, list_of, param_inst, param_insts}
use Rattle.lifting.specs.Words.{words}
use Rattle.lifting.specs.Answer.{Answer, Parsed, answer, ids_fit, lifted, listed, parsed, refused, values_set, written}
use Rattle.general_laws.specs.Tests.{both}
use Rattle.lifting_runs.specs.Refers.{Refers, refers}
use Rattle.lifting_runs.specs.Shaped.{Shaped}
use Rattle.lifting_runs.proofs.Shaped.{shaped_checked}
use Rattle.lifting_blocks.specs.Totals.{total}
use Rattle.lifting_sizes.specs.Sums.{total_append}
use Rattle.lifting_sizes.specs.Weights.{head, imm_weight, lines_weight, max_words}
use Rattle.lifting_sizes.specs.BlockWeights.{inst_weight}
use Rattle.lifting_sizes.proofs.BlockWeights.{blocks_weight, length_inst, length_words}
use Rattle.lifting_sizes.proofs.Flow.{points_weight}
use Rattle.lifting_sizes.specs.Lines.{phi_lines, points_lines}
use Rattle.lifting_sizes.specs.Parsing.{by_parse, by_test, denial_other}
use Rattle.lifting_sizes.specs.Bound.{RoomEnough, imported_weight}

module _ (F : Func) (first : ℕ) where
  abbrev T : Table
  T = walk_of F

  abbrev K : Table
  K = kept (walk_of F)

  -- the list but for its blocks: function, parameters, end
  params_weight : (ds : List Decl) (i : ℕ) → total inst_weight (param_insts F first T K ds i) ≡ head * length ds
  unfolding param_insts param_inst
  params_weight [] i = refl
  params_weight (d ∷ ds) i = omega (arith, length_inst (param_inst F first T K d i), params_weight ds (suc i))

  list_weight : length (words (list_of F first)) ≡ ((head + imm_weight + 1) + head) + (head * length F.params + total inst_weight (block_insts F first T K K))
  unfolding list_of instructions function_inst
  list_weight = omega (
    arith,
    length_words (instructions F first T K),
    length_inst (function_inst F first T K),
    total_append inst_weight (param_insts F first T K F.params 0) (block_insts F first T K K ++ (end_inst F first T K ∷ [])),
    params_weight F.params 0,
    total_append inst_weight (block_insts F first T K K) (end_inst F first T K ∷ []),
    length_inst (end_inst F first T K),
  )

  -- the blocks of a text with a body
  body_weight : Shaped F → Refers F → total inst_weight (block_insts F first T K K) ≤ head * length (decls F) + lines_weight F
  body_weight ok named = omega (arith, blocks_weight F ok first, phi_lines F ok named, points_weight F ok, points_lines F ok named)

  -- the limits of refusal 3
  limits_weight : within_limits F ≡ true → ((head + imm_weight + 1) + head) + (head * length F.params + (head * length (decls F) + lines_weight F)) ≤ max_words
  unfolding within_limits
  limits_weight e =
      let i = both _ (leb (length (targets F)) max_targets) e in
      let h = both _ (leb (length (immediates F)) max_immediates) i.0 in
      let g = both _ (leb (length (decls F)) max_decls) h.0 in
      let f = both _ (leb (length (values F)) max_values) g.0 in
      let d = both _ (leb (length F.params) max_params) f.0 in
      let c = both _ (leb (length F.consts) max_consts) d.0 in
      let o = both _ (leb (length F.ops) max_ops) c.0 in
      let a = both (leb (length F.regions) max_regions) (leb (length F.nodes) max_nodes) o.0 in
      omega (
        arith,
        leb-true (length F.regions) max_regions a.0,
        leb-true (length F.nodes) max_nodes a.1,
        leb-true (length F.ops) max_ops o.1,
        leb-true (length F.params) max_params d.1,
        leb-true (length (values F)) max_values f.1,
        leb-true (length (decls F)) max_decls g.1,
        leb-true (length (immediates F)) max_immediates h.1,
        leb-true (length (targets F)) max_targets i.1,
      )

  -- a text that passes refusals 3 to 7
  pub text_bound : within_limits F ≡ true → references_hold F ≡ true → is_tree F ≡ true → counts_agree F ≡ true → control_fits F ≡ true → length (words (list_of F first)) ≤ max_words
  text_bound limits references tree counts control = by_body (has_body F.regions) refl
    where
      by_body : (b : Bool) → has_body F.regions ≡ b → length (words (list_of F first)) ≤ max_words
      by_body true e = omega (arith, list_weight, limits_weight limits, body_weight (shaped_checked F e references tree counts control) (refers F references))
      by_body false e = omega (arith, list_weight, limits_weight limits, imported_weight F first e)

-- What is claimed of an answer, with an output slice of so many words: its list is not too long, and it is no refusal 11 for want of room.
abbrev Bounded : ℕ → Answer → Type 0
Bounded out (listed ws next) = length ws ≤ max_words
Bounded out (refused n) = n ≡ 11 → out < max_words

module _ (first out : ℕ) where
  abbrev Claim : Parsed → Type 0
  Claim p = Bounded out (lifted p first out)

  listed_bounded : (F : Func) → length (words (list_of F first)) ≤ max_words → Claim (parsed F)
  unfolding lifted written
  listed_bounded F h =
      by_test (Bounded out) (ids_fit F first) (refused 9) _ (λ e z. absurd (omega arith)) (λ i.
      by_test (Bounded out) (values_set F) (refused 10) _ (λ e z. absurd (omega arith)) (λ v.
      by_test (Bounded out) (leb (length (words (list_of F first))) out) (refused 11) _ (λ e z. omega (arith, leb-false (length (words (list_of F first))) out e)) (λ r. h)))

bounded : (text : List ℕ) (first func work out : ℕ) → Bounded out (answer text first func work out)
unfolding answer lifted
bounded text first func work out =
    by_parse (Claim first out) (λ n h e. absurd (denial_other n h e))
    (λ F limits references tree counts control differ. listed_bounded first out F (text_bound F first limits references tree counts control)) text func work

-- No list is longer.
pub list_bound : (text : List ℕ) (first func work out : ℕ) (ws : List ℕ) (next : ℕ) → answer text first func work out ≡ listed ws next → length ws ≤ max_words
list_bound text first func work out ws next e = subst (Bounded out) e (bounded text first func work out)

-- A caller that lends as many words never meets refusal 11.
pub room_enough : RoomEnough
room_enough text first func work out h e = omega (arith, subst (Bounded out) e (bounded text first func work out) refl)

pub evaluated : max_words ≡ 23184
evaluated = refl
