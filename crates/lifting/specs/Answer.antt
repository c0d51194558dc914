-- Document 01, 'When there is no list' and 'The instruction list': the answer to every text, first id and set of lent slices, and what the
-- slices hold at the end. Each refusal is judged over the whole text before the next: 8, 1 to 7, 13, 9, 10, 11. Assumes nothing.
use Rattle.std.specs.Prelude.{Bool, true, false, ◌&&◌, ◌||◌, List, ◌++◌, ℕ, suc, leb, ltb, eqb, length, drop, replicate}
use Rattle.std.proofs.Math.Option.{Option, none, some}
use Rattle.std.proofs.Math.Decide.{ℕ_discrete}
use Rattle.refusals.specs.declared.Refusal.TheVariants.{Long, Forms, Limits, References, Tree, Counts, Control, Scratch, Ids, Values, Output, Targets}
use Rattle.refusals.specs.Numbers.{refusal_number}
use Rattle.general_laws.specs.Lists.{every, gather, member}
use Rattle.lifting.specs.Ast.{Value, const, region_input, node_output, data_inst_output, eq_value, Func}
use Rattle.lifting.specs.Grammar.{read}
use Rattle.lifting.specs.Parts.{op_of, ids}
use Rattle.lifting.specs.Limits.{max_bytes, func_words, work_words, highest_id, within_limits}
use Rattle.lifting.specs.References.{references_hold}
use Rattle.lifting.specs.Tree.{is_tree}
use Rattle.lifting.specs.Counts.{counts_agree}
use Rattle.lifting.specs.Control.{control_fits, targets_differ}
use Rattle.lifting.specs.Points.{BlockLifting, Table, edge_of}
use Rattle.lifting.specs.Walk.{walk_of}
use Rattle.lifting.specs.Absorb.{kept}
use Rattle.lifting.specs.Ids.{new_values, next_id}
use Rattle.lifting.specs.Instructions.{list_of}
use Rattle.lifting.specs.Words.{words}

-- 8, 1 to 7 and 13: the parsed function, or the number of the first refusal
pub data Parsed : Type 0 where
  parsed : Func → Parsed
  denied : ℕ → Parsed

-- 3 to 7 and 13, each over the whole text
unfoldable pub checked : Func → Parsed
unfolding within_limits references_hold is_tree counts_agree control_fits targets_differ
checked F =
    elim (within_limits F) [
      | false ↦ denied (refusal_number Limits)
      | true ↦ elim (references_hold F) [
        | false ↦ denied (refusal_number References)
        | true ↦ elim (is_tree F) [
          | false ↦ denied (refusal_number Tree)
          | true ↦ elim (counts_agree F) [
            | false ↦ denied (refusal_number Counts)
            | true ↦ elim (control_fits F) [ false ↦ denied (refusal_number Control) | true ↦ elim (targets_differ F) [ false ↦ denied (refusal_number Targets) | true ↦ parsed F ] ]
          ]
        ]
      ]
    ]

-- 2 the text is not of the forms (the empty text too)
unfoldable pub formed : Option Func → Parsed
unfolding checked
formed none = denied (refusal_number Forms)
formed (some F) = checked F

-- 8 a scratch slice under 16,384 words, then 1 text over 32,768 bytes: the text, and the lengths of the function slice and the work slice
unfoldable pub parse : List ℕ → ℕ → ℕ → Parsed
unfolding read formed
parse text func work =
    elim (leb func_words func && leb work_words work) [
      | false ↦ denied (refusal_number Scratch)
      | true ↦ elim (leb (length text) max_bytes) [ false ↦ denied (refusal_number Long) | true ↦ formed (read text) ]
    ]

-- 9 the first id is 0 or not above every id in the text, or an id over 4,194,302 would be given (document 02, W3)
unfoldable pub ids_fit : Func → ℕ → Bool
unfolding ids next_id walk_of kept
ids_fit F first = ltb 0 first && every (λ x. ltb x first) (ids F) && leb (next_id F first (walk_of F) (kept (walk_of F))) (suc highest_id)

-- 10 a kept instruction uses a value that no kept block sets and that is neither a constant nor a parameter
abbrev pub is_const : Value → Bool
is_const (const n) = true
is_const (region_input r i) = false
is_const (node_output n i) = false
is_const (data_inst_output i) = false

-- parameters, and what the kept blocks set: phis and results of ops
abbrev pub set_values : Func → Table → List Value
set_values F K = new_values F K K

abbrev pub is_set : Func → Table → Value → Bool
is_set F K v = is_const v || member eq_value v (set_values F K)

-- operands of ops, inputs of ways out, and the values along edges, which the targets' phis hold
abbrev pub block_uses : Func → Table → BlockLifting → List Value
block_uses F K b = gather (λ i. (op_of F i).operands) b.ops ++ (b.term.ins ++ gather (λ q. edge_of K b.term q) b.term.targets)

abbrev pub used_values : Func → Table → List Value
used_values F K = gather (λ x. block_uses F K x.1) K

unfoldable pub values_set : Func → Bool
unfolding walk_of kept eq_value ℕ_discrete
values_set F = let K = kept (walk_of F) in every (is_set F K) (used_values F K)

-- An accepted call gives the words of the list, as many as they are, and the next free id; any other, the refusal's number.
pub data Answer : Type 0 where
  listed : List ℕ → ℕ → Answer
  refused : ℕ → Answer

-- 11 the output slice is shorter than the list
unfoldable pub written : List ℕ → ℕ → ℕ → Answer
written ws next out = elim (leb (length ws) out) [ false ↦ refused (refusal_number Output) | true ↦ listed ws next ]

unfoldable pub lifted : Parsed → ℕ → ℕ → Answer
unfolding ids_fit values_set written words list_of next_id walk_of kept
lifted (denied n) first out = refused n
lifted (parsed F) first out =
    elim (ids_fit F first) [
      | false ↦ refused (refusal_number Ids)
      | true ↦ elim (values_set F) [
        | false ↦ refused (refusal_number Values)
        | true ↦ written (words (list_of F first)) (next_id F first (walk_of F) (kept (walk_of F))) out
      ]
    ]

-- the text's bytes, the first id, and the lengths of the function slice, the work slice and the output slice
unfoldable pub answer : List ℕ → ℕ → ℕ → ℕ → ℕ → Answer
unfolding parse lifted
answer text first func work out = lifted (parse text func work) first out

-- Both scratch slices end as zeros, except after 8, when they keep their words.
abbrev pub zeros_unless8 : Bool → List ℕ → List ℕ
zeros_unless8 true ws = ws
zeros_unless8 false ws = replicate (length ws) 0

abbrev pub scratch_after : Answer → List ℕ → List ℕ
scratch_after (listed ws next) scratch = replicate (length scratch) 0
scratch_after (refused n) scratch = zeros_unless8 (eqb n (refusal_number Scratch)) scratch

-- Output beyond the list keeps its words; a refusal leaves the output slice alone.
abbrev pub out_after : Answer → List ℕ → List ℕ
out_after (listed ws next) out = ws ++ drop (length ws) out
out_after (refused n) out = out
