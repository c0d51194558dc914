-- Document 02, W4: the control number of a select or a loop travels in the node and block records, also through absorption, and becomes the merge's
-- immediate. Each merge of the list is that of a node of the text: it names that node's exit and carries that node's control number, which is 0, 1 or
-- 2. Assumes nothing.
--     kept_own       of the kept blocks
--     list_own       of the list
use Rattle.std.specs.Prelude.{◌≡◌, ◌||◌, ℕ, ◌≤◌, eqb}
use Rattle.std.proofs.Math.Path.{refl, ap, subst}
use Rattle.std.proofs.Common.{sym, ◌∙◌, true≢false, arith}
use Rattle.std.proofs.Math.Bool.{false}
use mathlib.Core.List.{map}
use Rattle.opcodes.specs.Table.{opcode_of}
use Rattle.opcodes.specs.declared.InstKind.TheVariants.{LoopMerge, SelectionMerge}
use Rattle.lifting.specs.Ast.{Func, Node, block, exit, loop, select}
use Rattle.lifting.specs.Parts.{node_control, node_of}
use Rattle.lifting.specs.Limits.{max_control}
use Rattle.lifting.specs.Points.{BlockLifting, CfgPoint, Merge, Table, loop_merge, no_merge, selection_merge}
use Rattle.lifting.specs.Walk.{Place, exit_term, in_block, walk_of}
use Rattle.lifting.specs.Absorb.{kept}
use Rattle.lifting.specs.Ids.{label_of}
use Rattle.lifting.specs.Instructions.{Instruction, body_insts, function_inst, instructions, label_inst, merge_insts, op_inst, param_inst, phi_inst, term_inst}
use Rattle.lifting.specs.BlockRun.{is_merge}
use Rattle.general_laws.specs.Members.{All, all_from, all_in}
use Rattle.lifting_runs.specs.Refers.{Refers}
use Rattle.lifting_runs.specs.Each.{Each, each_kept, every_walked}
use Rattle.lifting_runs.specs.EmitRun.{BlockOk, Sound, free_of}
use Rattle.lifting_runs.specs.Listing.{all_blocks, all_body, all_list, all_params, all_phis, no_merges}
use Rattle.lifting_blocks.specs.Uses.{exit_merge}
use Rattle.lifting_blocks.specs.Merges.{Own, no_merge_law, of_select, of_loop, OwnOf, select_merge, loop_merge_law, OwnControl}

module _ (F : Func) where
  exit_own : (r : ℕ) (p : Place) → Own F (exit_term F r p).merge
  exit_own r p = subst (Own F) (sym (exit_merge F r p)) no_merge_law

  in_own : (d : Node) (n : ℕ) → node_of F n ≡ d → OwnOf F (in_block F d n)
  in_own (block is) n e = no_merge_law
  in_own (select k v cs ds u) n e = of_select e
  in_own (loop b c is u) n e = of_loop e
  in_own (exit i vs) n e = no_merge_law

  walk_own : Each (OwnOf F) (walk_of F)
  walk_own = every_walked F _ {R = λ r. Unit {0}} (λ r p t. no_merge_law) exit_own (λ n. in_own (node_of F n) n refl) (λ n q. no_merge_law) (λ r i. tt)

  -- a block that absorbs another has that one's merge, its control number too; what was absorbed has none
  pub kept_own : Each (OwnOf F) (kept (walk_of F))
  kept_own = each_kept (OwnOf F) no_merge_law (λ b h. no_merge_law) (λ b c h k. k) (walk_of F) walk_own

module _ (F : Func) (first : ℕ) (T K : Table) (refers : Refers F) (ok : Sound F first T K) where
  abbrev Fine : Instruction → Type 0
  Fine = OwnControl F (label_of F first T K)

  other : (i : Instruction) → is_merge i ≡ false → Fine i
  other i e = record { selection = λ o. absurd (true≢false (is_merge_law o)); loop = λ o. absurd (true≢false (is_merge_law o)) }
    where
      is_merge_law : {n : ℕ} → i.opcode ≡ n → (eqb n (opcode_of LoopMerge) || eqb n (opcode_of SelectionMerge)) ≡ false
      is_merge_law o = ap (λ (n : ℕ). eqb n (opcode_of LoopMerge) || eqb n (opcode_of SelectionMerge)) (sym o) ∙ e

  merge_own : (m : Merge) → Own F m → All Fine (merge_insts F first T K m)
  unfolding merge_insts
  merge_own no_merge h = tt
  merge_own (selection_merge a u) (of_select {n} e) =
      (record { selection = λ o. select_merge n e (subst (λ (d : Node). node_control d ≤ max_control) e (refers.node_control_law n)) refl refl; loop = λ o. absurd (omega (arith, o)) }, tt)
  merge_own (loop_merge a b u) (of_loop {n} e) =
      (record { selection = λ o. absurd (omega (arith, o)); loop = λ o. loop_merge_law n e (subst (λ (d : Node). node_control d ≤ max_control) e (refers.node_control_law n)) refl refl }, tt)

  block_own : (q : CfgPoint) (b : BlockLifting) → BlockOk F first T K b → Own F b.term.merge → All Fine (body_insts F first T K q b)
  unfolding phi_inst
  block_own q b h own =
      -- the text's own opcodes are none of the table's (4)
      let others = no_merges F first T K b (free_of F first T K ok b h) in
      let ops = map (op_inst F first T K) b.ops in
      all_body F first T K Fine q b (all_phis F first T K Fine q (λ v d j. other (phi_inst F first T K q v d j) refl) b.keys b.decls 0)
      (all_from Fine ops (λ i j. other i (all_in _ ops others.0 i j))) (merge_own b.term.merge own) (other (term_inst F first T K b.term) others.1)

  pub list_own : Each (OwnOf F) K → All Fine (instructions F first T K)
  unfolding function_inst param_inst label_inst
  list_own h =
      all_list F first T K Fine (other _ refl) (all_params F first T K Fine (λ d i. other (param_inst F first T K d i) refl) F.params 0)
      (all_blocks F first T K Fine K
      (all_from _ K (λ x i. (other (label_inst F first T K x.0) refl, block_own x.0 x.1 (all_in _ K ok.all_ok x i) (all_in _ K h x i)))))
      (other _ refl)
