-- The words of all kept blocks, as a sum over the visited points: phis, ops, merges and ways out. Assumes nothing.
use Rattle.std.proofs.Math.Path.{◌≡◌, refl}
use Rattle.std.proofs.Common.{ap, ◌∙◌}
use Rattle.std.specs.Prelude.{get_or, length}
use mathlib.Core.List.{List, [], ◌∷◌, map}
use Prim.Native.Nat.{ℕ, zero, suc, ◌+◌, ◌-◌, ◌*◌, ◌≤◌}
use native.Mathlib.Omega.{arith}
use Rattle.std.proofs.Math.ListN.{length-append, length-map}
use Rattle.general_laws.specs.Gather.{gather_single}
use Rattle.opcodes.specs.Table.{opcode_of}
use Rattle.opcodes.specs.declared.InstKind.TheVariants.{LoopMerge, SelectionMerge}
use Rattle.general_laws.specs.Lists.{gather}
use Rattle.lifting.specs.Ast.{ControlInstKind, DataInstKind, Decl, Func, Imm, Value, bool_cond, branch, call, exit_invocation, ext, inst, return, select_branch, spv_inst, unreachable}
use Rattle.lifting.specs.Parts.{callee_ids, ctrl_insts, op_insts, op_of}
use Rattle.lifting.specs.Points.{BlockLifting, CfgPoint, Merge, Table, Terminator, loop_merge, no_merge, selection_merge}
use Rattle.lifting.specs.Walk.{walk_of}
use Rattle.lifting.specs.Absorb.{kept, use_count}
use Rattle.lifting.specs.Ids.{id_of, label_of, phi_keys}
use Rattle.lifting.specs.Instructions.{Instruction, bare, block_insts, label_inst, loop_control, merge_insts, op_imms, op_inst, phi_inst, phi_insts, selection_control, short, term_imms, term_inst}
use Rattle.lifting.specs.Words.{imms_words, inst_words, words}
use Rattle.general_laws.specs.Members.{In}
use Rattle.lifting_runs.specs.Shaped.{Shaped}
use Rattle.lifting_blocks.specs.Gathered.{words_gather}
use Rattle.lifting_blocks.specs.ListFlat.{writing}
use Rattle.lifting_blocks.specs.Totals.{total, total_add}
use Rattle.lifting_blocks.specs.Laws
use Rattle.lifting_sizes.specs.Sums.{length_gather, total_append, total_le, total_map, total_scale, total_swap}
use Rattle.lifting_sizes.specs.Weights.{block_weight, carried, end_weight, flow, head, if_any, imm_weight, imm_total, merge_weight, op_weight, ops_weight, sent}
use Rattle.lifting_sizes.specs.BlockWeights.{part_weight, pass_weight, inst_weight, pairs_weight}

-- the words of immediates, of a list and of an instruction
length_imms : (l : List Imm) → length (imms_words l) ≡ imm_weight * length l
length_imms [] = refl
length_imms (m ∷ l) = omega (arith, length_imms l)

pub length_words : (l : List Instruction) → length (words l) ≡ total inst_weight l
length_words l = ap length (words_gather l) ∙ length_gather inst_words l

pub length_inst : (i : Instruction) → inst_weight i ≡ head + (imm_weight * length i.imms + length i.ids)
unfolding inst_words
length_inst i = omega (arith, length-append (imms_words i.imms) (length i.ids ∷ i.ids), length_imms i.imms)

-- the immediates of a way out are those of its INST
length_term : (k : ControlInstKind) → length (term_imms k) ≡ imm_total (ctrl_insts k)
length_term unreachable = refl
length_term return = refl
length_term branch = refl
length_term (select_branch bool_cond) = refl
length_term (select_branch (spv_inst i)) = omega arith
length_term (exit_invocation i) = omega arith

-- an op's callee and literal
length_kind : (k : DataInstKind) → imm_weight * length (op_imms k) + length (callee_ids k) ≤ (imm_weight + 1) + imm_weight * imm_total (op_insts k)
length_kind (inst i) = omega arith
length_kind (call f) = omega arith
length_kind (ext s n) = omega arith

module _ (F : Func) (ok : Shaped F) (first : ℕ) where
  abbrev T : Table
  T = walk_of F

  abbrev K : Table
  K = kept (walk_of F)

  -- the values that the way out of y sends to q
  abbrev sent_to : CfgPoint → CfgPoint × BlockLifting → ℕ
  sent_to q y = carried F y.1.term q

  module _ (x : CfgPoint × BlockLifting) (here : In x T) where
    abbrev q : CfgPoint
    q = x.0

    -- the phis of a block from number j on, and its start
    phis_weight : (ks : List Value) (ds : List Decl) (j : ℕ) → j + length ks ≤ length x.1.keys → total inst_weight (phi_insts F first T K q ks ds j) ≤ head * length ks + 2 * total (λ y. sent_to q y - j) T
    unfolding phi_insts phi_inst
    phis_weight [] ds j low = omega arith
    phis_weight (k ∷ ks) ds j low = omega (
      arith,
      length_inst (phi_inst F first T K q k (get_or ds j (record { attrs = 0; type = 0 })) j),
      pairs_weight F ok first x here j (omega arith),
      phis_weight ks ds (suc j) (omega arith),
      total_add (λ y. if_any (sent_to q y - j) 1) (λ y. sent_to q y - suc j) T,
      total_le (λ y. if_any (sent_to q y - j) 1 + (sent_to q y - suc j)) (λ y. sent_to q y - j) T (λ y i. one_more (sent_to q y)),
    )
      where
        one_more : (n : ℕ) → if_any (n - j) 1 + (n - suc j) ≤ n - j
        one_more n = by_rest (n - j) refl
          where
            by_rest : (k : ℕ) → n - j ≡ k → if_any k 1 + (n - suc j) ≤ k
            by_rest zero e = omega arith
            by_rest (suc k) e = omega arith

    start_weight : total inst_weight ((writing F first T K).start q x.1.keys x.1.decls) ≤ head + (head * length x.1.keys + 2 * total (sent_to q) T)
    unfolding label_inst
    start_weight = omega (
      arith,
      length_inst (label_inst F first T K q),
      phis_weight x.1.keys x.1.decls 0 (omega arith),
      total_le (λ y. sent_to q y - 0) (sent_to q) T (λ y i. omega arith),
    )

  -- ops
  op_weight_law : (i : ℕ) → inst_weight (op_inst F first T K i) ≤ op_weight (op_of F i)
  unfolding op_inst
  op_weight_law i = omega (
    arith,
    length_inst (op_inst F first T K i),
    length_kind (op_of F i).kind,
    length-append (callee_ids (op_of F i).kind) (map (id_of F first T K) (op_of F i).operands),
    length-map (op_of F i).operands (id_of F first T K),
  )

  ops_weight_law : (is : List ℕ) → total inst_weight (gather (writing F first T K).op is) ≤ ops_weight F is
  ops_weight_law is = omega (
    arith,
    ap (total inst_weight) (gather_single (op_inst F first T K) is),
    total_map inst_weight (op_inst F first T K) is,
    total_le (λ i. inst_weight (op_inst F first T K i)) (λ i. op_weight (op_of F i)) is (λ i j. op_weight_law i),
  )

  -- merge and way out
  merge_weight_law : (m : Merge) → total inst_weight (merge_insts F first T K m) ≤ merge_weight m
  unfolding merge_insts
  merge_weight_law no_merge = omega arith
  merge_weight_law (selection_merge a u) = omega (arith, length_inst (bare (opcode_of SelectionMerge) (short selection_control u) (label_of F first T K a ∷ [])))
  merge_weight_law (loop_merge a b u) = omega (arith, length_inst (bare (opcode_of LoopMerge) (short loop_control u) (label_of F first T K a ∷ label_of F first T K b ∷ [])))

  abbrev Any : Terminator → Type 0
  Any t = Unit {0}

  way_weight : (h : CfgPoint) (t : Terminator) → Any t → total inst_weight ((writing F first T K).end h t) ≤ head + end_weight t
  unfolding term_inst
  way_weight h t any = omega (
    arith,
    total_append inst_weight (merge_insts F first T K t.merge) (term_inst F first T K t ∷ []),
    merge_weight_law t.merge,
    length_inst (term_inst F first T K t),
    length_term t.kind,
    length-append (map (id_of F first T K) t.ins) (map (label_of F first T K) t.targets),
    length-map t.ins (id_of F first T K),
    length-map t.targets (label_of F first T K),
  )

  -- a visited point's phis, and what comes into them
  abbrev phis : CfgPoint × BlockLifting → ℕ
  phis x = length x.1.keys

  abbrev taken : CfgPoint × BlockLifting → ℕ
  taken x = total (sent_to x.0) T

  -- All kept blocks: their phis, and what each visited point writes and sends to phis. What all take is what all send.
  pub blocks_weight : total inst_weight (block_insts F first T K K) ≤ head * length (phi_keys T) + total (sent F) T
  blocks_weight = omega (
    arith,
    ap (total inst_weight) (Laws.instructions_are F ok first),
    pass_weight inst_weight (writing F first T K) Any (λ t. head + end_weight t) way_weight (use_count T) T (λ i h s. tt),
    total_le (part_weight inst_weight (writing F first T K) Any (λ t. head + end_weight t) way_weight) (λ x. block_weight F x.1 + (head * phis x + 2 * taken x)) T
        (λ x i. omega (arith, start_weight x i, ops_weight_law x.1.ops)),
    total_add (λ x. block_weight F x.1) (λ x. head * phis x + 2 * taken x) T,
    total_add (λ x. head * phis x) (λ x. 2 * taken x) T,
    total_scale head phis T,
    total_scale 2 taken T,
    total_swap (λ x y. sent_to x.0 y) T T,
    total_add (λ x. block_weight F x.1) (λ x. 2 * flow F x.1.term) T,
    total_scale 2 (λ x. flow F x.1.term) T,
    length_gather (λ (x : CfgPoint × BlockLifting). x.1.keys) T,
  )
