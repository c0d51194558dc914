-- The passes of the definitions over kept blocks, each as one flat pass over the visited points: kept points, results, phi pairs, values used,
-- instructions. Over any table in which each point stands once and a block only ever absorbs its neighbour. Assumes nothing.
use Rattle.std.specs.Prelude.{◌≡◌, refl, List, [], ◌∷◌, ◌++◌, ℕ, get_or, length}
use Rattle.std.proofs.Common.{sym, ap, ◌∙◌, append-nil}
use Rattle.general_laws.specs.Gather.{gather_none, gather_same, gather_single}
use Rattle.general_laws.specs.Lists.{gather}
use Rattle.lifting.specs.Ast.{Func, Value, const}
use Rattle.lifting.specs.Parts.{op_of}
use Rattle.lifting.specs.Points.{CfgPoint, Table, edge_of, points}
use Rattle.lifting.specs.Absorb.{count_in, kept, use_count}
use Rattle.lifting.specs.Ids.{id_of, label_of, op_keys, result_of}
use Rattle.lifting.specs.Instructions.{Instruction, block_insts, body_insts, if_used, label_inst, merge_insts, op_inst, pair_from, pairs, phi_insts, term_inst}
use Rattle.lifting.specs.Words.{inst_words, words}
use Rattle.lifting.specs.Answer.{block_uses, used_values}
use Rattle.lifting_blocks.specs.Gathered.{insts_gather, pairs_gather, points_gather, words_gather}
use Rattle.lifting_blocks.specs.Flat.{Pass, block_parts, part_at, up_to}
use Rattle.lifting_blocks.specs.FlatLaws.{gather_up_to, parts_flat, up_to_same}
use Rattle.lifting_blocks.specs.Neighbours.{Near, Once, kept_into}

-- the point of each block: its label
abbrev pub heads : Pass CfgPoint
heads = record { start = λ p ks ds. p ∷ []; op = λ i. []; end = λ p t. [] }

-- the results of ops
abbrev pub result_pass : Func → Pass Value
result_pass F = record { start = λ p ks ds. []; op = λ i. result_of (op_of F i).type i; end = λ p t. [] }

-- what a block reads: operands, inputs of its way out, values along its edges
abbrev pub reading : Func → Table → Pass Value
reading F K = record { start = λ p ks ds. []; op = λ i. (op_of F i).operands; end = λ p t. t.ins ++ gather (λ q. edge_of K t q) t.targets }

module _ (F : Func) (first : ℕ) (T K : Table) where
  -- the pairs of phi j of the block at q
  abbrev pub pairing : CfgPoint → ℕ → Pass ℕ
  pairing q j = record {
    start = λ p ks ds. [];
    op = λ i. [];
    end = λ p t. if_used (count_in q t.targets) (id_of F first T K (get_or (edge_of K t q) j (const 0)) ∷ label_of F first T K p ∷ []);
  }

  -- the instructions: label and phis, ops, merge and way out
  abbrev pub writing : Pass Instruction
  writing = record {
    start = λ p ks ds. label_inst F first T K p ∷ phi_insts F first T K p ks ds 0;
    op = λ i. op_inst F first T K i ∷ [];
    end = λ p t. merge_insts F first T K t.merge ++ (term_inst F first T K t ∷ []);
  }

-- each definition over any blocks, as a pass
heads_parts : (L : Table) → points L ≡ block_parts heads L
unfolding block_parts
heads_parts L = points_gather L ∙ gather_same _ _ (λ x. ap (λ (l : List CfgPoint). x.0 ∷ (l ++ [])) (sym (gather_none x.1.ops))) L

results_parts : (F : Func) (L : Table) → op_keys F L ≡ block_parts (result_pass F) L
unfolding block_parts
results_parts F L = gather_same _ _ (λ x. sym (append-nil (gather (result_pass F).op x.1.ops))) L

reading_parts : (F : Func) (K L : Table) → gather (λ x. block_uses F K x.1) L ≡ block_parts (reading F K) L
unfolding block_parts
reading_parts F K L = refl

pairing_parts : (F : Func) (first : ℕ) (T K : Table) (q : CfgPoint) (j : ℕ) (L : Table) → pairs F first T K L q j ≡ block_parts (pairing F first T K q j) L
unfolding block_parts
pairing_parts F first T K q j L = pairs_gather F first T K q j L ∙ gather_same _ _ (λ x. ap (λ (l : List ℕ). l ++ pair_from F first T K x q j) (sym (gather_none x.1.ops))) L

writing_parts : (F : Func) (first : ℕ) (T K L : Table) → block_insts F first T K L ≡ block_parts (writing F first T K) L
unfolding block_parts body_insts
writing_parts F first T K L =
    let m : Pass Instruction = writing F first T K in
    insts_gather F first T K L
    ∙ gather_same _ _ (λ x. ap (λ (l : List Instruction). m.start x.0 x.1.keys x.1.decls ++ (l ++ m.end x.0 x.1.term)) (sym (gather_single (op_inst F first T K) x.1.ops))) L

module _ (T : Table) (once : Once T) (near : Near (use_count T) T) where
  -- any pass over the kept blocks
  pub pass_flat : {A : Type 0} (m : Pass A) → block_parts m (kept T) ≡ up_to (part_at (use_count T) m T) (length T)
  pass_flat m = ap (block_parts m) (kept_into T once near) ∙ parts_flat (use_count T) m T

  pub points_flat : points (kept T) ≡ up_to (part_at (use_count T) heads T) (length T)
  points_flat = heads_parts (kept T) ∙ pass_flat heads

  pub results_flat : (F : Func) → op_keys F (kept T) ≡ up_to (part_at (use_count T) (result_pass F) T) (length T)
  results_flat F = results_parts F (kept T) ∙ pass_flat (result_pass F)

  pub used_flat : (F : Func) → used_values F (kept T) ≡ up_to (part_at (use_count T) (reading F (kept T)) T) (length T)
  used_flat F = reading_parts F (kept T) (kept T) ∙ pass_flat (reading F (kept T))

  pub pairs_flat : (F : Func) (first : ℕ) (q : CfgPoint) (j : ℕ) → pairs F first T (kept T) (kept T) q j ≡ up_to (part_at (use_count T) (pairing F first T (kept T) q j) T) (length T)
  pairs_flat F first q j = pairing_parts F first T (kept T) q j (kept T) ∙ pass_flat (pairing F first T (kept T) q j)

  pub blocks_flat : (F : Func) (first : ℕ) → block_insts F first T (kept T) (kept T) ≡ up_to (part_at (use_count T) (writing F first T (kept T)) T) (length T)
  blocks_flat F first = writing_parts F first T (kept T) (kept T) ∙ pass_flat (writing F first T (kept T))

  -- and their words
  pub words_flat : (F : Func) (first : ℕ) → words (block_insts F first T (kept T) (kept T)) ≡ up_to (λ i. words (part_at (use_count T) (writing F first T (kept T)) T i)) (length T)
  words_flat F first =
      words_gather (block_insts F first T (kept T) (kept T))
      ∙ ap (gather inst_words) (blocks_flat F first)
      ∙ gather_up_to inst_words (part_at (use_count T) (writing F first T (kept T)) T) (length T)
      ∙ up_to_same _ _ (λ i. sym (words_gather (part_at (use_count T) (writing F first T (kept T)) T i))) (length T)
