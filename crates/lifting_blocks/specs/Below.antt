-- Document 02, W3: every id lies below the bound. No id that stands in the list is the next free id or above it: the text's ids are below the
-- first id, and new ids run on to the next free id. Assumes nothing.
use Rattle.std.specs.Prelude.{refl, get_or}
use Rattle.std.proofs.Math.Logic.{inl, inr}
use mathlib.Core.List.{List, [], ◌∷◌, map}
use Prim.Native.Nat.{ℕ, zero, suc, ◌<◌}
use native.Mathlib.Omega.{arith}
use Rattle.general_laws.specs.Lists.{gather}
use Rattle.lifting.specs.Ast.{Decl, Func, Node, Op, Value, block, const, data_inst_output, exit, loop, node_output, region_input, select}
use Rattle.lifting.specs.Parts.{callee_ids, decls, ids, node_of, op_of, outs_of, region_of, required_ids}
use Rattle.lifting.specs.Points.{BlockLifting, CfgPoint, Merge, Table, Terminator, edge_of, loop_merge, no_merge, selection_merge}
use Rattle.lifting.specs.Walk.{Place, entry_decls, in_block, in_node, top, walk_of}
use Rattle.lifting.specs.Absorb.{count_in, kept}
use Rattle.lifting.specs.Ids.{Name, id_of, label, label_of, names, new_id, next_id, the_function, value}
use Rattle.lifting.specs.Instructions.{Instruction, block_insts, body_insts, function_inst, if_used, instructions, label_inst, list_of, merge_insts, op_inst, pair_from, pairs, param_inst, param_insts, phi_inst, phi_insts, result_id, term_inst}
use Rattle.general_laws.specs.Members.{All, all_append, all_from, all_in}
use Rattle.general_laws.specs.Tests.{all_at, all_line, all_map, all_part, all_split, all_unmap}
use Rattle.lifting_runs.specs.Ids.{number_range}
use Rattle.lifting_runs.specs.Each.{Each, each_kept, every_walked}
use Rattle.lifting_runs.specs.Listing.{all_blocks, all_body, all_list}

-- the ids that stand in an instruction: result type, result, operands; 0 stands for none
abbrev pub ids_in : Instruction → List ℕ
ids_in i = i.type ∷ i.result ∷ i.ids

abbrev pub IdsBelow : ℕ → Instruction → Type 0
IdsBelow n i = All (λ x. x < n) (ids_in i)

-- the declarations of phis are the text's
module _ (F : Func) (P : Decl → Type 0) (h : All P (decls F)) where
  abbrev Declared : CfgPoint × BlockLifting → Type 0
  Declared x = All P x.1.decls

  by_kind : All P (gather (λ r. r.ins) F.regions) × All P (gather outs_of F.nodes)
  unfolding decls
  by_kind = all_split P (gather (λ r. r.ins) F.regions) _ h

  of_region : (r : ℕ) → All P (region_of F r).ins
  of_region r = all_line P (λ r. r.ins) F.regions by_kind.0 _ refl r

  at_entry : (r : ℕ) (p : Place) → All P (entry_decls F r p)
  at_entry zero top = tt
  at_entry (suc r) top = of_region (suc r)
  at_entry zero (in_node n) = tt
  at_entry (suc r) (in_node n) = tt

  at_node : (d : Node) (n : ℕ) → All P (in_block F d n).decls
  at_node (block is) n = tt
  at_node (select k v cs ds u) n = tt
  at_node (loop b c is u) n = of_region b
  at_node (exit i vs) n = tt

  walked : All Declared (walk_of F)
  walked = every_walked F Declared {R = λ r. Unit {0}} (λ r p t. at_entry r p) (λ r p. tt) (λ n. at_node (node_of F n) n)
      (λ n q. all_line P outs_of F.nodes by_kind.1 _ refl n) (λ r i. tt)

  kept_declared : Each (λ b. All P b.decls) (kept (walk_of F))
  kept_declared = each_kept (λ b. All P b.decls) tt (λ b k. k) (λ b c k l. k) (walk_of F) walked

module _ (F : Func) (first : ℕ) (positive : 0 < first) (under : All (λ x. x < first) (ids F)) where
  module _ (T K : Table) where
    abbrev Low : ℕ → Type 0
    Low x = x < next_id F first T K

    zero_low : Low 0
    unfolding next_id
    zero_low = omega arith

    ids_low : All Low (ids F)
    unfolding next_id
    ids_low = all_from Low (ids F) (λ x i. omega (arith, all_in _ (ids F) under x i))

    new_low : (x : Name) → Low (new_id F first T K x)
    unfolding next_id new_id
    new_low x = elim (number_range first x (names F T K)) [ inl z ↦ omega (arith, z) | inr h ↦ h.1 ]

    -- the ids of the text, kind by kind
    record Given : Type 0 where
      ret : Low F.ret
      type : Low F.type
      consts : All (λ c. Low c.id) F.consts
      params : All (λ d. Low d.type) F.params
      decls : All (λ d. Low d.type) (decls F)
      callees : All Low (gather (λ o. callee_ids o.kind) F.ops)
      types : All (λ o. Low o.type) F.ops

    given : Given
    unfolding ids required_ids
    given =
        let a = all_split Low (required_ids F) (map (λ o. o.type) F.ops) ids_low in
        let b = all_split Low (map (λ c. c.id) F.consts) _ a.0.1.1 in
        let c = all_split Low (map (λ d. d.type) F.params) _ b.1 in
        let d = all_split Low (map (λ d. d.type) (decls F)) _ c.1 in
        record {
          ret = a.0.0;
          type = a.0.1.0;
          consts = all_unmap Low _ F.consts b.0;
          params = all_unmap Low _ F.params c.0;
          decls = all_unmap Low _ (decls F) d.0;
          callees = d.1;
          types = all_unmap Low _ F.ops a.1;
        }

    id_low : (v : Value) → Low (id_of F first T K v)
    unfolding id_of
    id_low (const n) = all_at _ F.consts given.consts _ zero_low n
    id_low (region_input r i) = new_low (value (region_input r i))
    id_low (node_output n i) = new_low (value (node_output n i))
    id_low (data_inst_output i) = new_low (value (data_inst_output i))

    label_low : (p : CfgPoint) → Low (label_of F first T K p)
    unfolding label_of
    label_low p = new_low (label p)

    -- instruction by instruction
    abbrev LowIds : Instruction → Type 0
    LowIds = IdsBelow (next_id F first T K)

    pairs_low : (L : Table) (q : CfgPoint) (j : ℕ) → All Low (pairs F first T K L q j)
    unfolding pairs
    pairs_low [] q j = tt
    pairs_low (x ∷ L) q j = all_append Low (pair_from F first T K x q j) _ (by_count_law (count_in q x.1.term.targets)) (pairs_low L q j)
      where
        by_count_law : (n : ℕ) → All Low (if_used n (id_of F first T K (get_or (edge_of K x.1.term q) j (const 0)) ∷ label_of F first T K x.0 ∷ []))
        by_count_law zero = tt
        by_count_law (suc n) = (id_low (get_or (edge_of K x.1.term q) j (const 0)), (label_low x.0, tt))

    -- phis have the types of their declarations
    abbrev LowType : Decl → Type 0
    LowType d = Low d.type

    phis_low : (q : CfgPoint) (ks : List Value) (ds : List Decl) (j : ℕ) → All LowType ds → All LowIds (phi_insts F first T K q ks ds j)
    unfolding phi_insts phi_inst
    phis_low q [] ds j h = tt
    phis_low q (k ∷ ks) ds j h = ((all_at LowType ds h _ zero_low j, (id_low k, pairs_low K q j)), phis_low q ks ds (suc j) h)

    result_low : (t i : ℕ) → Low (result_id F first T K t i)
    result_low zero i = zero_low
    result_low (suc t) i = id_low (data_inst_output i)

    op_low : (i : ℕ) → LowIds (op_inst F first T K i)
    unfolding op_inst
    op_low i =
        let Callees : Op → Type 0 = λ o. All Low (callee_ids o.kind) in
        let callees = all_from Callees F.ops (λ o h. all_part Low _ F.ops given.callees h) in
        let operands = all_append Low (callee_ids (op_of F i).kind) _ (all_at Callees F.ops callees _ (zero_low, tt) i) (all_map Low _ (op_of F i).operands id_low) in
        (all_at _ F.ops given.types _ zero_low i, (result_low (op_of F i).type i, operands))

    merge_low : (m : Merge) → All LowIds (merge_insts F first T K m)
    unfolding merge_insts
    merge_low no_merge = tt
    merge_low (selection_merge a u) = ((zero_low, (zero_low, (label_low a, tt))), tt)
    merge_low (loop_merge a b u) = ((zero_low, (zero_low, (label_low a, (label_low b, tt)))), tt)

    term_low : (t : Terminator) → LowIds (term_inst F first T K t)
    unfolding term_inst
    term_low t = (zero_low, (zero_low, all_append Low (map (id_of F first T K) t.ins) _ (all_map Low _ t.ins id_low) (all_map Low _ t.targets label_low)))

    at_label_law : (q : CfgPoint) → LowIds (label_inst F first T K q)
    unfolding label_inst
    at_label_law q = (zero_low, (label_low q, tt))

    body_low : (q : CfgPoint) (b : BlockLifting) → All LowType b.decls → All LowIds (body_insts F first T K q b)
    body_low q b h =
        all_body F first T K LowIds q b (phis_low q b.keys b.decls 0 h) (all_map LowIds _ b.ops op_low) (merge_low b.term.merge) (term_low b.term)

    blocks_low : Each (λ b. All LowType b.decls) K → All LowIds (block_insts F first T K K)
    blocks_low h = all_blocks F first T K LowIds K (all_from _ K (λ x i. (at_label_law x.0, body_low x.0 x.1 (all_in _ K h x i))))

    params_low : (ds : List Decl) (i : ℕ) → All LowType ds → All LowIds (param_insts F first T K ds i)
    unfolding param_insts param_inst
    params_low [] i h = tt
    params_low (d ∷ ds) i h = ((h.0, (id_low (region_input 0 i), tt)), params_low ds (suc i) h.1)

    insts_low : Each (λ b. All LowType b.decls) K → All LowIds (instructions F first T K)
    unfolding function_inst
    insts_low h =
        all_list F first T K LowIds (given.ret, (new_low the_function, (given.type, tt))) (params_low F.params 0 given.params) (blocks_low h) (zero_low, (zero_low, tt))

  -- each id in each instruction of the list
  pub list_low : All (IdsBelow (next_id F first (walk_of F) (kept (walk_of F)))) (list_of F first)
  unfolding list_of
  list_low = insts_low (walk_of F) (kept (walk_of F)) (kept_declared F _ (given (walk_of F) (kept (walk_of F))).decls)
