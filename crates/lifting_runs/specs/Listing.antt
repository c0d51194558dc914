-- The emitted list read back: its blocks, their phis, their ops and ways out. An op or a way out that the text gives is none of the
-- table's instructions (refusal 4), so it is taken for nothing else. Assumes nothing.
use Rattle.std.specs.Prelude.{◌≡◌, Bool, true, false, not, ◌||◌, ℕ, suc, eqb, length}
use Rattle.std.proofs.Math.Path.{refl, ap}
use Rattle.std.proofs.Common.{sym, ◌∙◌, eqb-true}
use Rattle.std.proofs.lemmas.Bool.{false≢true}
use mathlib.Core.List.{List, [], ◌∷◌, ◌++◌, map, append_assoc, append-nil}
use Rattle.std.proofs.Math.Decide.{ℕ_discrete}
use Rattle.opcodes.specs.Table.{table, opcode_of}
use Rattle.opcodes.specs.declared.InstKind.{InstKind}
use Rattle.opcodes.specs.declared.InstKind.TheVariants.{ExtInst, ConstantTrue, Function, FunctionParameter, FunctionEnd, FunctionCall, Phi, LoopMerge, SelectionMerge, Label, Branch, BranchConditional, Return, ReturnValue, Unreachable}
use Rattle.general_laws.specs.Lists.{tabulate, within}
use Rattle.lifting.specs.Ast.{ControlInstKind, DataInstKind, Decl, Func, Value, bool_cond, branch, call, exit_invocation, ext, inst, region_input, return, select_branch, spv_inst, unreachable}
use Rattle.lifting.specs.Parts.{op_of}
use Rattle.lifting.specs.Points.{BlockLifting, CfgPoint, Merge, Table, Terminator, loop_merge, no_merge, selection_merge}
use Rattle.lifting.specs.Ids.{id_of, label_of}
use Rattle.lifting.specs.Instructions.{Instruction, block_insts, body_insts, end_inst, function_inst, instructions, label_inst, merge_insts, op_inst, op_opcode, param_inst, param_insts, phi_inst, phi_insts, term_inst, term_opcode}
use Rattle.lifting.specs.BlockRun.{Parts, add_part, cons_if, is_kind, is_merge, param_ids, parts, phis_of, run_of}
use Rattle.general_laws.specs.Members.{All, all_append, all_left, all_right, all_from, all_in}
use Rattle.lifting_runs.specs.Accepted.{FreeKind, FreeOp}
use Rattle.lifting_runs.specs.Simulation.{rest}

-- every kind stands in the table
in_table : (k : InstKind) → within (opcode_of k) table ≡ true
unfolding ℕ_discrete
in_table ExtInst = refl
in_table ConstantTrue = refl
in_table Function = refl
in_table FunctionParameter = refl
in_table FunctionEnd = refl
in_table FunctionCall = refl
in_table Phi = refl
in_table LoopMerge = refl
in_table SelectionMerge = refl
in_table Label = refl
in_table Branch = refl
in_table BranchConditional = refl
in_table Return = refl
in_table ReturnValue = refl
in_table Unreachable = refl

pub free_kind : (n : ℕ) (k : InstKind) → within n table ≡ false → eqb n (opcode_of k) ≡ false
free_kind n k f = by_test (eqb n (opcode_of k)) refl
  where
    by_test : (b : Bool) → eqb n (opcode_of k) ≡ b → b ≡ false
    by_test true e = absurd (false≢true (sym f ∙ ap (λ (m : ℕ). within m table) (eqb-true n (opcode_of k) e) ∙ in_table k))
    by_test false e = refl

-- an instruction that stands in a block, or before the first one
abbrev pub Inside : Instruction → Type 0
Inside i = (is_kind Label i ≡ false) × (is_kind FunctionEnd i ≡ false)

part_inside : (i : Instruction) (p : Parts) → Inside i → add_part i p ≡ record { before = i ∷ p.before; blocks = p.blocks }
part_inside i p h = rw h.0 (rw h.1)

parts_inside : (l r : List Instruction) → All Inside l → parts (l ++ r) ≡ record { before = l ++ (parts r).before; blocks = (parts r).blocks }
parts_inside [] r h = refl
parts_inside (i ∷ l) r h = ap (add_part i) (parts_inside l r h.1) ∙ part_inside i _ h.0

-- what stands before the last of a block
abbrev phis_all : List Instruction → List Instruction
phis_all [] = []
phis_all (i ∷ l) = cons_if (is_kind Phi i) i (phis_all l)

abbrev run_all : List Instruction → List Instruction
run_all [] = []
run_all (i ∷ l) = cons_if (not (is_kind Phi i || is_merge i)) i (run_all l)

phis_last : (l : List Instruction) (t : Instruction) → phis_of (l ++ (t ∷ [])) ≡ phis_all l
phis_last [] t = refl
phis_last (i ∷ []) t = refl
phis_last (i ∷ j ∷ l) t = ap (cons_if (is_kind Phi i) i) (phis_last (j ∷ l) t)

cons_if_append : {A : Type 0} (b : Bool) (x : A) (l r : List A) → cons_if b x (l ++ r) ≡ cons_if b x l ++ r
cons_if_append true x l r = refl
cons_if_append false x l r = refl

run_last : (l : List Instruction) (t : Instruction) → run_of (l ++ (t ∷ [])) ≡ run_all l ++ (t ∷ [])
run_last [] t = refl
run_last (i ∷ []) t = cons_if_append (not (is_kind Phi i || is_merge i)) i [] (t ∷ [])
run_last (i ∷ j ∷ l) t =
    ap (cons_if (not (is_kind Phi i || is_merge i)) i) (run_last (j ∷ l) t) ∙ cons_if_append (not (is_kind Phi i || is_merge i)) i (run_all (j ∷ l)) (t ∷ [])

-- a phi, a merge, an op
abbrev PhiLike : Instruction → Type 0
PhiLike i = is_kind Phi i ≡ true

abbrev MergeLike : Instruction → Type 0
MergeLike i = (is_kind Phi i ≡ false) × (is_merge i ≡ true)

abbrev OpLike : Instruction → Type 0
OpLike i = (is_kind Phi i ≡ false) × (is_merge i ≡ false)

over_phis : (l r : List Instruction) → All PhiLike l → (phis_all (l ++ r) ≡ l ++ phis_all r) × (run_all (l ++ r) ≡ run_all r)
over_phis [] r h = (refl, refl)
over_phis (i ∷ l) r h =
    let w = over_phis l r h.1 in
    (rw h.0 (ap (λ (k : List Instruction). i ∷ k) w.0), rw h.0 w.1)

over_merge : (l r : List Instruction) → All MergeLike l → (phis_all (l ++ r) ≡ phis_all r) × (run_all (l ++ r) ≡ run_all r)
over_merge [] r h = (refl, refl)
over_merge (i ∷ l) r h = let w = over_merge l r h.1 in (rw h.0.0 w.0, rw h.0.0 (rw h.0.1 w.1))

over_ops : (l r : List Instruction) → All OpLike l → (phis_all (l ++ r) ≡ phis_all r) × (run_all (l ++ r) ≡ l ++ run_all r)
over_ops [] r h = (refl, refl)
over_ops (i ∷ l) r h =
    let w = over_ops l r h.1 in
    (rw h.0.0 w.0, rw h.0.0 (rw h.0.1 (ap (λ (k : List Instruction). i ∷ k) w.1)))

body_split : (P O M : List Instruction) (t : Instruction) → All PhiLike P → All OpLike O → All MergeLike M
    → (phis_of (P ++ (O ++ (M ++ (t ∷ [])))) ≡ P) × (run_of (P ++ (O ++ (M ++ (t ∷ [])))) ≡ O ++ (t ∷ []))
body_split P O M t h_p h_o h_m =
    let e : P ++ (O ++ (M ++ (t ∷ []))) ≡ (P ++ (O ++ M)) ++ (t ∷ []) = simp append_assoc in
    let p = over_phis P (O ++ M) h_p in
    let o = over_ops O M h_o in
    let m = over_merge M [] h_m in
    let mm : phis_all M ≡ [] = ap phis_all (sym (append-nil M)) ∙ m.0 in
    let mr : run_all M ≡ [] = ap run_all (sym (append-nil M)) ∙ m.1 in (
      ap phis_of e ∙ phis_last (P ++ (O ++ M)) t ∙ p.0 ∙ ap (λ (k : List Instruction). P ++ k) (o.0 ∙ mm) ∙ append-nil P,
      ap run_of e ∙ run_last (P ++ (O ++ M)) t ∙ ap (λ (k : List Instruction). k ++ (t ∷ [])) (p.1 ∙ o.1 ∙ ap (λ (k : List Instruction). O ++ k) mr ∙ append-nil O),
    )

-- an opcode of the text: in a block, and no phi or merge
free_fine : (e : Instruction) → within e.opcode table ≡ false → Inside e × OpLike e
free_fine e f = (
  (free_kind e.opcode Label f, free_kind e.opcode FunctionEnd f),
  (free_kind e.opcode Phi f, rw (free_kind e.opcode LoopMerge f) (free_kind e.opcode SelectionMerge f)),
)

module _ (F : Func) (first : ℕ) (T K : Table) where
  -- what holds of each instruction, kind by kind
  module _ (P : Instruction → Type 0) where
    pub all_phis : (q : CfgPoint) → ((v : Value) (d : Decl) (j : ℕ) → P (phi_inst F first T K q v d j)) → (ks : List Value) (ds : List Decl) (j : ℕ) → All P (phi_insts F first T K q ks ds j)
    unfolding phi_insts
    all_phis q h [] ds j = tt
    all_phis q h (k ∷ ks) ds j = (h k _ j, all_phis q h ks ds (suc j))

    pub all_params : ((d : Decl) (i : ℕ) → P (param_inst F first T K d i)) → (ds : List Decl) (i : ℕ) → All P (param_insts F first T K ds i)
    unfolding param_insts
    all_params h [] i = tt
    all_params h (d ∷ ds) i = (h d i, all_params h ds (suc i))

    pub all_body : (q : CfgPoint) (b : BlockLifting) → All P (phi_insts F first T K q b.keys b.decls 0) → All P (map (op_inst F first T K) b.ops)
        → All P (merge_insts F first T K b.term.merge) → P (term_inst F first T K b.term) → All P (body_insts F first T K q b)
    unfolding body_insts
    all_body q b hp ho hm ht = all_append P (phi_insts F first T K q b.keys b.decls 0) _ hp (all_append P (map (op_inst F first T K) b.ops) _ ho (all_append P (merge_insts F first T K b.term.merge) _ hm (ht, tt)))

    pub all_blocks : (L : Table) → All (λ (x : CfgPoint × BlockLifting). P (label_inst F first T K x.0) × All P (body_insts F first T K x.0 x.1)) L → All P (block_insts F first T K L)
    unfolding block_insts
    all_blocks [] h = tt
    all_blocks (x ∷ L) h = (h.0.0, all_append P (body_insts F first T K x.0 x.1) _ h.0.1 (all_blocks L h.1))

    pub all_list : P (function_inst F first T K) → All P (param_insts F first T K F.params 0) → All P (block_insts F first T K K) → P (end_inst F first T K) → All P (instructions F first T K)
    unfolding instructions
    all_list hf hp hb he = (hf, all_append P (param_insts F first T K F.params 0) _ hp (all_append P (block_insts F first T K K) _ hb (he, tt)))

  phis_inside : (q : CfgPoint) (ks : List Value) (ds : List Decl) (j : ℕ) → All Inside (phi_insts F first T K q ks ds j)
  unfolding phi_inst
  phis_inside q = all_phis Inside q (λ v d j. (refl, refl))

  phis_like : (q : CfgPoint) (ks : List Value) (ds : List Decl) (j : ℕ) → All PhiLike (phi_insts F first T K q ks ds j)
  unfolding phi_inst
  phis_like q = all_phis PhiLike q (λ v d j. refl)

  one_op : (e : Instruction) (k : DataInstKind) → e.opcode ≡ op_opcode k → FreeOp k → Inside e × OpLike e
  one_op e (inst i) q h = free_fine e (ap (λ (n : ℕ). within n table) q ∙ h)
  one_op e (call f) q h = rw q ((refl, refl), (refl, refl))
  one_op e (ext s n) q h = rw q ((refl, refl), (refl, refl))

  abbrev pub FreeOps : List ℕ → Type 0
  FreeOps is = All (λ (i : ℕ). FreeOp (op_of F i).kind) is

  ops_fine : (is : List ℕ) → FreeOps is → All (λ (e : Instruction). Inside e × OpLike e) (map (op_inst F first T K) is)
  unfolding op_inst
  ops_fine [] h = tt
  ops_fine (i ∷ is) h = (one_op (op_inst F first T K i) (op_of F i).kind refl h.0, ops_fine is h.1)

  merge_fine : (m : Merge) → All (λ (e : Instruction). Inside e × MergeLike e) (merge_insts F first T K m)
  unfolding merge_insts
  merge_fine no_merge = tt
  merge_fine (selection_merge a u) = (((refl, refl), (refl, refl)), tt)
  merge_fine (loop_merge a b u) = (((refl, refl), (refl, refl)), tt)

  one_way : (e : Instruction) (k : ControlInstKind) (vs : List Value) → e.opcode ≡ term_opcode k vs → FreeKind k → Inside e × OpLike e
  one_way e unreachable vs q h = rw q ((refl, refl), (refl, refl))
  one_way e return [] q h = rw q ((refl, refl), (refl, refl))
  one_way e return (v ∷ vs) q h = rw q ((refl, refl), (refl, refl))
  one_way e branch vs q h = rw q ((refl, refl), (refl, refl))
  one_way e (select_branch bool_cond) vs q h = rw q ((refl, refl), (refl, refl))
  one_way e (select_branch (spv_inst i)) vs q h = free_fine e (ap (λ (n : ℕ). within n table) q ∙ h)
  one_way e (exit_invocation i) vs q h = free_fine e (ap (λ (n : ℕ). within n table) q ∙ h)

  term_fine : (t : Terminator) → FreeKind t.kind → Inside (term_inst F first T K t) × OpLike (term_inst F first T K t)
  unfolding term_inst
  term_fine t h = one_way (term_inst F first T K t) t.kind t.ins refl h

  -- 4, of one block
  abbrev pub Free : BlockLifting → Type 0
  Free b = FreeOps b.ops × FreeKind b.term.kind

  -- so none of a block's ops is a merge, nor is its way out
  pub no_merges : (b : BlockLifting) → Free b → All (λ (e : Instruction). is_merge e ≡ false) (map (op_inst F first T K) b.ops) × (is_merge (term_inst F first T K b.term) ≡ false)
  no_merges b h = (
    all_from _ (map (op_inst F first T K) b.ops) (λ e i. (all_in _ (map (op_inst F first T K) b.ops) (ops_fine b.ops h.0) e i).1.1),
    (term_fine b.term h.1).1.1,
  )

  abbrev phis : CfgPoint → BlockLifting → List Instruction
  phis q b = phi_insts F first T K q b.keys b.decls 0

  abbrev ops : BlockLifting → List Instruction
  ops b = map (op_inst F first T K) b.ops

  abbrev merges : BlockLifting → List Instruction
  merges b = merge_insts F first T K b.term.merge

  body_inside : (q : CfgPoint) (b : BlockLifting) → Free b → All Inside (body_insts F first T K q b)
  body_inside q b h =
      all_body Inside q b (phis_inside q b.keys b.decls 0) (all_left Inside OpLike (ops b) (ops_fine b.ops h.0))
      (all_left Inside MergeLike (merges b) (merge_fine b.term.merge)) (term_fine b.term h.1).0

  body_parts : (q : CfgPoint) (b : BlockLifting) → Free b
      → (phis_of (body_insts F first T K q b) ≡ phis q b) × (run_of (body_insts F first T K q b) ≡ ops b ++ (term_inst F first T K b.term ∷ []))
  unfolding body_insts
  body_parts q b h = body_split (phis q b) (ops b) (merges b) (term_inst F first T K b.term) (phis_like q b.keys b.decls 0)
      (all_right Inside OpLike (ops b) (ops_fine b.ops h.0)) (all_right Inside MergeLike (merges b) (merge_fine b.term.merge))

  pub body_phis : (q : CfgPoint) (b : BlockLifting) → Free b → phis_of (body_insts F first T K q b) ≡ phi_insts F first T K q b.keys b.decls 0
  body_phis q b h = (body_parts q b h).0

  pub body_run : (q : CfgPoint) (b : BlockLifting) → Free b → run_of (body_insts F first T K q b) ≡ map (op_inst F first T K) b.ops ++ (term_inst F first T K b.term ∷ [])
  body_run q b h = (body_parts q b h).1

  -- the blocks as a table
  abbrev pub blocks_for : Table → List (ℕ × List Instruction)
  blocks_for [] = []
  blocks_for (x ∷ L) = (label_of F first T K x.0, body_insts F first T K x.0 x.1) ∷ blocks_for L

  abbrev pub AllFree : Table → Type 0
  AllFree L = All (λ (x : CfgPoint × BlockLifting). Free x.1) L

  abbrev at_label : ℕ → List Instruction → Parts → Parts
  at_label l b p = record { before = []; blocks = (l, b ++ p.before) ∷ p.blocks }

  label_part : (q : CfgPoint) (b : List Instruction) (p : Parts) → add_part (label_inst F first T K q) (record { before = b ++ p.before; blocks = p.blocks }) ≡ at_label (label_of F first T K q) b p
  unfolding label_inst
  label_part q b p = refl

  parts_blocks : (L : Table) → AllFree L → parts (block_insts F first T K L ++ (end_inst F first T K ∷ [])) ≡ record { before = []; blocks = blocks_for L }
  unfolding block_insts
  parts_blocks [] h = refl
  parts_blocks (x ∷ L) h =
      let body = body_insts F first T K x.0 x.1 in
      let rest = block_insts F first T K L ++ (end_inst F first T K ∷ []) in
      ap (λ (l : List Instruction). add_part (label_inst F first T K x.0) (parts l)) (append_assoc body (block_insts F first T K L) (end_inst F first T K ∷ []))
      ∙ ap (add_part (label_inst F first T K x.0)) (parts_inside body rest (body_inside x.0 x.1 h.0))
      ∙ label_part x.0 body (parts rest)
      ∙ ap (at_label (label_of F first T K x.0) body) (parts_blocks L h.1)
      ∙ ap (λ (l : List Instruction). record { before = []; blocks = (label_of F first T K x.0, l) ∷ blocks_for L }) (append-nil body)

  params_inside : (ds : List Decl) (i : ℕ) → All Inside (param_insts F first T K ds i)
  unfolding param_inst
  params_inside = all_params Inside (λ d i. (refl, refl))

  params_ids : (ds : List Decl) (i : ℕ) → param_ids (param_insts F first T K ds i ++ []) ≡ map (id_of F first T K) (tabulate (region_input 0) i (length ds))
  unfolding param_insts
  params_ids [] i = refl
  params_ids (d ∷ ds) i = ap (λ (l : List ℕ). id_of F first T K (region_input 0 i) ∷ l) (params_ids ds (suc i))

  abbrev function : Parts → Parts
  function p = record { before = function_inst F first T K ∷ p.before; blocks = p.blocks }

  function_part : (p : Parts) → add_part (function_inst F first T K) p ≡ function p
  unfolding function_inst
  function_part p = refl

  function_params : (l : List Instruction) → param_ids (function_inst F first T K ∷ l) ≡ param_ids l
  unfolding function_inst
  function_params l = refl

  emit_parts : AllFree K → parts (instructions F first T K) ≡ record { before = function_inst F first T K ∷ (param_insts F first T K F.params 0 ++ []); blocks = blocks_for K }
  unfolding instructions
  emit_parts h =
      let rest = block_insts F first T K K ++ (end_inst F first T K ∷ []) in
      let ps = param_insts F first T K F.params 0 in
      function_part (parts (ps ++ rest)) ∙ ap function (parts_inside ps rest (params_inside F.params 0)
      ∙ ap (λ (p : Parts). record { before = ps ++ p.before; blocks = p.blocks }) (parts_blocks K h))

  pub emit_params : AllFree K → param_ids (parts (instructions F first T K)).before ≡ map (id_of F first T K) (tabulate (region_input 0) 0 (length F.params))
  emit_params h =
      ap (λ (p : Parts). param_ids p.before) (emit_parts h) ∙ function_params (param_insts F first T K F.params 0 ++ []) ∙ params_ids F.params 0

  pub emit_blocks : AllFree K → (parts (instructions F first T K)).blocks ≡ blocks_for K
  emit_blocks h = ap (λ (p : Parts). p.blocks) (emit_parts h)
