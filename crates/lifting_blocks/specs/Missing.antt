-- Refusal 10 by the list itself: a kept instruction uses a value that is not set exactly if some id among the blocks' instructions is 0.
-- Labels and callees are never 0, and a phi's pairs hold just what moves along the edges to its block. Assumes nothing.
use Rattle.std.specs.Prelude.{◌≡◌, ◌⊎◌, Bool, true, false, ◌&&◌, get_or}
use Rattle.std.proofs.Math.Path.{refl, sym, ap}
use Rattle.std.proofs.Common.{◌∙◌, subst}
use Rattle.std.proofs.Math.Logic.{inl, inr}
use Rattle.std.proofs.Math.Bool.{and_assoc, and-true}
use mathlib.Core.List.{List, [], ◌∷◌, ◌++◌, map}
use Prim.Native.Nat.{ℕ, zero, suc, ◌+◌, ◌≤◌, ◌<◌}
use Rattle.std.proofs.Math.Decide.{ℕ_discrete}
use native.Mathlib.Omega.{arith}
use Rattle.std.proofs.Math.Dec.{ltb}
use Rattle.std.proofs.Math.ListN.{length}
use borrow.Author.Tests.{ltb-true}
use Rattle.general_laws.specs.Lists.{every, gather}
use Rattle.lifting.specs.Ast.{Decl, Func, Value, const}
use Rattle.lifting.specs.Parts.{callee_ids, op_of}
use Rattle.lifting.specs.Points.{BlockLifting, CfgPoint, Merge, Table, edge_of, eq_point, loop_merge, no_merge, points, selection_merge}
use Rattle.lifting.specs.Walk.{walk_of}
use Rattle.lifting.specs.Absorb.{count_in, kept, merge_labels}
use Rattle.lifting.specs.Ids.{id_of, label, label_of, names, new_id}
use Rattle.lifting.specs.Instructions.{Instruction, block_insts, body_insts, end_inst, if_used, function_inst, label_inst, list_of, merge_insts, op_inst, pair_from, pairs, param_insts, phi_inst, phi_insts, term_inst}
use Rattle.lifting.specs.Answer.{block_uses, is_set, used_values, values_set}
use Rattle.general_laws.specs.Members.{In, all_in, gather_in, here, in_cases, in_gather, in_get_or, in_left, in_map, in_nil, in_right, in_split, map_in, there}
use Rattle.lifting_runs.specs.Accepted.{Accepted, Numbered}
use Rattle.lifting_runs.specs.Refers.{Refers}
use Rattle.lifting_runs.specs.Used.{settles}
use Rattle.lifting_runs.proofs.AcceptedRuns.{some_world, sound}
use Rattle.lifting_runs.specs.AbsorbCount.{in_count}
use Rattle.lifting_runs.specs.Ids.{KnownIds, id_positive, number_from_law}
use Rattle.lifting_runs.specs.EmitRun.{BlockOk, OpOk, point_named}
use Rattle.lifting_runs.specs.Tour.{in_points}
use Rattle.general_laws.specs.Tests.{every_in, find_in}
use Rattle.lifting_runs.specs.Shaped.{Shaped}
use Rattle.lifting_runs.specs.Pairs.{counted_in}
use Rattle.lifting_blocks.specs.Gathered.{insts_gather, pairs_gather}
use Rattle.lifting_blocks.specs.Callees.{callee_above, ops_below, type_above}
use Rattle.lifting_blocks.specs.Kept.{edge_fits, label_kept, point_block}
use Rattle.lifting_blocks.specs.SetIds.{positive, set_of_id}

-- an element by its place
place_of : {A : Type 0} (d : A) {x : A} {l : List A} → In x l → (m : ℕ) × (m < length l) × (get_or l m d ≡ x)
place_of d here = (0, omega arith, refl)
place_of d (there i) = let w = place_of d i in (suc w.0, omega (arith, w.1), w.2)

in_every : {A : Type 0} (p : A → Bool) (l : List A) → ((x : A) → In x l → p x ≡ true) → every p l ≡ true
in_every p [] h = refl
in_every p (x ∷ l) h = rw (h x here) (in_every p l (λ y i. h y (there i)))

every_append : {A : Type 0} (p : A → Bool) (k l : List A) → every p (k ++ l) ≡ every p k && every p l
every_append p [] l = refl
every_append p (x ∷ k) l = ap (λ (b : Bool). p x && b) (every_append p k l) ∙ sym (and_assoc (p x) (every p k) (every p l))

same_test : (a b : Bool) → (a ≡ true → b ≡ true) → (b ≡ true → a ≡ true) → a ≡ b
same_test true true f g = refl
same_test true false f g = sym (f refl)
same_test false true f g = g refl
same_test false false f g = refl

-- an edge's count
edge_count : (n : ℕ) (l : List ℕ) {x : ℕ} → In x (if_used n l) → (0 < n) × In x l
edge_count zero l i = absurd (in_nil i)
edge_count (suc n) l i = (omega arith, i)

count_edge : (n : ℕ) (l : List ℕ) {x : ℕ} → 0 < n → In x l → In x (if_used n l)
count_edge zero l h i = absurd (omega arith)
count_edge (suc n) l h i = i

one_ids : {i e : Instruction} → In i (e ∷ []) → i.ids ≡ e.ids
one_ids h = elim (in_cases h) [ inl q ↦ ap (λ (x : Instruction). x.ids) q | inr z ↦ absurd (in_nil z) ]

-- what a block's instructions hold
module _ (F : Func) (first : ℕ) (T K : Table) where
  -- phi m of a block, and its pairs
  phi_in_law : (q : CfgPoint) (ks : List Value) (ds : List Decl) (j : ℕ) {i : Instruction} → In i (phi_insts F first T K q ks ds j) → (m : ℕ) × (m < j + length ks) × (i.ids ≡ pairs F first T K K q m)
  unfolding phi_insts
  phi_in_law q [] ds j h = absurd (in_nil h)
  phi_in_law q (k ∷ ks) ds j {i} h = by_case (in_cases h) (phi_in_law q ks ds (suc j))
    where
      by_case : (i ≡ phi_inst F first T K q k (get_or ds j (record { attrs = 0; type = 0 })) j) ⊎ In i (phi_insts F first T K q ks ds (suc j))
          → (In i (phi_insts F first T K q ks ds (suc j)) → (m : ℕ) × (m < suc j + length ks) × (i.ids ≡ pairs F first T K K q m)) → (m : ℕ) × (m < j + suc (length ks)) × (i.ids ≡ pairs F first T K K q m)
      by_case (inl e) ih = (j, omega arith, ap (λ (x : Instruction). x.ids) e)
      by_case (inr g) ih = let w = ih g in (w.0, omega (arith, w.1), w.2)

  in_phi : (q : CfgPoint) (ks : List Value) (ds : List Decl) (j m : ℕ) → j ≤ m → m < j + length ks → (i : Instruction) × In i (phi_insts F first T K q ks ds j) × (i.ids ≡ pairs F first T K K q m)
  unfolding phi_insts
  in_phi q [] ds j m l h = absurd (omega arith)
  in_phi q (k ∷ ks) ds j m l h = by_case (ℕ_discrete j m) (λ (n : ¬ (j ≡ m)). in_phi q ks ds (suc j) m (omega arith) (omega arith))
    where
      by_case : Dec (j ≡ m) → (¬ (j ≡ m) → (i : Instruction) × In i (phi_insts F first T K q ks ds (suc j)) × (i.ids ≡ pairs F first T K K q m))
          → (i : Instruction) × In i (phi_insts F first T K q (k ∷ ks) ds j) × (i.ids ≡ pairs F first T K K q m)
      by_case (yes e) ih = (phi_inst F first T K q k (get_or ds j (record { attrs = 0; type = 0 })) j, here, ap (λ (x : ℕ). pairs F first T K K q x) e)
      by_case (no n) ih = let w = ih n in (w.0, there w.1, w.2)

  merge_ids : (m : Merge) (i : Instruction) → In i (merge_insts F first T K m) → i.ids ≡ map (label_of F first T K) (merge_labels m)
  unfolding merge_insts
  merge_ids no_merge i h = absurd (in_nil h)
  merge_ids (selection_merge a u) i h = one_ids h
  merge_ids (loop_merge a c u) i h = one_ids h

module _ (F : Func) (ok : Shaped F) (refs : Refers F) (first : ℕ) (num : Numbered F first) where
  abbrev T : Table
  T = walk_of F

  abbrev K : Table
  K = kept (walk_of F)

  abbrev id : Value → ℕ
  id = id_of F first T K

  -- a kept block's label has an id
  label_set : (p : CfgPoint) → In p (points K) → 0 < label_of F first T K p
  unfolding label_of new_id
  label_set p i = omega (arith, num.positive, number_from_law first (label p) (names F T K) (point_named F first T K p i))

  abbrev insts : List Instruction
  insts = block_insts F first T K K

  abbrev Whole : Type 0
  Whole = (i : Instruction) → In i insts → (n : ℕ) → In n i.ids → 0 < n

  abbrev AllSet : Type 0
  AllSet = (v : Value) → In v (used_values F K) → 0 < id v

  -- the instructions of a kept block, and what it uses
  in_insts : (x : CfgPoint × BlockLifting) → In x K → (i : Instruction) → In i (body_insts F first T K x.0 x.1) → In i insts
  in_insts x h i j = subst (In i) (sym (insts_gather F first T K K)) (in_gather (λ (y : CfgPoint × BlockLifting). label_inst F first T K y.0 ∷ body_insts F first T K y.0 y.1) h (there j))

  in_uses : (x : CfgPoint × BlockLifting) → In x K → (v : Value) → In v (block_uses F K x.1) → In v (used_values F K)
  in_uses x h v i = in_gather (λ (y : CfgPoint × BlockLifting). block_uses F K y.1) h i

  module _ (x : CfgPoint × BlockLifting) (h : In x K) where
    abbrev b : BlockLifting
    b = x.1

    abbrev reads : List Value
    reads = gather (λ i. (op_of F i).operands) b.ops

    -- from values to ids
    module _ (set : AllSet) where
      pair_whole : (q : CfgPoint) (d : BlockLifting) (m : ℕ) → In (q, d) K → m < length d.keys → (n : ℕ) → In n (pairs F first T K K q m) → 0 < n
      pair_whole q d m k l n i =
          let w = gather_in (λ (y : CfgPoint × BlockLifting). pair_from F first T K y q m) K (subst (In n) (pairs_gather F first T K q m K) i) in
          let y = w.0 in
          let c = edge_count (count_in q y.1.term.targets) _ w.2 in
          let t : In q y.1.term.targets = counted_in q y.1.term.targets c.0 in
          let v : In (get_or (edge_of K y.1.term q) m (const 0)) (edge_of K y.1.term q) = in_get_or (edge_of K y.1.term q) m (const 0) (omega (arith, l, edge_fits F ok y w.1 q t d k)) in
          elim (in_cases c.1) [
            | inl e ↦ omega (arith, e, set _ (in_uses y w.1 _ (in_right (gather (λ o. (op_of F o).operands) y.1.ops) (in_right y.1.term.ins (in_gather (λ p. edge_of K y.1.term p) t v)))))
            | inr j ↦ elim (in_cases j) [ inl e ↦ omega (arith, e, label_set y.0 (in_points K y w.1)) | inr z ↦ absurd (in_nil z) ]
          ]

      op_whole : (o : ℕ) → In o b.ops → (n : ℕ) → In n (op_inst F first T K o).ids → 0 < n
      unfolding op_inst
      op_whole o i n j = elim (in_split (callee_ids (op_of F o).kind) (map id (op_of F o).operands) j) [
        | inl k ↦ callee_above F refs o (ops_below F refs x h o i) n k
        | inr k ↦ (let w = map_in id (op_of F o).operands k in omega (arith, w.2, set w.0 (in_uses x h w.0 (in_left _ (in_gather (λ z. (op_of F z).operands) i w.1)))))
      ]

      merge_whole : (i : Instruction) → In i (merge_insts F first T K b.term.merge) → (n : ℕ) → In n i.ids → 0 < n
      merge_whole i j n k =
          let w = map_in (label_of F first T K) (merge_labels b.term.merge) (subst (In n) (merge_ids F first T K b.term.merge i j) k) in
          omega (arith, w.2, label_set w.0 (label_kept F ok x h w.0 (in_left b.term.targets w.1)))

      term_whole : (n : ℕ) → In n (term_inst F first T K b.term).ids → 0 < n
      unfolding term_inst
      term_whole n j = elim (in_split (map id b.term.ins) (map (label_of F first T K) b.term.targets) j) [
        | inl k ↦ (let w = map_in id b.term.ins k in omega (arith, w.2, set w.0 (in_uses x h w.0 (in_right reads (in_left _ w.1)))))
        | inr k ↦ (let w = map_in (label_of F first T K) b.term.targets k in omega (arith, w.2, label_set w.0 (label_kept F ok x h w.0 (in_right (merge_labels b.term.merge) w.1))))
      ]

      body_whole : (i : Instruction) → In i (body_insts F first T K x.0 b) → (n : ℕ) → In n i.ids → 0 < n
      unfolding body_insts
      body_whole i j n k = elim (in_split (phi_insts F first T K x.0 b.keys b.decls 0) _ j) [
        | inl p ↦ (let w = phi_in_law F first T K x.0 b.keys b.decls 0 p in pair_whole x.0 b w.0 h (omega (arith, w.1)) n (subst (In n) w.2 k))
        | inr r ↦ elim (in_split (map (op_inst F first T K) b.ops) _ r) [
          | inl p ↦ (let w = map_in (op_inst F first T K) b.ops p in op_whole w.0 w.1 n (subst (λ (e : Instruction). In n e.ids) w.2 k))
          | inr u ↦ elim (in_split (merge_insts F first T K b.term.merge) _ u) [
            | inl p ↦ merge_whole i p n k
            | inr p ↦ term_whole n (subst (In n) (one_ids p) k)
          ]
        ]
      ]

    -- from ids to values
    module _ (whole : Whole) where
      op_set : (o : ℕ) → In o b.ops → (v : Value) → In v (op_of F o).operands → 0 < id v
      unfolding body_insts op_inst
      op_set o i v j = whole (op_inst F first T K o) (in_insts x h _ (in_right (phi_insts F first T K x.0 b.keys b.decls 0) (in_left _ (in_map (op_inst F first T K) i)))) (id v)
          (in_right (callee_ids (op_of F o).kind) (in_map id j))

      input_set : (v : Value) → In v b.term.ins → 0 < id v
      unfolding body_insts term_inst
      input_set v j = whole (term_inst F first T K b.term)
          (in_insts x h _ (in_right (phi_insts F first T K x.0 b.keys b.decls 0) (in_right (map (op_inst F first T K) b.ops) (in_right (merge_insts F first T K b.term.merge) here)))) (id v)
          (in_left _ (in_map id j))

      edge_set : (q : CfgPoint) → In q b.term.targets → (v : Value) → In v (edge_of K b.term q) → 0 < id v
      unfolding body_insts
      edge_set q i v j =
          let d = point_block q K (label_kept F ok x h q (in_right (merge_labels b.term.merge) i)) in
          let k : In (q, d.0) K = find_in eq_point q K d.1 in
          let m = place_of (const 0) j in
          let p = in_phi F first T K q d.0.keys d.0.decls 0 m.0 (omega arith) (omega (arith, m.1, edge_fits F ok x h q i d.0 k)) in
          whole p.0 (in_insts (q, d.0) k _ (in_left _ p.1)) (id v) (subst (In (id v)) (sym (p.2 ∙ pairs_gather F first T K q m.0 K)) (in_gather (λ (y : CfgPoint × BlockLifting). pair_from F first T K y q m.0) h
          (count_edge (count_in q b.term.targets) _ (in_count q b.term.targets i) (subst (λ (w : Value). In (id v) (id w ∷ label_of F first T K x.0 ∷ [])) (sym m.2) here))))

      block_set : (v : Value) → In v (block_uses F K b) → 0 < id v
      block_set v i = elim (in_split reads _ i) [
        | inl j ↦ (let w = gather_in (λ o. (op_of F o).operands) b.ops j in op_set w.0 w.1 v w.2)
        | inr j ↦ elim (in_split b.term.ins _ j) [
          | inl k ↦ input_set v k
          | inr k ↦ (let w = gather_in (λ q. edge_of K b.term q) b.term.targets k in edge_set w.0 w.1 v w.2)
        ]
      ]

  all_whole : AllSet → Whole
  unfolding label_inst
  all_whole set i j n k =
      let w = gather_in (λ (y : CfgPoint × BlockLifting). label_inst F first T K y.0 ∷ body_insts F first T K y.0 y.1) K (subst (In i) (insts_gather F first T K K) j) in
      elim (in_cases w.2) [ inl e ↦ absurd (in_nil (subst (λ (x : Instruction). In n x.ids) e k)) | inr p ↦ body_whole w.0 w.1 set i p n k ]

  all_read : Whole → AllSet
  all_read whole v i = let w = gather_in (λ (y : CfgPoint × BlockLifting). block_uses F K y.1) K i in block_set w.0 w.1 whole v w.2

  -- where refusal 10 does not hold, every value used has an id
  accepted_read : values_set F ≡ true → AllSet
  accepted_read e v i =
      let acc : Accepted F first = record { forest = ok.forest; targets = ok.targets; fitting = ok.fitting; numbered = num; settles = settles F refs e } in
      let w = gather_in (λ (y : CfgPoint × BlockLifting). block_uses F K y.1) K i in
      let b : BlockLifting = w.0.1 in
      let fine = all_in (λ (y : CfgPoint × BlockLifting). BlockOk F first T K y.1) K (sound F first acc ok.body some_world).all_ok w.0 w.1 in
      let known : KnownIds F first T K v
      = elim (in_split (gather (λ o. (op_of F o).operands) b.ops) _ w.2) [
        | inl j ↦ (let o = gather_in (λ o. (op_of F o).operands) b.ops j in all_in (KnownIds F first T K) (op_of F o.0).operands (all_in (OpOk F first T K) b.ops fine.ops_ok o.0 o.1).1 v o.2)
        | inr j ↦ elim (in_split b.term.ins _ j) [
          | inl k ↦ all_in (KnownIds F first T K) b.term.ins fine.ins_known v k
          | inr k ↦ (let q = gather_in (λ q. edge_of K b.term q) b.term.targets k in all_in (KnownIds F first T K) (edge_of K b.term q.0) (fine.edges_known q.0 q.1) v q.2)
        ]
      ] in
      id_positive F first T K num v known

  abbrev full : Instruction → Bool
  full i = every (λ n. ltb 0 n) i.ids

  pub values_set_law : values_set F ≡ every full insts
  unfolding values_set
  values_set_law = same_test (values_set F) (every full insts)
      (λ e. in_every full insts (λ i j. in_every (λ n. ltb 0 n) i.ids (λ n k. positive n (all_whole (accepted_read e) i j n k))))
      (λ e. in_every (is_set F K) (used_values F K) (λ v u. set_of_id F ok first num v (all_read (λ i j n k. ltb-true 0 n (every_in (λ m. ltb 0 m) i.ids (every_in full insts e i j) n k)) v u)))

  -- the same of the whole list: the function's own instructions have no id that is 0
  params_full : (ds : List Decl) (i : ℕ) → every full (param_insts F first T K ds i) ≡ true
  unfolding param_insts
  params_full [] i = refl
  params_full (d ∷ ds) i = params_full ds (suc i)

  pub list_set : values_set F ≡ every full (list_of F first)
  unfolding list_of function_inst
  list_set = values_set_law ∙ sym (
      ap (λ (b : Bool). (b && true) && every full (param_insts F first T K F.params 0 ++ (insts ++ (end_inst F first T K ∷ [])))) (positive F.type (type_above F refs))
      ∙ every_append full (param_insts F first T K F.params 0) _
      ∙ ap (λ (b : Bool). b && every full (insts ++ (end_inst F first T K ∷ []))) (params_full F.params 0)
      ∙ every_append full insts (end_inst F first T K ∷ [])
      ∙ and-true (every full insts)
      )
