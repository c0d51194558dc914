-- A phi of a list: one pair for each block of the list whose way out names the phi's block, and no other, and the pair holds the value that moves
-- along that edge. And what stands in a block of the list. Assumes nothing.
use Rattle.std.specs.Prelude.{◌≡◌, get_or, length}
use Rattle.std.proofs.Math.Path.{refl, ap}
use Rattle.std.proofs.Common.{◌∙◌}
use mathlib.Core.List.{List, [], ◌∷◌, ◌++◌, map, append_assoc}
use Prim.Native.Nat.{ℕ, zero, suc, ◌+◌, ◌<◌}
use native.Mathlib.Omega.{arith}
use Rattle.lifting.specs.Ast.{Decl, Func, Value, const}
use Rattle.lifting.specs.Points.{BlockLifting, CfgPoint, Table, edge_of}
use Rattle.lifting.specs.Absorb.{count_in}
use Rattle.lifting.specs.Ids.{id_of, label_of}
use Rattle.lifting.specs.Instructions.{Instruction, body_insts, if_used, merge_insts, op_inst, pairs, phi_insts, term_inst}
use Rattle.lifting.specs.BlockRun.{pair_of, phis_of}
use Rattle.general_laws.specs.Members.{In, NoDup}
use Rattle.lifting_runs.specs.Pairs.{pair_labels}

-- the ids of a block's way out, which is its last instruction
abbrev pub way_ids : List Instruction → List ℕ
way_ids [] = []
way_ids (i ∷ []) = i.ids
way_ids (i ∷ j ∷ l) = way_ids (j ∷ l)

-- the ids of a block's phi j
abbrev pub phi_ids : List Instruction → ℕ → List ℕ
phi_ids body j = get_or (map (λ i. i.ids) (phis_of body)) j []

-- a list of pairs, whole
abbrev pub Paired : List ℕ → Type 0
Paired xs = length xs ≡ length (pair_labels xs) + length (pair_labels xs)

-- block k has an edge to block l: its way out names l
abbrev pub ListEdge : List (ℕ × List Instruction) → ℕ → ℕ → Type 0
ListEdge bs k l = (body : List Instruction) × In (k, body) bs × In l (way_ids body)

module _ (F : Func) (first : ℕ) (T K : Table) where
  -- v is the id of value j of the edge that leads from the kept block with label k to the one with label l
  pub record MovesAlong (k l j v : ℕ) : Type 0 where
    pub from : CfgPoint × BlockLifting
    pub to : CfgPoint
    pub from_kept : In from K
    pub leads : In to from.1.term.targets
    pub from_label : k ≡ label_of F first T K from.0
    pub to_label : l ≡ label_of F first T K to
    pub has_value : j < length (edge_of K from.1.term to)
    pub value_is : v ≡ id_of F first T K (get_or (edge_of K from.1.term to) j (const 0))

  -- the ids xs of phi j of block l: pairs of a value and a block, none twice; one for each block with an edge to l and no other; with that
  -- edge's value
  pub record PhiPairs (bs : List (ℕ × List Instruction)) (l j : ℕ) (xs : List ℕ) : Type 0 where
    pub paired : Paired xs
    pub once : NoDup (pair_labels xs)
    pub has_edge : (k : ℕ) → In k (pair_labels xs) → ListEdge bs k l
    pub has_pair : (k : ℕ) → ListEdge bs k l → In k (pair_labels xs)
    pub holds_value : (k : ℕ) → ListEdge bs k l → MovesAlong k l j (pair_of k xs)

  -- what stands in a block of the list
  way_last : (l : List Instruction) (t : Instruction) → way_ids (l ++ (t ∷ [])) ≡ t.ids
  way_last [] t = refl
  way_last (i ∷ []) t = refl
  way_last (i ∷ j ∷ l) t = way_last (j ∷ l) t

  pub body_way : (q : CfgPoint) (b : BlockLifting) → way_ids (body_insts F first T K q b) ≡ map (id_of F first T K) b.term.ins ++ map (label_of F first T K) b.term.targets
  unfolding body_insts term_inst
  body_way q b =
      let P = phi_insts F first T K q b.keys b.decls 0 in
      let O = map (op_inst F first T K) b.ops in
      let M = merge_insts F first T K b.term.merge in
      let t = term_inst F first T K b.term in
      let e : P ++ (O ++ (M ++ (t ∷ []))) ≡ (P ++ (O ++ M)) ++ (t ∷ []) = simp append_assoc in
      ap way_ids e ∙ way_last (P ++ (O ++ M)) t

  pub phi_at_law : (q : CfgPoint) (ks : List Value) (ds : List Decl) (m j : ℕ) → j < length (phi_insts F first T K q ks ds m)
      → (get_or (map (λ i. i.ids) (phi_insts F first T K q ks ds m)) j [] ≡ pairs F first T K K q (m + j)) × (j < length ks)
  unfolding phi_insts
  phi_at_law q [] ds m j h = absurd (omega arith)
  phi_at_law q (k ∷ ks) ds m zero h = (ap (pairs F first T K K q) (omega arith), omega arith)
  phi_at_law q (k ∷ ks) ds m (suc j) h =
      let r = phi_at_law q ks ds (suc m) j (omega arith) in
      (r.0 ∙ ap (pairs F first T K K q) (omega arith), omega (arith, r.1))

  pub all_paired : (L : Table) (q : CfgPoint) (j : ℕ) → Paired (pairs F first T K L q j)
  unfolding pairs
  all_paired [] q j = refl
  all_paired (x ∷ L) q j = by_count_law (count_in q x.1.term.targets) _ _ (all_paired L q j)
    where
      by_count_law : (n v l : ℕ) → Paired (pairs F first T K L q j) → Paired (if_used n (v ∷ l ∷ []) ++ pairs F first T K L q j)
      by_count_law zero v l ih = ih
      by_count_law (suc n) v l ih = omega arith
