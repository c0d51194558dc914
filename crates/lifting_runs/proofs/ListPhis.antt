-- Demand 2, of a list's own phis: a phi has one pair for each block of the list whose way out names the phi's block, and no other, and the pair
-- holds the value that moves along that edge. An id that names a block is no input's, since new ids differ. Assumes nothing.
use Rattle.std.specs.Prelude.{◌≡◌, get_or, length}
use Rattle.std.proofs.Math.Path.{refl, ap}
use Rattle.std.proofs.Common.{sym, ◌∙◌, subst, inl, inr}
use mathlib.Core.List.{List, [], ◌∷◌, map}
use Prim.Native.Nat.{ℕ, ◌<◌}
use native.Mathlib.Omega.{arith}
use Rattle.lifting.specs.Ast.{Func}
use Rattle.lifting.specs.Points.{BlockLifting, CfgPoint, Table, points}
use Rattle.lifting.specs.Ids.{id_of, label_of}
use Rattle.lifting.specs.Instructions.{Instruction, body_insts, pairs}
use Rattle.lifting.specs.BlockRun.{pair_of, phis_of}
use Rattle.general_laws.specs.Members.{In, NoDup, all_in, in_map, in_right, in_split, map_in}
use Rattle.lifting_runs.specs.Ids.{KnownIds, id_label, label_inj}
use Rattle.lifting_runs.specs.Listing.{blocks_for, body_phis}
use Rattle.lifting_runs.specs.EmitRun.{BlockOk, Sound, free_of, point_named}
use Rattle.lifting_runs.specs.Tour.{find_unique, in_points, unique_of}
use Rattle.lifting_runs.specs.Pairs.{OnePairEach, one_pair_each, pair_labels}
use Rattle.lifting_runs.specs.ListPhis.{way_ids, phi_ids, ListEdge, PhiPairs, body_way, phi_at_law, all_paired}

module _ (F : Func) (first : ℕ) (T K : Table) where
  -- its blocks are the kept ones
  abbrev block_of : CfgPoint × BlockLifting → ℕ × List Instruction
  block_of x = (label_of F first T K x.0, body_insts F first T K x.0 x.1)

  blocks_are : (L : Table) → blocks_for F first T K L ≡ map block_of L
  blocks_are [] = refl
  blocks_are (x ∷ L) = ap (λ (l : List (ℕ × List Instruction)). block_of x ∷ l) (blocks_are L)

  module _ (ok : Sound F first T K) (once : NoDup (points K)) where
    abbrev bs : List (ℕ × List Instruction)
    bs = blocks_for F first T K K

    kept_block : {y : ℕ × List Instruction} → In y bs → (x : CfgPoint × BlockLifting) × In x K × (y ≡ block_of x)
    kept_block {y} i = map_in block_of K (subst (In y) (blocks_are K) i)

    block_ok : (x : CfgPoint × BlockLifting) → In x K → BlockOk F first T K x.1
    block_ok x i = all_in (λ (y : CfgPoint × BlockLifting). BlockOk F first T K y.1) K ok.all_ok x i

    -- a way out that names the label of a kept point has it as a target
    target_of : (x : CfgPoint × BlockLifting) → In x K → (q : CfgPoint) → In q (points K) → In (label_of F first T K q) (way_ids (block_of x).1) → In q x.1.term.targets
    target_of x i q k h = elim (in_split (map (id_of F first T K) x.1.term.ins) _ (subst (In (label_of F first T K q)) (body_way F first T K x.0 x.1) h)) [
      | inl a ↦ (let w = map_in (id_of F first T K) x.1.term.ins a in
          absurd (id_label F first T K ok.numbered w.0 q (all_in (KnownIds F first T K) x.1.term.ins (block_ok x i).ins_known w.0 w.1) (point_named F first T K q k) (sym w.2)))
      | inr b ↦ (let w = map_in (label_of F first T K) x.1.term.targets b in
          subst (λ (p : CfgPoint). In p x.1.term.targets) (sym (label_inj F first T K ok.numbered q w.0 (point_named F first T K q k) w.2)) w.1)
    ]

    -- an edge of the list is one between kept blocks, and back
    edge_from_law : (q : CfgPoint) → In q (points K) → (k : ℕ) → ListEdge bs k (label_of F first T K q) → (x : CfgPoint × BlockLifting) × In x K × (k ≡ label_of F first T K x.0) × In q x.1.term.targets
    edge_from_law q h k (body, i, j) =
        let w = kept_block i in
        (w.0, w.1, ap (λ (z : ℕ × List Instruction). z.0) w.2, target_of w.0 w.1 q h (subst (λ (z : ℕ × List Instruction). In (label_of F first T K q) (way_ids z.1)) w.2 j))

    edge_to : (q : CfgPoint) (x : CfgPoint × BlockLifting) → In x K → In q x.1.term.targets → ListEdge bs (label_of F first T K x.0) (label_of F first T K q)
    edge_to q x i t = (
      (block_of x).1,
      subst (In (block_of x)) (sym (blocks_are K)) (in_map block_of i),
      subst (In (label_of F first T K q)) (sym (body_way F first T K x.0 x.1)) (in_right (map (id_of F first T K) x.1.term.ins) (in_map (label_of F first T K) t)),
    )

    phi_of_kept : (x : CfgPoint × BlockLifting) → In x K → (j : ℕ) → j < length (phis_of (block_of x).1) → PhiPairs F first T K bs (label_of F first T K x.0) j (phi_ids (block_of x).1 j)
    phi_of_kept x i j h =
        let q = x.0 in
        let here_is = in_points K x i in
        let is = body_phis F first T K q x.1 (free_of F first T K ok x.1 (block_ok x i)) in
        let at = phi_at_law F first T K q x.1.keys x.1.decls 0 j (subst (λ (l : List Instruction). j < length l) is h) in
        let e : phi_ids (block_of x).1 j ≡ pairs F first T K K q j = ap (λ (l : List Instruction). get_or (map (λ p. p.ids) l) j []) is ∙ at.0 ∙ ap (pairs F first T K K q) (omega arith) in
        let p : OnePairEach F first T K q j (pairs F first T K K q j) = one_pair_each F first T K ok once q j in
        subst (PhiPairs F first T K bs (label_of F first T K q) j) (sym e) (record {
          paired = all_paired F first T K K q j;
          once = p.once;
          has_edge = λ k m. let w = p.has_edge k m in subst (λ (n : ℕ). ListEdge bs n (label_of F first T K q)) (sym w.2) (edge_to q w.0 w.1 w.3);
          has_pair = λ k d. let w = edge_from_law q here_is k d in subst (λ (n : ℕ). In n (pair_labels (pairs F first T K K q j))) (sym w.2) (p.has_pair w.0 w.1 w.3);
          holds_value = λ k d. let w = edge_from_law q here_is k d in record {
            from = w.0;
            to = q;
            from_kept = w.1;
            leads = w.3;
            from_label = w.2;
            to_label = refl;
            has_value = omega (arith, at.1, (block_ok w.0 w.1).edges_fit_law q x.1 w.3 (find_unique K (unique_of K once) q x.1 i));
            value_is = ap (λ (n : ℕ). pair_of n (pairs F first T K K q j)) w.2 ∙ p.holds_value w.0 w.1 w.3;
          };
        })

    pub phi_pairs_of : (l : ℕ) (body : List Instruction) → In (l, body) (blocks_for F first T K K) → (j : ℕ) → j < length (phis_of body) → PhiPairs F first T K (blocks_for F first T K K) l j (phi_ids body j)
    phi_pairs_of l body i =
        let w = kept_block i in
        subst (λ (y : ℕ × List Instruction). (j : ℕ) → j < length (phis_of y.1) → PhiPairs F first T K bs y.0 j (phi_ids y.1 j)) (sym w.2) (phi_of_kept w.0 w.1)
