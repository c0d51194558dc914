-- The phis of a visited point as the emitter writes them: phi by phi, and the pairs of each edge by edge. Assumes nothing.
--     pairs_edges, pairs_count    the pairs of a phi are those of the edges into its point, and each has two ids
--     phi_runs                    a phi is what stands before its ids, and its pairs
--     phis_each                   the phis of a point, one by one
use Rattle.std.specs.Prelude.{◌≡◌, true, get_or, length}
use Rattle.std.proofs.Math.Path.{refl, sym, ap}
use Rattle.std.proofs.Common.{◌∙◌}
use mathlib.Core.List.{List, [], ◌∷◌, ◌++◌, map}
use Prim.Native.Nat.{ℕ, suc, ◌+◌, ◌*◌, ◌<◌}
use native.Mathlib.Omega.{arith}
use Rattle.opcodes.specs.Table.{opcode_of}
use Rattle.opcodes.specs.declared.InstKind.TheVariants.{Phi}
use Rattle.general_laws.specs.Lists.{gather}
use Rattle.lifting.specs.Ast.{Decl, Func, Value, const}
use Rattle.lifting.specs.Control.{control_fits}
use Rattle.lifting.specs.Points.{CfgPoint, Table}
use Rattle.lifting.specs.Walk.{walk_of}
use Rattle.lifting.specs.Absorb.{kept}
use Rattle.lifting.specs.Instructions.{pairs, phi_inst, phi_insts}
use Rattle.general_laws.specs.Gather.{map_gather}
use Rattle.func.specs.Kinds.{decl_from}
use Rattle.lifting_runs.specs.Shaped.{Shaped}
use Rattle.lifting_blocks.specs.Flat.{up_to}
use Rattle.lifting_blocks.specs.FlatLaws.{up_to_cons, up_to_same}
use Rattle.terminators.specs.At.{visited_block, point_at}
use Rattle.emit_words.specs.Put.{Item, id}
use Rattle.emit_words.specs.Items.{inst_items, list_items}
use Rattle.emit_edge_ends.specs.Ends.{edges_into}
use Rattle.emit_edge_ends.specs.Pairs.{edge_pair, pairs_linked}
use Rattle.emit_names.specs.Ids.{id_in}
use Rattle.emit_insts.specs.Parts.{front_same, front_items, phi_is}

module _ (F : Func) (first : ℕ) where
  -- the pair of an edge into the i-th visited point, for phi j
  abbrev pub pair_in : ℕ → ℕ → ℕ × ℕ → List Item
  pair_in i j o = map id (edge_pair F first (visited_block F i).defaults j o)

  -- the ids of phi j
  abbrev pub pairs_of : ℕ → ℕ → List ℕ
  pairs_of i j = pairs F first (walk_of F) (kept (walk_of F)) (kept (walk_of F)) (point_at F i) j

  abbrev pub pairs_in : ℕ → ℕ → List Item
  pairs_in i j = map id (pairs_of i j)

  -- phi j of the i-th visited point
  abbrev pub phi_in : ℕ → ℕ → List Item
  phi_in i j =
      inst_items (phi_inst F first (walk_of F) (kept (walk_of F)) (point_at F i) (get_or (visited_block F i).keys j (const 0)) (get_or (visited_block F i).decls j (decl_from 0 0)) j)

  -- all of its phis
  abbrev pub phi_items_at : ℕ → List Item
  phi_items_at i = list_items (phi_insts F first (walk_of F) (kept (walk_of F)) (point_at F i) (visited_block F i).keys (visited_block F i).decls 0)

two_each : {A : Type 0} (f g : A → ℕ) (l : List A) → length (gather (λ o. f o ∷ g o ∷ []) l) ≡ 2 * length l
two_each f g [] = omega arith
two_each f g (o ∷ l) = omega (arith, two_each f g l)

module _ (F : Func) (ok : Shaped F) (control : control_fits F ≡ true) (first i j : ℕ) (h : i < length (walk_of F)) (l : j < length (visited_block F i).keys) where
  pub pairs_edges : gather (pair_in F first i j) (edges_into F (point_at F i) 0) ≡ pairs_in F first i j
  pairs_edges =
      sym (ap (map id) (pairs_linked F ok control first i j h l) ∙ map_gather id (edge_pair F first (visited_block F i).defaults j) (edges_into F (point_at F i) 0))

  pub pairs_count : length (pairs_of F first i j) ≡ 2 * length (edges_into F (point_at F i) 0)
  pairs_count = ap length (pairs_linked F ok control first i j h l) ∙ two_each _ _ (edges_into F (point_at F i) 0)

pub phi_runs : (F : Func) (first i j : ℕ) {o a t r n : ℕ} → o ≡ opcode_of Phi → a ≡ (get_or (visited_block F i).decls j (decl_from 0 0)).attrs
    → t ≡ (get_or (visited_block F i).decls j (decl_from 0 0)).type → r ≡ id_in F first (get_or (visited_block F i).keys j (const 0)) → n ≡ length (pairs_of F first i j)
    → front_items o a t r [] n ++ pairs_in F first i j ≡ phi_in F first i j
phi_runs F first i j {o} {a} {t} {r} eo ea et er en =
    ap (λ (k : ℕ). front_items o a t r [] k ++ pairs_in F first i j) en
    ∙ ap (λ (f : List Item). f ++ pairs_in F first i j) (front_same (length (pairs_of F first i j)) eo ea et er refl)
    ∙ phi_is F first (walk_of F) (kept (walk_of F)) (point_at F i) (get_or (visited_block F i).keys j (const 0)) (get_or (visited_block F i).decls j (decl_from 0 0)) j

-- from phi j on
module _ (F : Func) (first : ℕ) (T K : Table) (q : CfgPoint) (ds : List Decl) where
  abbrev phi_at : Value → ℕ → List Item
  phi_at v j = inst_items (phi_inst F first T K q v (get_or ds j (decl_from 0 0)) j)

  phis_from : (ks : List Value) (j : ℕ) → list_items (phi_insts F first T K q ks ds j) ≡ up_to (λ k. phi_at (get_or ks k (const 0)) (j + k)) (length ks)
  unfolding phi_insts list_items up_to
  phis_from [] j = refl
  phis_from (v ∷ ks) j =
      let z : j + 0 ≡ j = omega arith in
      ap (λ (l : List Item). phi_at v j ++ l)
      (phis_from ks (suc j) ∙ up_to_same _ _ (λ k. let s : suc j + k ≡ j + suc k = omega arith in ap (phi_at (get_or ks k (const 0))) s) (length ks))
      ∙ ap (λ (n : ℕ). phi_at v n ++ up_to (λ k. phi_at (get_or ks k (const 0)) (j + suc k)) (length ks)) (sym z)
      ∙ sym (up_to_cons (λ k. phi_at (get_or (v ∷ ks) k (const 0)) (j + k)) (length ks))

pub phis_each : (F : Func) (first i : ℕ) → up_to (phi_in F first i) (length (visited_block F i).keys) ≡ phi_items_at F first i
phis_each F first i =
    let ks : List Value = (visited_block F i).keys in
    let ds : List Decl = (visited_block F i).decls in
    let at = phi_at F first (walk_of F) (kept (walk_of F)) (point_at F i) ds in
    sym (phis_from F first (walk_of F) (kept (walk_of F)) (point_at F i) ds ks 0
    ∙ up_to_same _ _ (λ k. let z : 0 + k ≡ k = omega arith in ap (at (get_or ks k (const 0))) z) (length ks))
