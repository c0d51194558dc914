-- The laws that later code cites. F is any text with a body that passes refusals 1 to 7 (`Shaped`: every accepted text is so), T its walk, K
-- what is kept of it. Assumes nothing.
use Rattle.std.specs.Prelude.{◌≡◌, true, ℕ, suc, ◌+◌, ◌<◌, ltb, drop, get_or, length}
use Rattle.std.proofs.Common.{ap}
use Rattle.std.proofs.Math.Path.{ap₂}
use mathlib.Core.List.{List, [], ◌∷◌, ◌++◌, map}
use Rattle.std.proofs.Math.Option.{none}
use Rattle.general_laws.specs.Lists.{every}
use Rattle.lifting.specs.Ast.{Func, Value}
use Rattle.lifting.specs.References.{named}
use Rattle.lifting.specs.Points.{BlockLifting, CfgPoint, Table, Terminator, edge_of, points, region_entry, straight}
use Rattle.lifting.specs.Walk.{walk_of}
use Rattle.lifting.specs.Absorb.{count_in, keep, kept, labels, use_count}
use Rattle.lifting.specs.Ids.{id_of, label, names, new_id, op_keys, param_keys, phi_keys, the_function, value}
use Rattle.lifting.specs.Instructions.{block_insts, list_of, pairs}
use Rattle.lifting.specs.Words.{words}
use Rattle.lifting.specs.Answer.{is_set, used_values, values_set}
use Rattle.general_laws.specs.Members.{In, NoDup}
use Rattle.lifting_runs.specs.Accepted.{Numbered}
use Rattle.lifting_runs.specs.Refers.{Refers}
use Rattle.lifting_runs.specs.Terms.{TermOk}
use Rattle.lifting_blocks.specs.Flat.{Pass, block_parts, absorb_runs, gone, no_pair, part_at, status_at, up_to}
use Rattle.lifting_runs.specs.Shaped.{Shaped}
use Rattle.lifting_runs.proofs.Shaped.{walk_first, walk_once}
use Rattle.lifting_blocks.specs.Chain.{chain_get_or, first_in_table}
use Rattle.lifting_blocks.specs.Steps.{Step, walk_steps}
use Rattle.lifting_blocks.specs.Follow.{goes_on, walk_follows}
use Rattle.lifting_blocks.specs.Uses.{labels_visited}
use Rattle.lifting_blocks.specs.Totals.{all_labels, total, total_uses, use_count_law, uses_of}
use Rattle.lifting_blocks.specs.Neighbours.{Near, kept_into}
use Rattle.lifting_blocks.specs.Nearby.{walk_near}
use Rattle.lifting_blocks.specs.NeverDecides.{by_count_alone, kept_by_count}
use Rattle.lifting_blocks.specs.Phis.{SamePhis, edge_kept, phi_keys_kept, with_phis}
use Rattle.lifting_blocks.specs.SetIds.{id_at, shaped_names_once, set_id_law}
use Rattle.lifting_blocks.specs.Kept.{edge_fits, label_kept}
use Rattle.lifting_blocks.specs.Standing.{stands_term}
use Rattle.lifting_blocks.specs.Missing.{list_set}
use Rattle.lifting_blocks.specs.ListFlat

module _ (F : Func) where
  abbrev T : Table
  T = walk_of F

  abbrev K : Table
  K = kept (walk_of F)

  -- what a pass writes at the i-th visited point
  abbrev at : {A : Type 0} → Pass A → ℕ → List A
  at m i = part_at (use_count T) m T i

  module _ (ok : Shaped F) where
    -- The walk. Each point stands in it once, region 0's entry first.
    pub each_once : NoDup (points T)
    each_once = walk_once F ok

    pub body_first : (get_or T 0 no_pair).0 ≡ region_entry 0
    body_first = ap (λ (U : Table). (get_or U 0 no_pair).0) (walk_first F ok).1

    -- Each entry is the entry or exit of a visited region, or of a node in one, with the point that comes next.
    pub steps : (i : ℕ) → i < length T → Step F (get_or T i no_pair) (first_in_table (drop (suc i) T) none)
    steps = chain_get_or (Step F) T none (walk_steps F ok)

    -- A region's entry, a block's entry and a node's exit go straight to the point that is visited next.
    pub follows : (i : ℕ) → i < length T → goes_on F (get_or T i no_pair).0 ≡ true → (suc i < length T) × ((get_or T i no_pair).1.term ≡ straight (get_or T (suc i) no_pair).0)
    follows = walk_follows F ok

    -- Every target and merge label of a visited block is visited.
    pub visited : (x : CfgPoint × BlockLifting) → In x T → (q : CfgPoint) → In q (labels x.1.term) → In q (points T)
    visited = labels_visited F ok

    -- Use counts: how often a point stands among the first point, all targets and all merge labels; and their total.
    pub counted : (q : CfgPoint) → use_count T q ≡ count_in q (uses_of T)
    counted = use_count_law T

    pub all_counted : total (use_count T) (points T) ≡ suc (length (all_labels T))
    all_counted = total_uses F ok

    -- Absorption. A block only ever absorbs the point right after it, so absorption in reverse order is absorbing neighbours.
    pub near : Near (use_count T) T
    near = walk_near F ok

    pub kept_is : K ≡ keep (use_count T) (absorb_runs (use_count T) T)
    kept_is = kept_into T each_once near

    -- Passes. Any pass over the kept blocks is one flat pass over the visited points.
    pub pass_is : {A : Type 0} (m : Pass A) → block_parts m K ≡ up_to (at m) (length T)
    pass_is = ListFlat.pass_flat T each_once near

    pub points_are : points K ≡ up_to (at ListFlat.heads) (length T)
    points_are = ListFlat.points_flat T each_once near

    pub results_are : op_keys F K ≡ up_to (at (ListFlat.result_pass F)) (length T)
    results_are = ListFlat.results_flat T each_once near F

    pub names_are : names F T K ≡ the_function ∷ (map value (param_keys F ++ (phi_keys T ++ up_to (at (ListFlat.result_pass F)) (length T))) ++ map label (up_to (at ListFlat.heads) (length T)))
    unfolding names
    names_are = ap₂ (λ (vs : List Value) (ps : List CfgPoint). the_function ∷ (map value (param_keys F ++ (phi_keys T ++ vs)) ++ map label ps)) results_are points_are

    pub used_are : used_values F K ≡ up_to (at (ListFlat.reading F K)) (length T)
    used_are = ListFlat.used_flat T each_once near F

    pub pairs_are : (first : ℕ) (q : CfgPoint) (j : ℕ) → pairs F first T K K q j ≡ up_to (at (ListFlat.pairing F first T K q j)) (length T)
    pairs_are = ListFlat.pairs_flat T each_once near F

    pub instructions_are : (first : ℕ) → block_insts F first T K K ≡ up_to (at (ListFlat.writing F first T K)) (length T)
    instructions_are = ListFlat.blocks_flat T each_once near F

    pub words_are : (first : ℕ) → words (block_insts F first T K K) ≡ up_to (λ i. words (at (ListFlat.writing F first T K) i)) (length T)
    words_are = ListFlat.words_flat T each_once near F

    -- What a kept block leads to is kept, and takes as many values along the edge as it has phis.
    pub leads_kept : (x : CfgPoint × BlockLifting) → In x K → (q : CfgPoint) → In q (labels x.1.term) → In q (points K)
    leads_kept = label_kept F ok

    pub edges_fit_law : (x : CfgPoint × BlockLifting) → In x K → (q : CfgPoint) → In q x.1.term.targets → (b : BlockLifting) → In (q, b) K → length b.keys ≡ length (edge_of K x.1.term q)
    edges_fit_law = edge_fits F ok

    -- The same of the visited points that are not gone, so stand in a kept block. A case that ends in an exit may have too few outputs, and its
    -- exit is gone.
    pub stands_fit : (i : ℕ) → i < length T → ¬ (status_at (use_count T) T i ≡ gone) → TermOk T (get_or T i no_pair).1.term
    stands_fit = stands_term F ok

    -- Phis. No point that has some is dropped or absorbed, and a block's phis stay as they are.
    pub phis_stay : (x : CfgPoint × BlockLifting) → In x T → ¬ (x.1.keys ≡ []) → (b : BlockLifting) × In (x.0, b) K × SamePhis b x.1
    phis_stay = with_phis F ok

    -- The test that an absorbed target has no phis never decides: absorption by use counts alone keeps the same.
    pub count_decides : kept_by_count T ≡ K
    count_decides = by_count_alone F ok

    pub phi_keys_are : phi_keys K ≡ phi_keys T
    phi_keys_are = phi_keys_kept F ok

    pub edge_unchanged : (t : Terminator) (q : CfgPoint) → edge_of K t q ≡ edge_of T t q
    edge_unchanged = edge_kept F ok

    -- Ids. No name stands twice, and the k-th name has the k-th id.
    pub list_names_once : NoDup (names F T K)
    list_names_once = shaped_names_once F ok

    pub ids_in_order : (first k : ℕ) → k < length (names F T K) → new_id F first T K (get_or (names F T K) k the_function) ≡ first + k
    ids_in_order = id_at F ok

    -- A value that names something is set exactly if its id is not 0.
    pub is_set_law : (first : ℕ) → Numbered F first → (v : Value) → named F v ≡ true → is_set F K v ≡ ltb 0 (id_of F first T K v)
    is_set_law = set_id_law F ok

    -- Refusal 10: a kept instruction uses a value that is not set exactly if some id of the list is 0.
    pub all_set : Refers F → (first : ℕ) → Numbered F first → values_set F ≡ every (λ i. every (λ n. ltb 0 n) i.ids) (list_of F first)
    all_set = list_set F ok
