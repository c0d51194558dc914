-- The points of a region and of a node, with all that they hold, in the order of the walk. Assumes nothing.
--     region_are, node_are    the entry, the points of what is held in turn, and the exit
--     walk_are                the walk's points are those of the roots in turn
--     region_words_law, node_words_law, walk_words     the same for the numbers of the points
--     region_small            regions and nodes of the text have small numbers
use Rattle.std.specs.Prelude.{◌≡◌, length}
use Rattle.std.proofs.Math.Path.{refl, ap}
use Rattle.std.proofs.Common.{sym, ◌∙◌}
use mathlib.Core.List.{List, [], ◌∷◌, ◌++◌, map}
use Prim.Native.Nat.{ℕ, zero, suc, ◌≤◌, ◌<◌}
use native.Mathlib.Omega.{arith}
use Rattle.general_laws.specs.Lists.{gather}
use Rattle.lifting.specs.Ast.{Func}
use Rattle.lifting.specs.Parts.{region_of, node_of, children_of}
use Rattle.lifting.specs.Order.{roots}
use Rattle.lifting.specs.Points.{CfgPoint, region_entry, region_exit, node_entry, node_exit, Table, points}
use Rattle.lifting.specs.Walk.{Place, top, in_node, next_point, exit_block, walk_kids, walk_node, walk_nodes, walk_region, walk_roots, walk_of}
use Rattle.general_laws.specs.Gather.{map_append, map_gather}
use Rattle.general_laws.specs.Members.{In, here, there, All, all_append}
use Rattle.general_laws.specs.Tests.{all_gather}
use Rattle.lifting_runs.specs.Tour.{Tree, points_append}
use Rattle.lifting_runs.specs.Shaped.{Shaped}
use Rattle.lifting_runs.proofs.Shaped.{tree, walk_is}
use Rattle.walk_points.specs.Numbers.{point_number, Small}

module _ (F : Func) where
  -- a node's points, where w has those of its regions
  abbrev node_by : (ℕ → List CfgPoint) → ℕ → List CfgPoint
  node_by w n = node_entry n ∷ (gather w (children_of (node_of F n)) ++ (node_exit n ∷ []))

  -- at most k regions deep
  region_to : ℕ → ℕ → List CfgPoint
  region_to zero r = []
  region_to (suc k) r = region_entry r ∷ (gather (node_by (region_to k)) (region_of F r).nodes ++ (region_exit r ∷ []))

  -- No region holds more regions one in the other than there are.
  pub region_points : ℕ → List CfgPoint
  region_points r = region_to (suc (length F.regions)) r

  pub node_points : ℕ → List CfgPoint
  node_points n = node_by region_points n

  -- their numbers
  abbrev pub region_words : ℕ → List ℕ
  region_words r = map point_number (region_points r)

  abbrev pub node_words : ℕ → List ℕ
  node_words n = map point_number (node_points n)

gather_alike : {A B : Type 0} (f g : A → List B) (l : List A) → ((x : A) → In x l → f x ≡ g x) → gather f l ≡ gather g l
gather_alike f g [] h = refl
gather_alike {A} {B} f g (x ∷ l) h = ap (λ (k : List B). k ++ gather f l) (h x here) ∙ ap (λ (k : List B). g x ++ k) (gather_alike f g l (λ y i. h y (there i)))

-- ---- the walk's points

module _ (F : Func) where
  module _ (w : ℕ → Place → Table) (v : ℕ → List CfgPoint) (same : (c : ℕ) (p : Place) → points (w c p) ≡ v c) where
    kids_are : (n : ℕ) (cs : List ℕ) → points (walk_kids F w n cs) ≡ gather v cs
    kids_are n [] = refl
    kids_are n (c ∷ cs) =
        points_append (w c (in_node n)) (walk_kids F w n cs)
        ∙ ap (λ (l : List CfgPoint). l ++ points (walk_kids F w n cs)) (same c (in_node n))
        ∙ ap (λ (l : List CfgPoint). v c ++ l) (kids_are n cs)

    one_are : (n : ℕ) (q : CfgPoint) → points (walk_node F w n q) ≡ node_by F v n
    one_are n q =
        ap (λ (l : List CfgPoint). node_entry n ∷ l)
        (points_append (walk_kids F w n (children_of (node_of F n))) _ ∙ ap (λ (l : List CfgPoint). l ++ (node_exit n ∷ [])) (kids_are n (children_of (node_of F n))))

    nodes_are : (r : ℕ) (ns : List ℕ) → points (walk_nodes F w r ns) ≡ gather (node_by F v) ns
    nodes_are r [] = refl
    nodes_are r (n ∷ ns) =
        points_append (walk_node F w n (next_point r ns)) (walk_nodes F w r ns)
        ∙ ap (λ (l : List CfgPoint). l ++ points (walk_nodes F w r ns)) (one_are n (next_point r ns))
        ∙ ap (λ (l : List CfgPoint). node_by F v n ++ l) (nodes_are r ns)

  to_are : (k r : ℕ) (p : Place) → points (walk_region F k r p) ≡ region_to F k r
  unfolding region_to
  to_are zero r p = refl
  to_are (suc k) r p =
      ap (λ (l : List CfgPoint). region_entry r ∷ l)
      (points_append (walk_nodes F (λ c q. walk_region F k c q) r (region_of F r).nodes) ((region_exit r, exit_block F r p) ∷ [])
      ∙ ap (λ (l : List CfgPoint). l ++ (region_exit r ∷ [])) (nodes_are (λ c q. walk_region F k c q) (region_to F k) (λ c q. to_are k c q) r (region_of F r).nodes))

  roots_are : (rs : List ℕ) → points (walk_roots F (suc (length F.regions)) rs) ≡ gather (region_points F) rs
  unfolding region_points
  roots_are [] = refl
  roots_are (r ∷ rs) =
      points_append (walk_region F (suc (length F.regions)) r top) (walk_roots F (suc (length F.regions)) rs)
      ∙ ap (λ (l : List CfgPoint). l ++ points (walk_roots F (suc (length F.regions)) rs)) (to_are (suc (length F.regions)) r top)
      ∙ ap (λ (l : List CfgPoint). region_points F r ++ l) (roots_are rs)

  pub walk_are : Shaped F → points (walk_of F) ≡ gather (region_points F) (roots F)
  walk_are ok = ap points (sym (walk_is F ok)) ∙ roots_are (roots F)

-- ---- one step of the walk

module _ (F : Func) (depth : ℕ) (t : Tree F depth) where
  -- more regions deep than the rank says gives no further point
  enough : (k r : ℕ) → t.rank r < k → region_to F k r ≡ region_to F (suc k) r
  unfolding region_to
  enough zero r h = absurd (omega arith)
  enough (suc k) r h =
      ap (λ (l : List CfgPoint). region_entry r ∷ (l ++ (region_exit r ∷ [])))
      (gather_alike (node_by F (region_to F k)) (node_by F (region_to F (suc k))) (region_of F r).nodes (λ n i.
      ap (λ (l : List CfgPoint). node_entry n ∷ (l ++ (node_exit n ∷ [])))
      (gather_alike (region_to F k) (region_to F (suc k)) (children_of (node_of F n)) (λ c j. enough k c (omega (arith, t.rank_falls r n c i j))))))

module _ (F : Func) where
  pub region_are : Shaped F → (r : ℕ) → region_points F r ≡ region_entry r ∷ (gather (node_points F) (region_of F r).nodes ++ (region_exit r ∷ []))
  unfolding region_points node_points region_to
  region_are ok r = enough F (suc (length F.regions)) (tree F ok) (suc (length F.regions)) r ((tree F ok).rank_low r)

  pub node_are : (n : ℕ) → node_points F n ≡ node_entry n ∷ (gather (region_points F) (children_of (node_of F n)) ++ (node_exit n ∷ []))
  unfolding node_points
  node_are n = refl

  -- the numbers of an entry, of what is held, and of an exit
  held : (f : ℕ → List CfgPoint) (l : List ℕ) (a b : CfgPoint)
      → map point_number (a ∷ (gather f l ++ (b ∷ []))) ≡ point_number a ∷ (gather (λ x. map point_number (f x)) l ++ (point_number b ∷ []))
  held f l a b =
      ap (λ (k : List ℕ). point_number a ∷ k)
      (map_append point_number (gather f l) (b ∷ []) ∙ ap (λ (k : List ℕ). k ++ (point_number b ∷ [])) (map_gather point_number f l))

  pub region_words_law : Shaped F → (r : ℕ)
      → region_words F r ≡ point_number (region_entry r) ∷ (gather (node_words F) (region_of F r).nodes ++ (point_number (region_exit r) ∷ []))
  region_words_law ok r = ap (map point_number) (region_are ok r) ∙ held (node_points F) (region_of F r).nodes (region_entry r) (region_exit r)

  pub node_words_law : (n : ℕ) → node_words F n ≡ point_number (node_entry n) ∷ (gather (region_words F) (children_of (node_of F n)) ++ (point_number (node_exit n) ∷ []))
  node_words_law n = ap (map point_number) (node_are n) ∙ held (region_points F) (children_of (node_of F n)) (node_entry n) (node_exit n)

  pub walk_words : Shaped F → map point_number (points (walk_of F)) ≡ gather (region_words F) (roots F)
  walk_words ok = ap (map point_number) (walk_are F ok) ∙ map_gather point_number (region_points F) (roots F)

-- ---- small numbers

module _ (F : Func) (few : length F.regions ≤ 128) (few_nodes : length F.nodes ≤ 128)
    (child : (n c : ℕ) → In c (children_of (node_of F n)) → c < length F.regions)
    (node : (r n : ℕ) → In n (region_of F r).nodes → n < length F.nodes) where
  to_small : (k r : ℕ) → r < length F.regions → All Small (region_to F k r)
  unfolding region_to
  to_small zero r h = tt
  to_small (suc k) r h =
      let ns : List ℕ = (region_of F r).nodes in (
        omega arith,
        all_append Small (gather (node_by F (region_to F k)) ns) (region_exit r ∷ []) (all_gather Small (node_by F (region_to F k)) ns (λ n i.
            let low : n < 128 = omega (arith, node r n i) in
            let cs : List ℕ = children_of (node_of F n) in
            (low, all_append Small (gather (region_to F k) cs) (node_exit n ∷ []) (all_gather Small (region_to F k) cs (λ c j. to_small k c (child n c j))) (low, tt)))) (omega arith, tt),
      )

  pub region_small : (r : ℕ) → r < length F.regions → All Small (region_points F r)
  unfolding region_points
  region_small r h = to_small (suc (length F.regions)) r h
