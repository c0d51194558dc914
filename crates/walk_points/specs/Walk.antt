-- What the walk asks of a function, and that its points are few enough for the work slice. Assumes nothing.
--     walkable_checked    a text that passes refusals 4 to 7 is as asked
--     walk_small, walk_few    the walk's points have small numbers and are at most 512
use Rattle.std.specs.Prelude.{◌≡◌, refl, true, List, [], ◌∷◌, map, ℕ, ◌+◌, ◌≤◌, ◌<◌, length}
use Rattle.std.proofs.Common.{sym, subst, arith, lit<}
use Rattle.std.proofs.lemmas.List.Edits.{sets}
use Rattle.lifting.specs.Ast.{Func, Region}
use Rattle.lifting.specs.Parts.{has_body, region_of, node_list}
use Rattle.lifting.specs.References.{references_hold}
use Rattle.lifting.specs.Tree.{is_tree}
use Rattle.lifting.specs.Counts.{counts_agree}
use Rattle.lifting.specs.Control.{control_fits}
use Rattle.lifting.specs.Order.{roots}
use Rattle.lifting.specs.Points.{Table, points}
use Rattle.lifting.specs.Walk.{walk_of}
use Rattle.func.specs.Layout.{nodes}
use Rattle.func.specs.Decode.{func_of}
use Rattle.func.specs.Tables.{Tables}
use Rattle.func.proofs.Tables.{node_total}
use Rattle.general_laws.specs.Members.{In, All, all_in}
use Rattle.general_laws.specs.Tests.{all_gather, in_at}
use Rattle.lifting_runs.specs.Refers.{refers}
use Rattle.lifting_runs.specs.Order.{roots_visited}
use Rattle.lifting_runs.specs.Shaped.{Shaped}
use Rattle.lifting_runs.proofs.Shaped.{shaped_checked, visited_low, walk_once}
use Rattle.work.specs.Layout.{points_at, points_end}
use Rattle.walk_roots.specs.Tables.{RegionsNamed}
use Rattle.check_control.specs.Meets.{named_refers}
use Rattle.walk_points.specs.Numbers.{point_number, Small, points_few}
use Rattle.walk_points.specs.Below.{region_points, walk_are, region_small}

-- the tree is checked, children, ctrl lines and targets name regions, and regions name nodes
pub record Walkable (F : Func) : Type 0 where
  pub shaped : Shaped F
  pub named : RegionsNamed F
  pub node : (r n : ℕ) → In n (region_of F r).nodes → n < length F.nodes

pub walkable_checked : {w : List ℕ} → Tables w → has_body (func_of w).regions ≡ true → references_hold (func_of w) ≡ true
    → is_tree (func_of w) ≡ true → counts_agree (func_of w) ≡ true → control_fits (func_of w) ≡ true → Walkable (func_of w)
unfolding node_list
walkable_checked {w} t body references tree counts control = record {
  shaped = shaped_checked (func_of w) body references tree counts control;
  named = named_refers t references;
  node = λ r n i. all_in _ (node_list (func_of w)) (refers (func_of w) references).nodes_below n (in_at (λ (x : Region). x.nodes) (func_of w).regions _ refl r i);
}

-- m points are there, k are to come, and they fit the words
pub record PointsReady (func work : List ℕ) (m k : ℕ) : Type 0 where
  pub tables : Tables func
  pub walkable : Walkable (func_of func)
  pub size : points_end ≤ length work
  pub room : m + k ≤ 512

-- what the walk of the roots leaves
pub record Walked (F : Func) (w u : List ℕ) (m : ℕ) : Type 0 where
  pub number : m ≡ length (points (walk_of F))
  pub words : u ≡ sets w points_at (map point_number (points (walk_of F)))

pub few_nodes : {w : List ℕ} → Tables w → length (func_of w).nodes ≤ 128
few_nodes t = omega (arith, node_total t, t.counts nodes (lit< tt))

pub length_points : (T : Table) → length (points T) ≡ length T
length_points [] = refl
length_points (x ∷ T) = omega (arith, length_points T)

module _ (F : Func) (ok : Walkable F) where
  pub root_low : (r : ℕ) → In r (roots F) → r < length F.regions
  root_low r i = visited_low F ok.shaped (roots_visited F ok.shaped.targets r i)

  module _ (few : length F.nodes ≤ 128) where
    pub walk_small : All Small (points (walk_of F))
    walk_small =
        subst (All Small) (sym (walk_are F ok.shaped))
        (all_gather Small (region_points F) (roots F) (λ r i. region_small F ok.named.few few ok.shaped.forest.child_range ok.node r (root_low r i)))

    pub walk_few : length (points (walk_of F)) ≤ 512
    walk_few = points_few (points (walk_of F)) walk_small (walk_once F ok.shaped)
