-- No name and no kept point of an accepted text with a body stands twice. Assumes nothing.
use Rattle.std.specs.Prelude.{◌≡◌, true, ℕ, suc, length}
use Rattle.std.proofs.Common.{subst}
use Rattle.lifting.specs.Ast.{Func}
use Rattle.lifting.specs.Parts.{has_body}
use Rattle.lifting.specs.Order.{roots}
use Rattle.lifting.specs.Points.{Table, points}
use Rattle.lifting.specs.Walk.{walk_of, walk_roots}
use Rattle.lifting.specs.Absorb.{kept}
use Rattle.lifting.specs.Ids.{names}
use Rattle.general_laws.specs.Members.{NoDup}
use Rattle.lifting_runs.specs.Accepted.{Accepted}
use Rattle.lifting_runs.specs.TourOnce.{roots_nodup}
use Rattle.lifting_runs.specs.Order.{roots_ok}
use Rattle.lifting_runs.specs.Forest.{tree_of}
use Rattle.lifting_runs.proofs.Shaped.{shaped_accepted, walk_is}
use Rattle.lifting_runs.specs.IdsOnce.{kept_points, names_once}

module _ (F : Func) (first : ℕ) (ok : Accepted F first) (body : has_body F.regions ≡ true) where
  abbrev T : Table
  T = walk_of F

  abbrev K : Table
  K = kept (walk_of F)

  abbrev depth : ℕ
  depth = suc (length F.regions)

  walked_once : NoDup (points (walk_roots F depth (roots F)))
  walked_once = roots_nodup F depth (tree_of F ok.forest) depth (roots F) (roots_ok F ok.targets).once (roots_ok F ok.targets).no_child

  pub no_name_twice : NoDup (names F T K)
  no_name_twice = subst (λ (t : Table). NoDup (names F t (kept t))) (walk_is F (shaped_accepted F first ok body))
      (names_once F depth (tree_of F ok.forest) ok.targets.body_root ok.forest (roots F) (roots_ok F ok.targets).no_child walked_once)

  pub no_point_twice : NoDup (points K)
  no_point_twice = subst (λ (t : Table). NoDup (points (kept t))) (walk_is F (shaped_accepted F first ok body))
      (kept_points F depth (tree_of F ok.forest) ok.targets.body_root ok.forest (roots F) (roots_ok F ok.targets).no_child walked_once)
