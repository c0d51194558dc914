-- The walk of a text with a body of which refusals 1 to 7 left what `Shaped` says: each point once, with the block that is meant to stand there.
-- Assumes nothing.
use Rattle.std.specs.Prelude.{◌≡◌, ◌⊎◌, Bool, ℕ, suc, ◌<◌, length}
use Rattle.std.proofs.Math.Path.{sym}
use Rattle.std.proofs.Common.{ap, ◌∙◌, subst}
use Rattle.std.proofs.Math.Bool.{true, false}
use mathlib.Core.List.{List, [], ◌∷◌}
use Rattle.lifting.specs.Ast.{Func}
use Rattle.lifting.specs.Parts.{has_body, region_of}
use Rattle.lifting.specs.References.{references_hold}
use Rattle.lifting.specs.Tree.{is_tree}
use Rattle.lifting.specs.Counts.{counts_agree}
use Rattle.lifting.specs.Control.{control_fits}
use Rattle.lifting.specs.Order.{roots}
use Rattle.lifting.specs.Points.{BlockLifting, CfgPoint, Table, block_at, node_exit, points, region_entry, region_exit}
use Rattle.lifting.specs.Walk.{Place, entry_block, top, walk_of, walk_roots}
use Rattle.general_laws.specs.Members.{All, In, NoDup, all_left, all_right, here}
use Rattle.lifting_runs.specs.Accepted.{Accepted}
use Rattle.lifting_runs.specs.Refers.{refers}
use Rattle.lifting_runs.specs.Fits
use Rattle.lifting_runs.specs.Places.{LaidAt, Suffix, VisitedAt, at_body, by_ctrl, in_case, in_loop}
use Rattle.lifting_runs.specs.AbsorbAll.{Tidy}
use Rattle.lifting_runs.specs.Tour.{Tree, in_points}
use Rattle.lifting_runs.specs.TourOnce.{roots_nodup}
use Rattle.lifting_runs.specs.TourLaid.{Roots, covers, here_exit, here_out, walk_laid, walk_tidy}
use Rattle.lifting_runs.specs.Order.{roots_ok, roots_visited}
use Rattle.lifting_runs.specs.Forest.{tree_of}
use Rattle.lifting_runs.specs.Ended.{Behind, EndedCase}
use Rattle.lifting_runs.proofs.Ended.{walk_behind}
use Rattle.lifting_runs.specs.Terms.{TermLeads, TermOk, walk_terms}
use Rattle.lifting_runs.specs.Shaped.{Shaped}

-- an accepted text is so, and one that passes the tests of refusals 4 to 7
pub shaped_accepted : (F : Func) (first : ℕ) → Accepted F first → has_body F.regions ≡ true → Shaped F
shaped_accepted F first ok body = record { body = body; forest = ok.forest; targets = ok.targets; fitting = ok.fitting }

pub shaped_checked : (F : Func) → has_body F.regions ≡ true → references_hold F ≡ true → is_tree F ≡ true → counts_agree F ≡ true → control_fits F ≡ true → Shaped F
shaped_checked F body references tree counts control =
    let ok = refers F references in
    let trees = Fits.forest F ok tree in
    record { body = body; forest = trees.0; targets = Fits.targets_fit_law F ok body trees.1 control; fitting = Fits.fitting F ok counts control }

module _ (F : Func) (ok : Shaped F) where
  abbrev pub depth : ℕ
  depth = suc (length F.regions)

  pub tree : Tree F depth
  tree = tree_of F ok.forest

  pub in_order : Roots F (roots F)
  in_order = roots_ok F ok.targets

  pub walk_is : walk_roots F depth (roots F) ≡ walk_of F
  unfolding walk_of
  walk_is = sym (ap (λ (b : Bool). elim b as (λ (c : Bool). Table) [ true ↦ walk_roots F depth (roots F) | false ↦ [] ]) ok.body)

  -- a visited region is one of the text's
  pub visited_low : {r : ℕ} {p : Place} → VisitedAt F r p → r < length F.regions
  visited_low at_body = ok.targets.some_region
  visited_low (in_case {n} {c} v sf e i) = ok.forest.child_range n c (rw e i)
  visited_low (in_loop {n} {b} v sf e) = ok.forest.child_range n b (rw e here)
  visited_low (by_ctrl {r} {s} v e i) = ok.targets.in_range r s e i

  -- each point once
  pub walk_once : NoDup (points (walk_of F))
  walk_once = subst (λ (T : Table). NoDup (points T)) walk_is (roots_nodup F depth tree depth (roots F) in_order.once in_order.no_child)

  -- region 0's entry first
  pub walk_first : (U : Table) × (walk_of F ≡ (region_entry 0, entry_block F 0 top) ∷ U)
  walk_first = (_, sym walk_is ∙ ap (walk_roots F depth) in_order.body_first)

  -- the exit of each visited region, and of each node that stands in one
  pub visited_exit : {r : ℕ} {p : Place} → VisitedAt F r p → In (region_exit r) (points (walk_of F))
  visited_exit {r} {p} v = subst (λ (T : Table). In (region_exit r) (points T)) walk_is (in_points _ _ (here_exit F depth tree (roots F) in_order r p (covers F depth tree (roots F) in_order v)))

  pub visited_out : {r n : ℕ} {p : Place} {ns : List ℕ} → VisitedAt F r p → Suffix (region_of F r).nodes (n ∷ ns) → In (node_exit n) (points (walk_of F))
  visited_out {r} {n} {p} {ns} v sf = subst (λ (T : Table). In (node_exit n) (points T)) walk_is (in_points _ _ (here_out F depth tree (roots F) in_order r p n ns (covers F depth tree (roots F) in_order v) sf))

  pub laid : LaidAt F (block_at (walk_of F))
  laid = subst (λ (T : Table). LaidAt F (block_at T)) walk_is (walk_laid F depth tree (roots F) in_order)

  pub tidy : Tidy (walk_of F)
  tidy = subst Tidy walk_is (walk_tidy F depth tree (roots F) in_order (λ n b c is u e. ok.fitting.loop_ins n e))

  walked : All (λ (x : CfgPoint × BlockLifting). TermLeads (walk_of F) x.1.term × (EndedCase F x.0 ⊎ TermOk (walk_of F) x.1.term)) (walk_of F)
  walked = subst (λ (T : Table). All (λ (x : CfgPoint × BlockLifting). TermLeads T x.1.term × (EndedCase F x.0 ⊎ TermOk T x.1.term)) T) walk_is
      (walk_terms F depth tree (roots F) in_order ok.targets ok.fitting (roots_visited F ok.targets))

  -- every way out leads to visited points
  pub leads : All (λ (x : CfgPoint × BlockLifting). TermLeads (walk_of F) x.1.term) (walk_of F)
  leads = all_left _ _ (walk_of F) walked

  -- and takes as many values there as the point has phis, but for a case that ends in an exit
  pub terms : All (λ (x : CfgPoint × BlockLifting). EndedCase F x.0 ⊎ TermOk (walk_of F) x.1.term) (walk_of F)
  terms = all_right _ _ (walk_of F) walked

  -- what leads to the exit of an exit node or of a case that ends in one
  pub behind_exits : All (Behind F) (walk_of F)
  behind_exits = subst (All (Behind F)) walk_is (walk_behind F ok.forest.child_once depth (roots F) (roots_visited F ok.targets))
