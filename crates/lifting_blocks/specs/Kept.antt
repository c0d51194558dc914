-- What a kept block leads to is kept: its targets, with as many values along each edge as the target has phis, and its merge labels.
-- Assumes nothing.
use Rattle.std.specs.Prelude.{◌≡◌, refl, List, [], ◌∷◌, ◌<◌, length}
use Rattle.std.proofs.Common.{sym, ap, ◌∙◌, subst, inl, inr, arith}
use Rattle.std.proofs.Math.Option.{Option, some}
use Rattle.general_laws.specs.Lists.{choose, find}
use Rattle.lifting.specs.Ast.{Func, Value}
use Rattle.lifting.specs.Parts.{vals_or}
use Rattle.lifting.specs.Points.{BlockLifting, CfgPoint, Table, block_or, edge_of, eq_point, points}
use Rattle.lifting.specs.Walk.{walk_of}
use Rattle.lifting.specs.Absorb.{absorb, kept, labels, use_count}
use Rattle.general_laws.specs.Members.{All, In, all_from, all_in, in_cases, in_nil}
use Rattle.lifting_runs.specs.AbsorbCount.{in_count}
use Rattle.lifting_runs.specs.AbsorbAll.{Kept, absorb_kept, find_keep}
use Rattle.general_laws.specs.Tests.{find_in}
use Rattle.lifting_runs.specs.Each.{each_absorbed}
use Rattle.lifting_runs.specs.Tour.{find_unique, in_points}
use Rattle.lifting_runs.specs.KeptTerms.{SameKeys, Shape, absorb_shape, in_keep, in_uses, same_some}
use Rattle.lifting_runs.proofs.AcceptedRuns.{some_world}
use Rattle.lifting_runs.specs.Shaped.{Shaped}
use Rattle.lifting_runs.proofs.Shaped.{leads, tidy}
use Rattle.lifting_runs.proofs.EndedKept.{kept_term}
use Rattle.lifting_blocks.specs.Uses.{labels_visited}
use Rattle.lifting_blocks.specs.Phis.{edge_kept}

-- a point of a table has a block there
pub point_block : (q : CfgPoint) (T : Table) → In q (points T) → (b : BlockLifting) × (find eq_point q T ≡ some b)
point_block q [] h = absurd (in_nil h)
point_block q (x ∷ T) h = by_point (eq_point q x.0) (point_block q T)
  where
    by_point : (d : Dec (q ≡ x.0)) → (In q (points T) → (b : BlockLifting) × (find eq_point q T ≡ some b)) → (b : BlockLifting) × (choose d (some x.1) (find eq_point q T) ≡ some b)
    by_point (yes e) ih = (x.1, refl)
    by_point (no n) ih = ih (elim (in_cases h) [ inl e ↦ absurd (n e) | inr i ↦ i ])

module _ (F : Func) (ok : Shaped F) where
  abbrev T : Table
  T = walk_of F

  -- after all absorptions, before the drop
  abbrev U : Table
  U = (absorb (walk_of F)).table

  fine : Kept F some_world T (absorb T)
  fine = absorb_kept F some_world T (tidy F ok)

  shape : Shape T U
  shape = absorb_shape T (leads F ok)

  before : (x : CfgPoint × BlockLifting) → In x (kept T) → In x U × (0 < (absorb T).counts x.0)
  unfolding kept
  before x i = in_keep (absorb T).counts U x i

  abbrev Led : BlockLifting → Type 0
  Led b = All (λ q. In q (points T)) (labels b.term)

  led : All (λ (x : CfgPoint × BlockLifting). Led x.1) U
  led = each_absorbed Led tt (λ b h. tt) (λ b c h k. k) T (all_from _ T (λ x i. all_from _ (labels x.1.term) (λ q j. labels_visited F ok x i q j)))

  count_led : (x : CfgPoint × BlockLifting) → In x U → (q : CfgPoint) → In q (labels x.1.term) → 0 < (absorb T).counts q
  unfolding use_count
  count_led x i q j = omega (arith, fine.counted q, in_uses U x q i, in_count q (labels x.1.term) j)

  pub label_kept : (x : CfgPoint × BlockLifting) → In x (kept (walk_of F)) → (q : CfgPoint) → In q (labels x.1.term) → In q (points (kept (walk_of F)))
  unfolding kept
  label_kept x i q j =
      let y = (before x i).0 in
      let b = point_block q T (all_in (λ p. In p (points T)) (labels x.1.term) (all_in (λ (z : CfgPoint × BlockLifting). Led z.1) U led x y) q j) in
      let a = same_some (find eq_point q U) b.0 (subst (SameKeys (find eq_point q U)) b.1 (shape.same q)) in
      in_points (kept T) (q, a.0) (find_in eq_point q (kept T) (find_keep (absorb T).counts U q (count_led x y q j) ∙ a.1))

  pub edge_fits : (x : CfgPoint × BlockLifting) → In x (kept (walk_of F)) → (q : CfgPoint) → In q x.1.term.targets → (b : BlockLifting) → In (q, b) (kept (walk_of F)) → length b.keys ≡ length (edge_of (kept (walk_of F)) x.1.term q)
  edge_fits x i q j b h =
      let w = (kept_term F ok x i).to q j in
      let f : find eq_point q U ≡ some b = find_unique U fine.tidy.unique q b (before (q, b) h).0 in
      let s : SameKeys (some b) (some w.0) = subst (λ (o : Option BlockLifting). SameKeys o (some w.0)) f (subst (SameKeys (find eq_point q U)) w.1 (shape.same q)) in
      ap (λ (l : List Value). length l) s.0
      ∙ w.2
      ∙ ap (λ (o : Option BlockLifting). length (vals_or (find eq_point q x.1.term.vals) (block_or o).defaults)) (sym w.1)
      ∙ ap (λ (l : List Value). length l) (sym (edge_kept F ok x.1.term q))
