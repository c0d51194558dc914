-- The test that an absorbed target has no phis never decides: absorption by use counts alone keeps the same blocks. A way out that absorbs
-- carries no values, so a target of it that has phis fills them by itself, unless it leads from a case that ends in an exit. The first is a
-- loop's entry alone, and it is used twice: from before the loop and by its way back. The second is the select's exit, and it is used twice:
-- by that case and as the merge label. Assumes nothing.
use Rattle.std.specs.Prelude.{◌≡◌, refl, List, [], ◌∷◌, ℕ, ◌≤◌, length}
use Rattle.std.proofs.Common.{sym, ◌∙◌, subst, inl, inr, arith}
use Rattle.std.proofs.Math.Path.{ap}
use Rattle.std.proofs.Math.Option.{Option, none, some}
use Rattle.std.proofs.Math.Decide.{ℕ_discrete}
use Rattle.general_laws.specs.Lists.{choose, find}
use Rattle.lifting.specs.Ast.{Func, Node, Value, block, select, loop, exit}
use Rattle.lifting.specs.Parts.{node_of, region_of}
use Rattle.lifting.specs.Points.{BlockLifting, CfgPoint, Table, block_at, block_or, eq_point, node_entry, node_exit, nothing_here, plain, points, region_entry, region_exit}
use Rattle.lifting.specs.Walk.{Place, exit_block, in_block, in_node, walk_of}
use Rattle.lifting.specs.Absorb.{Absorbing, absorb, absorb_all, if_no_phis, keep, kept, sole_target, try_target, use_count}
use Rattle.general_laws.specs.Members.{In, all_from, all_in, here}
use Rattle.general_laws.specs.Tests.{find_in}
use Rattle.lifting_runs.specs.Places.{Suffix, VisitedAt}
use Rattle.lifting_runs.specs.AbsorbCount.{block_keys, sole_straight}
use Rattle.lifting_runs.specs.Each.{Each, each_at, each_absorb, absorbed_by}
use Rattle.lifting_runs.specs.Terms.{TermOk}
use Rattle.lifting_runs.specs.Ended.{EndedCase}
use Rattle.lifting_runs.specs.Shaped.{Shaped}
use Rattle.lifting_runs.proofs.Shaped.{laid, terms, walk_once}
use Rattle.lifting_blocks.specs.Chain.{chain_all, none_some}
use Rattle.lifting_blocks.specs.Steps.{Step, step_entry, step_exit, step_in, step_out, walk_steps}
use Rattle.lifting_blocks.specs.Neighbours.{block_in}
use Rattle.lifting_blocks.specs.Nearby.{child_busy, loop_busy}

-- as `try_target`, without the test: if the target has use count 1
abbrev pub try_by_count : CfgPoint → Option CfgPoint → Absorbing → Absorbing
try_by_count b none s = s
try_by_count b (some t) s = choose (ℕ_discrete (s.counts t) 1) (absorbed_by b t s) s

-- over points in reverse order
abbrev pub absorb_by_count : List CfgPoint → Absorbing → Absorbing
absorb_by_count [] s = s
absorb_by_count (b ∷ l) s = let r = absorb_by_count l s in try_by_count b (sole_target (block_at r.table b).term) r

-- what is kept so
unfoldable pub kept_by_count : Table → Table
kept_by_count T = let s = absorb_by_count (points T) (record { table = T; counts = use_count T }) in keep s.counts s.table

module _ (T : Table) where
  -- what a block would absorb by counts has no phis
  abbrev Clear : BlockLifting → Type 0
  Clear b = (t : CfgPoint) → sole_target b.term ≡ some t → use_count T t ≡ 1 → (block_at T t).keys ≡ []

  -- what stays so while blocks are absorbed
  record Stays (s : Absorbing) : Type 0 where
    clear : Each Clear s.table
    phis : (q : CfgPoint) → (block_at s.table q).keys ≡ (block_at T q).keys
    ones : (q : CfgPoint) → s.counts q ≡ 1 → use_count T q ≡ 1

  nothing_clear : Clear (plain nothing_here)
  nothing_clear t e u = absurd (none_some e)

  stays_after : (b t : CfgPoint) (s : Absorbing) → Stays s → Stays (absorbed_by b t s)
  stays_after b t s h = record {
    clear = each_absorb Clear nothing_clear (λ d k. nothing_clear) (λ d e k l. l) b t (block_at s.table t) (each_at Clear nothing_clear s.table h.clear t) s.table h.clear;
    phis = λ q. (block_keys b t (block_at s.table t) s.table q).0 ∙ h.phis q;
    ones = λ q. by_point q (eq_point q t);
  }
    where
      by_point : (q : CfgPoint) (d : Dec (q ≡ t)) → choose d 0 (s.counts q) ≡ 1 → use_count T q ≡ 1
      by_point q (yes e) u = absurd (omega arith)
      by_point q (no n) u = h.ones q u

  try_same : (b : CfgPoint) (s : Absorbing) → Stays s → (o : Option CfgPoint) → sole_target (block_at s.table b).term ≡ o → (try_by_count b o s ≡ try_target b o s) × Stays (try_target b o s)
  try_same b s h none e = (refl, h)
  try_same b s h (some t) e = by_count_law (ℕ_discrete (s.counts t) 1)
    where
      by_count_law : (d : Dec (s.counts t ≡ 1)) → (choose d (absorbed_by b t s) s ≡ choose d (if_no_phis (block_at s.table t).keys (absorbed_by b t s) s) s) × Stays (choose d (if_no_phis (block_at s.table t).keys (absorbed_by b t s) s) s)
      by_count_law (yes u) =
          let none_there : (block_at s.table t).keys ≡ [] = h.phis t ∙ each_at Clear nothing_clear s.table h.clear b t e (h.ones t u) in
          subst (λ (ks : List Value). (absorbed_by b t s ≡ if_no_phis ks (absorbed_by b t s) s) × Stays (if_no_phis ks (absorbed_by b t s) s)) (sym none_there) (refl, stays_after b t s h)
      by_count_law (no n) = (refl, h)

  all_same : (l : List CfgPoint) (s : Absorbing) → Stays s → (absorb_by_count l s ≡ absorb_all l s) × Stays (absorb_all l s)
  all_same [] s h = (refl, h)
  all_same (b ∷ l) s h =
      let r = all_same l s h in
      let w = try_same b (absorb_all l s) r.1 (sole_target (block_at (absorb_all l s).table b).term) refl in
      (ap (λ (x : Absorbing). try_by_count b (sole_target (block_at x.table b).term) x) r.0 ∙ w.0, w.1)

  kept_same : Each Clear T → kept_by_count T ≡ kept T
  unfolding kept_by_count kept absorb
  kept_same h = ap (λ (s : Absorbing). keep s.counts s.table)
      (all_same (points T) (record { table = T; counts = use_count T }) (record { clear = h; phis = λ q. refl; ones = λ q u. u })).0

module _ (F : Func) (ok : Shaped F) where
  abbrev T : Table
  T = walk_of F

  -- a point that fills its own phis is used twice
  abbrev Busy : CfgPoint × BlockLifting → Type 0
  Busy x = ¬ (x.1.defaults ≡ []) → 2 ≤ use_count T x.0

  in_busy : {r n : ℕ} {p : Place} {ns : List ℕ} (d : Node) → node_of F n ≡ d → VisitedAt F r p → Suffix (region_of F r).nodes (n ∷ ns) → Busy (node_entry n, in_block F d n)
  in_busy (block is) e v sf m = absurd (m refl)
  in_busy (select k w cs ds u) e v sf m = absurd (m refl)
  in_busy (loop b c is u) e v sf m = loop_busy F ok v sf e
  in_busy (exit i vs) e v sf m = absurd (m refl)

  step_busy : (x : CfgPoint × BlockLifting) (o : Option CfgPoint) → Step F x o → Busy x
  step_busy x o (step_entry v) m = absurd (m refl)
  step_busy x o (step_in {n} v sf h) m = in_busy (node_of F n) refl v sf m
  step_busy x o (step_out v sf) m = absurd (m refl)
  step_busy x o (step_exit v a) m = absurd (m refl)

  -- a way out with enough values
  fed_clear : (x : CfgPoint × BlockLifting) → TermOk T x.1.term → Clear T x.1
  fed_clear x way t e u =
      let w = (subst (TermOk T) (sole_straight x.1.term t e) way).to t here in
      ap (λ (o : Option BlockLifting). (block_or o).keys) w.1 ∙ by_fill w.0 w.1 w.0.keys w.0.defaults refl refl w.2
    where
      by_fill : (b : BlockLifting) → find eq_point t T ≡ some b → (ks ds : List Value) → b.keys ≡ ks → b.defaults ≡ ds → length b.keys ≡ length b.defaults → b.keys ≡ []
      by_fill b f [] ds p q l = p
      by_fill b f (k ∷ ks) [] p q l = absurd (omega (arith, ap length p, ap length q))
      by_fill b f (k ∷ ks) (d ∷ ds) p q l =
          absurd (omega (arith, all_in Busy T (chain_all (Step F) Busy step_busy T none (walk_steps F ok)) (t, b) (find_in eq_point t T f) (λ z. let o : ◌≡◌ {A = ℕ} 0 1 = cc in omega arith)))

  -- a case that ends in an exit
  case_clear : (p : CfgPoint) (b : BlockLifting) → EndedCase F p → In (p, b) T → Clear T b
  case_clear (region_entry r) b lo i t e u = absurd lo
  case_clear (region_exit r) b lo i t e u =
      let same : b ≡ exit_block F r (in_node lo.node) = sym (block_in T (walk_once F ok) (region_exit r, b) i) ∙ (laid F ok).exit_at lo.stands in
      absurd (child_busy F ok t lo.stands (ap (λ (d : BlockLifting). sole_target d.term) (sym same) ∙ e) u)
  case_clear (node_entry n) b lo i t e u = absurd lo
  case_clear (node_exit n) b lo i t e u = absurd lo

  target_clear : (x : CfgPoint × BlockLifting) → In x T → Clear T x.1
  target_clear x i = elim (all_in _ T (terms F ok) x i) [ inl lo ↦ case_clear x.0 x.1 lo i | inr f ↦ fed_clear x f ]

  pub by_count_alone : kept_by_count (walk_of F) ≡ kept (walk_of F)
  by_count_alone = kept_same T (all_from (λ (x : CfgPoint × BlockLifting). Clear T x.1) T target_clear)
