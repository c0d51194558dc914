-- The walk holds the right block at each point that a run can come to.
use Rattle.std.specs.Prelude.{◌≡◌, refl, List, [], ◌∷◌, ℕ, zero, suc, ◌<◌, length}
use Rattle.std.proofs.Common.{sym, ap, ◌∙◌, subst, arith}
use Rattle.std.proofs.Math.Option.{Option, none, some}
use Rattle.general_laws.specs.Lists.{choose_yes, find, tabulate}
use Rattle.lifting.specs.Ast.{ControlInst, Func, Node, Value, block, exit, loop, select}
use Rattle.lifting.specs.Parts.{children_of, ctrl_of, node_of, region_of}
use Rattle.lifting.specs.Points.{BlockLifting, CfgPoint, Table, block_at, block_or, eq_point, node_entry, node_exit, region_entry, region_exit}
use Rattle.lifting.specs.Walk.{Place, entry_block, exit_block, in_block, in_node, next_point, out_block, top, walk_kids, walk_node, walk_nodes, walk_region, walk_roots}
use Rattle.lifting.specs.Absorb.{first_use}
use Rattle.general_laws.specs.Members.{All, In, NoDup, here, in_left, in_right, there}
use Rattle.lifting_runs.specs.Accepted.{Root}
use Rattle.lifting_runs.specs.Places.{LaidAt, Suffix, VisitedAt, at_body, by_ctrl, in_case, in_loop, next, whole}
use Rattle.lifting_runs.specs.AbsorbCount.{Unique}
use Rattle.lifting_runs.specs.AbsorbAll.{Tidy}
use Rattle.lifting_runs.specs.EmitRun.{all_find}
use Rattle.lifting_runs.specs.Each.{every_point}
use Rattle.lifting_runs.specs.Tour.{Tree, find_unique, unique_of}
use Rattle.lifting_runs.specs.TourOnce.{roots_nodup}

-- the roots: region 0 first, no root twice, with each its targets
pub record Roots (F : Func) (rs : List ℕ) : Type 0 where
  pub others : List ℕ
  pub body_first : rs ≡ 0 ∷ others
  pub once : NoDup rs
  pub closed : (r s : ℕ) (c : ControlInst) → In r rs → ctrl_of F r ≡ some c → In s c.to → In s rs
  pub no_child : (r : ℕ) → In r rs → Root F r

module _ (F : Func) where
  pub suffix_in : {l s : List ℕ} {n : ℕ} → Suffix l s → In n s → In n l
  suffix_in whole h = h
  suffix_in (next sf) h = suffix_in sf (there h)

  module _ (w : ℕ → Place → Table) where
    in_walk_suffix : {x : CfgPoint × BlockLifting} (r : ℕ) {l s : List ℕ} → Suffix l s → In x (walk_nodes F w r s) → In x (walk_nodes F w r l)
    in_walk_suffix r whole h = h
    in_walk_suffix r (next {x = y} {s} sf) h = in_walk_suffix r sf (in_right (walk_node F w y (next_point r s)) h)

    in_kids : {x : CfgPoint × BlockLifting} (n c : ℕ) (cs : List ℕ) → In c cs → In x (w c (in_node n)) → In x (walk_kids F w n cs)
    in_kids n c cs (here {l = l}) h = in_left (walk_kids F w n l) h
    in_kids n c cs (there {y} {l = l} i) h = in_right (w y (in_node n)) (in_kids n c l i h)

    in_node_law : {x : CfgPoint × BlockLifting} (r n : ℕ) (ns : List ℕ) → Suffix (region_of F r).nodes (n ∷ ns) → In x (walk_node F w n (next_point r ns)) → In x (walk_nodes F w r (region_of F r).nodes)
    in_node_law r n ns sf h = in_walk_suffix r sf (in_left (walk_nodes F w r ns) h)

  module _ (depth : ℕ) (tr : Tree F depth) (rs : List ℕ) (ok : Roots F rs) where
    abbrev T : Table
    T = walk_roots F depth rs

    in_roots : {x : CfgPoint × BlockLifting} (r : ℕ) (l : List ℕ) → In r l → In x (walk_region F depth r top) → In x (walk_roots F depth l)
    in_roots r l (here {l = k}) h = in_left (walk_roots F depth k) h
    in_roots r l (there {y} {l = k} i) h = in_right (walk_region F depth y top) (in_roots r k i h)

    -- the walk of r at p is a part of the whole, deep enough
    pub Covers : ℕ → Place → Type 0
    Covers r p = (k : ℕ) × (tr.rank r < k) × ((x : CfgPoint × BlockLifting) → In x (walk_region F k r p) → In x T)

    top_root : {r : ℕ} {p : Place} → VisitedAt F r p → p ≡ top → In r rs
    top_root at_body e = subst (In 0) (sym ok.body_first) here
    top_root (in_case v sf q i) e = absurd (let z : ◌≡◌ {A = ℕ} 0 1 = cc in omega arith)
    top_root (in_loop v sf q) e = absurd (let z : ◌≡◌ {A = ℕ} 0 1 = cc in omega arith)
    top_root (by_ctrl {r} {s} {c} v q i) e = ok.closed r s c (top_root v refl) q i

    covers_top : (r : ℕ) → In r rs → Covers r top
    unfolding Covers
    covers_top r i = (depth, tr.rank_low r, λ x h. in_roots r rs i h)

    covers_kid : (r n c : ℕ) (p : Place) (ns : List ℕ) → Covers r p → Suffix (region_of F r).nodes (n ∷ ns) → In c (children_of (node_of F n)) → Covers c (in_node n)
    unfolding Covers
    covers_kid r n c p ns (zero, h, f) sf i = absurd (omega arith)
    covers_kid r n c p ns (suc k, h, f) sf i = (
      k,
      omega (arith, tr.rank_falls r n c (suffix_in sf here) i),
      λ x g. f x (there (in_left _ (in_node_law (λ b q. walk_region F k b q) r n ns sf (there (in_left _ (in_kids (λ b q. walk_region F k b q) n c (children_of (node_of F n)) i g)))))),
    )

    pub covers : {r : ℕ} {p : Place} → VisitedAt F r p → Covers r p
    covers at_body = covers_top 0 (top_root at_body refl)
    covers (in_case {r} {n} {c} {p} {ns} v sf q i) = covers_kid r n c p ns (covers v) sf (subst (λ (d : Node). In c (children_of d)) (sym q) i)
    covers (in_loop {r} {n} {b} {p} {ns} v sf q) = covers_kid r n b p ns (covers v) sf (subst (λ (d : Node). In b (children_of d)) (sym q) here)
    covers (by_ctrl {s} v q i) = covers_top s (top_root (by_ctrl v q i) refl)

    pub unique : Unique T
    unique = unique_of T (roots_nodup F depth tr depth rs ok.once ok.no_child)

    at_point_law : (p : CfgPoint) (b : BlockLifting) → In (p, b) T → block_at T p ≡ b
    at_point_law p b h = ap block_or (find_unique T unique p b h)

    -- what a region's walk holds
    pub here_entry : (r : ℕ) (p : Place) → Covers r p → In (region_entry r, entry_block F r p) T
    unfolding Covers
    here_entry r p (zero, h, f) = absurd (omega arith)
    here_entry r p (suc k, h, f) = f _ here

    pub here_exit : (r : ℕ) (p : Place) → Covers r p → In (region_exit r, exit_block F r p) T
    unfolding Covers
    here_exit r p (zero, h, f) = absurd (omega arith)
    here_exit r p (suc k, h, f) = f _ (there (in_right (walk_nodes F (λ c q. walk_region F k c q) r (region_of F r).nodes) here))

    pub here_in : (r : ℕ) (p : Place) (n : ℕ) (ns : List ℕ) → Covers r p → Suffix (region_of F r).nodes (n ∷ ns) → In (node_entry n, in_block F (node_of F n) n) T
    unfolding Covers
    here_in r p n ns (zero, h, f) sf = absurd (omega arith)
    here_in r p n ns (suc k, h, f) sf = f _ (there (in_left _ (in_node_law (λ c q. walk_region F k c q) r n ns sf here)))

    pub here_out : (r : ℕ) (p : Place) (n : ℕ) (ns : List ℕ) → Covers r p → Suffix (region_of F r).nodes (n ∷ ns) → In (node_exit n, out_block F (node_of F n) n (next_point r ns)) T
    unfolding Covers
    here_out r p n ns (zero, h, f) sf = absurd (omega arith)
    here_out r p n ns (suc k, h, f) sf = f _ (there (in_left _ (in_node_law (λ c q. walk_region F k c q) r n ns sf (there (in_right (walk_kids F (λ c q. walk_region F k c q) n (children_of (node_of F n))) here)))))

    pub walk_laid : LaidAt F (block_at T)
    walk_laid = record {
      entry_at = λ v. at_point_law _ _ (here_entry _ _ (covers v));
      exit_at = λ v. at_point_law _ _ (here_exit _ _ (covers v));
      in_at = λ v sf. at_point_law _ _ (here_in _ _ _ _ (covers v) sf);
      out_at = λ v sf. at_point_law _ _ (here_out _ _ _ _ (covers v) sf);
    }

    -- no phis, no defaults
    module _ (loops : (n b : ℕ) (c : Value) (is : List Value) (u : ℕ) → node_of F n ≡ loop b c is u → length is ≡ length (region_of F b).ins) where
      abbrev Plain : CfgPoint × BlockLifting → Type 0
      Plain x = x.1.keys ≡ [] → x.1.defaults ≡ []

      keys_none : (f : ℕ → Value) (k n : ℕ) → tabulate f k n ≡ [] → n ≡ 0
      keys_none f k zero h = refl
      keys_none f k (suc n) h = absurd (let z : ◌≡◌ {A = ℕ} 0 1 = cc in omega arith)

      length_none : (l : List Value) → length l ≡ 0 → l ≡ []
      length_none [] h = refl
      length_none (x ∷ l) h = absurd (omega arith)

      in_plain : (n : ℕ) (d : Node) → node_of F n ≡ d → Plain (node_entry n, in_block F d n)
      in_plain n (block is) e h = refl
      in_plain n (select kd v cs ds u) e h = refl
      in_plain n (loop b c is u) e h = length_none is (loops n b c is u e ∙ keys_none _ 0 (length (region_of F b).ins) h)
      in_plain n (exit i vs) e h = refl

      plain_roots : All Plain T
      plain_roots = every_point F Plain (λ r p t h. refl) (λ r p h. refl) (λ n. in_plain n (node_of F n) refl) (λ n q h. refl) depth rs ok.no_child

      first_one : (k : ℕ) → 0 < k → first_use (walk_roots F k (0 ∷ ok.others)) (region_entry 0) ≡ 1
      first_one zero h = absurd (omega arith)
      first_one (suc k) h = choose_yes {A = ℕ} (eq_point (region_entry 0) (region_entry 0)) 1 0 refl

      none_plain : (q : CfgPoint) (o : Option BlockLifting) → find eq_point q T ≡ o → (block_or o).keys ≡ [] → (block_or o).defaults ≡ []
      none_plain q none e h = refl
      none_plain q (some d) e h = all_find (λ (b : BlockLifting). b.keys ≡ [] → b.defaults ≡ []) q d T plain_roots e h

      pub walk_tidy : Tidy T
      walk_tidy = record {
        starts = ap (λ (l : List ℕ). first_use (walk_roots F depth l) (region_entry 0)) ok.body_first ∙ first_one depth (omega (arith, tr.rank_low 0));
        unique = unique;
        no_phis = λ q h. none_plain q (find eq_point q T) refl h;
      }
