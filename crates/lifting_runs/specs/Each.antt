-- What holds of every block that the walk makes, and what stays so through absorption and the drop. A kept block is one of the walk, emptied or
-- joined with others, so what all three have each kept block has. Assumes nothing.
use Rattle.std.specs.Prelude.{◌≡◌, refl, Bool, ℕ, zero, suc, length}
use Rattle.std.proofs.Math.Bool.{true, false}
use mathlib.Core.List.{List, [], ◌∷◌}
use Rattle.std.proofs.Math.Option.{Option, none, some}
use Rattle.std.proofs.Math.Decide.{ℕ_discrete}
use Rattle.std.proofs.Common.{arith}
use Rattle.general_laws.specs.Lists.{choose, find}
use Rattle.lifting.specs.Ast.{Value, Func}
use Rattle.lifting.specs.Parts.{region_of, node_of, children_of, has_body}
use Rattle.lifting.specs.Order.{roots}
use Rattle.lifting.specs.Points.{CfgPoint, region_entry, region_exit, node_entry, node_exit, eq_point, BlockLifting, Table, points, nothing_here, plain, block_or, block_at}
use Rattle.lifting.specs.Walk.{Place, top, in_node, next_point, entry_block, exit_block, in_block, out_block, walk_kids, walk_node, walk_nodes, walk_region, walk_roots, walk_of}
use Rattle.lifting.specs.Absorb.{use_count, sole_target, emptied, joined, refit, absorb_into, Absorbing, if_no_phis, try_target, absorb_at, absorb_all, absorb, keep_if, keep, kept}
use Rattle.general_laws.specs.Members.{In, here, there, All, all_append, all_in}
use Rattle.general_laws.specs.Tests.{find_in}

-- The walk makes four kinds of blocks. R is what is known of a root, for its entry.
module _ (F : Func) (P : CfgPoint × BlockLifting → Type 0) {R : ℕ → Type 0} (entries : (r : ℕ) (p : Place) → (p ≡ top → R r) → P (region_entry r, entry_block F r p)) (exits : (r : ℕ) (p : Place) → P (region_exit r, exit_block F r p))
    (ins : (n : ℕ) → P (node_entry n, in_block F (node_of F n) n)) (outs : (n : ℕ) (q : CfgPoint) → P (node_exit n, out_block F (node_of F n) n q)) where
  -- the walk of a region at its place
  abbrev Walks : (ℕ → Place → Table) → Type 0
  Walks w = (r : ℕ) (p : Place) → (p ≡ top → R r) → All P (w r p)

  every_kids : (w : ℕ → Place → Table) → Walks w → (n : ℕ) (cs : List ℕ) → All P (walk_kids F w n cs)
  every_kids w h n [] = tt
  every_kids w h n (c ∷ cs) = all_append P (w c (in_node n)) (walk_kids F w n cs) (h c (in_node n) (λ e. absurd (let z : ◌≡◌ {A = ℕ} 0 1 = cc in omega arith))) (every_kids w h n cs)

  every_node : (w : ℕ → Place → Table) → Walks w → (r : ℕ) (ns : List ℕ) → All P (walk_nodes F w r ns)
  every_node w h r [] = tt
  every_node w h r (n ∷ ns) =
      let cs = children_of (node_of F n) in
      let q = next_point r ns in
      all_append P (walk_node F w n q) (walk_nodes F w r ns) (ins n, all_append P (walk_kids F w n cs) _ (every_kids w h n cs) (outs n q, tt)) (every_node w h r ns)

  every_region : (k : ℕ) → Walks (λ r p. walk_region F k r p)
  every_region zero r p t = tt
  every_region (suc k) r p t =
      let w : ℕ → Place → Table = λ c q. walk_region F k c q in
      (entries r p t, all_append P (walk_nodes F w r (region_of F r).nodes) _ (every_node w (every_region k) r (region_of F r).nodes) (exits r p, tt))

  pub every_point : (k : ℕ) (rs : List ℕ) → ((r : ℕ) → In r rs → R r) → All P (walk_roots F k rs)
  every_point k [] h = tt
  every_point k (r ∷ rs) h = all_append P (walk_region F k r top) (walk_roots F k rs) (every_region k r top (λ e. h r here)) (every_point k rs (λ s i. h s (there i)))

  -- in the walk of a text, which has no points where there is no body
  pub every_walked : ((r : ℕ) → In r (roots F) → R r) → All P (walk_of F)
  unfolding walk_of
  every_walked h = by_body (has_body F.regions)
    where
      by_body : (b : Bool) → All P (elim b [ true ↦ walk_roots F (suc (length F.regions)) (roots F) | false ↦ [] ])
      by_body true = every_point (suc (length F.regions)) (roots F) h
      by_body false = tt

-- the block at b absorbs the block at t
abbrev pub absorbed_by : CfgPoint → CfgPoint → Absorbing → Absorbing
absorbed_by b t s = record { table = absorb_into b t (block_at s.table t) s.table; counts = λ q. choose (eq_point q t) 0 (s.counts q) }

-- What every absorption leaves as it is holds after all of them. An absorption is of a sole target of count 1 without phis.
module _ (I : Absorbing → Type 0) (takes : (b t : CfgPoint) (s : Absorbing) → I s → sole_target (block_at s.table b).term ≡ some t → s.counts t ≡ 1 → (block_at s.table t).keys ≡ [] → I (absorbed_by b t s)) where
  after_target : (b : CfgPoint) (o : Option CfgPoint) (s : Absorbing) → I s → sole_target (block_at s.table b).term ≡ o → I (try_target b o s)
  after_target b none s h e = h
  after_target b (some t) s h e = by_count_law (ℕ_discrete (s.counts t) 1)
    where
      by_keys : s.counts t ≡ 1 → (ks : List Value) → (block_at s.table t).keys ≡ ks → I (if_no_phis ks (absorbed_by b t s) s)
      by_keys u [] k = takes b t s h e u k
      by_keys u (x ∷ ks) k = h

      by_count_law : (d : Dec (s.counts t ≡ 1)) → I (choose d (if_no_phis (block_at s.table t).keys (absorbed_by b t s) s) s)
      by_count_law (yes u) = by_keys u (block_at s.table t).keys refl
      by_count_law (no n) = h

  pub after_turn : (b : CfgPoint) (s : Absorbing) → I s → I (absorb_at b s)
  after_turn b s h = after_target b (sole_target (block_at s.table b).term) s h refl

  pub after_turns : (l : List CfgPoint) (s : Absorbing) → I s → I (absorb_all l s)
  after_turns [] s h = h
  after_turns (b ∷ l) s h = after_turn b (absorb_all l s) (after_turns l s h)

  pub after_all : (T : Table) → I (record { table = T; counts = use_count T }) → I (absorb T)
  unfolding absorb
  after_all T h = after_turns (points T) (record { table = T; counts = use_count T }) h

-- of the table alone
module _ (I : Table → Type 0) (absorbs : (b t : CfgPoint) (T : Table) → I T → I (absorb_into b t (block_at T t) T)) where
  pub after_absorb : (T : Table) → I T → I (absorb T).table
  after_absorb T h = after_all (λ s. I s.table) (λ b t s i e u k. absorbs b t s.table i) T h

-- of each entry
pub all_absorb : (P : CfgPoint × BlockLifting → Type 0) (b t : CfgPoint) (c : BlockLifting) → ((x : CfgPoint × BlockLifting) → P x → P (x.0, refit b t c x.0 x.1)) → (T : Table) → All P T → All P (absorb_into b t c T)
all_absorb P b t c f [] h = tt
all_absorb P b t c f (x ∷ T) h = (f x h.0, all_absorb P b t c f T h.1)

-- each block
abbrev pub Each : (BlockLifting → Type 0) → Table → Type 0
Each P = All (λ (x : CfgPoint × BlockLifting). P x.1)

pub each_at : (P : BlockLifting → Type 0) → P (plain nothing_here) → (T : Table) → Each P T → (p : CfgPoint) → P (block_at T p)
each_at P bare T h p = by_case (find eq_point p T) refl
  where
    by_case : (o : Option BlockLifting) → find eq_point p T ≡ o → P (block_or o)
    by_case none e = bare
    by_case (some b) e = all_in _ T h (p, b) (find_in eq_point p T e)

module _ (P : BlockLifting → Type 0) (bare : P (plain nothing_here)) (empties : (b : BlockLifting) → P b → P (emptied b)) (joins : (b c : BlockLifting) → P b → P c → P (joined b c)) where
  pub each_absorb : (b t : CfgPoint) (c : BlockLifting) → P c → (T : Table) → Each P T → Each P (absorb_into b t c T)
  each_absorb b t c hc = all_absorb (λ x. P x.1) b t c (λ x h. by_case x.1 h (eq_point x.0 t) (eq_point x.0 b))
    where
      by_case : {A B : Type 0} (e : BlockLifting) → P e → (d : Dec A) (g : Dec B) → P (choose d (emptied e) (choose g (joined e c) e))
      by_case e h (yes y) g = empties e h
      by_case e h (no n) (yes y) = joins e c h hc
      by_case e h (no n) (no m) = h

  pub each_absorbed : (T : Table) → Each P T → Each P (absorb T).table
  each_absorbed = after_absorb (Each P) (λ b t T h. each_absorb b t (block_at T t) (each_at P bare T h t) T h)

  each_keep : (c : CfgPoint → ℕ) (T : Table) → Each P T → Each P (keep c T)
  each_keep c [] h = tt
  each_keep c (x ∷ T) h = by_case (c x.0) (each_keep c T h.1)
    where
      by_case : (n : ℕ) → Each P (keep c T) → Each P (keep_if n x (keep c T))
      by_case zero ih = ih
      by_case (suc n) ih = (h.0, ih)

  pub each_kept : (T : Table) → Each P T → Each P (kept T)
  unfolding kept
  each_kept T h = each_keep (absorb T).counts (absorb T).table (each_absorbed T h)
