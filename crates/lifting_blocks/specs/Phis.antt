-- No block with phis is absorbed or dropped: what is kept has the walk's phis, in the walk's order. Assumes nothing.
use Rattle.std.specs.Prelude.{◌≡◌, Bool, ℕ, zero, suc, ◌<◌}
use Rattle.std.proofs.Math.Path.{refl, ap}
use Rattle.std.proofs.Common.{sym, ap₂, ◌∙◌, subst, inl, inr, arith}
use Rattle.std.proofs.Math.Bool.{true, false}
use Rattle.std.proofs.lemmas.Bool.{false≢true}
use mathlib.Core.List.{List, [], ◌∷◌, ◌++◌, append-nil}
use Rattle.std.proofs.Math.Option.{Option, none, some}
use Rattle.std.proofs.Math.Decide.{ℕ_discrete}
use Rattle.general_laws.specs.Gather.{gather_append}
use Rattle.general_laws.specs.Lists.{choose, find, gather}
use Rattle.lifting.specs.Ast.{Func, Node, Value, block, select, loop, exit}
use Rattle.lifting.specs.Parts.{node_of, region_of, vals_or}
use Rattle.lifting.specs.Points.{BlockLifting, CfgPoint, Table, Terminator, block_at, block_or, edge_of, eq_point, node_entry, node_exit, region_entry, region_exit}
use Rattle.lifting.specs.Walk.{Place, entry_block, in_block, next_point, out_block, walk_of}
use Rattle.lifting.specs.Absorb.{absorb, emptied, keep, keep_if, kept, sole_target, use_count}
use Rattle.lifting.specs.Ids.{phi_keys}
use Rattle.general_laws.specs.Members.{All, In, gather_in, here, in_cases, in_gather, in_nil}
use Rattle.lifting_runs.specs.Places.{Suffix, VisitedAt, at_body, by_ctrl, in_case, in_loop}
use Rattle.general_laws.specs.Tests.{find_in}
use Rattle.lifting_runs.specs.AbsorbAll.{find_keep}
use Rattle.lifting_runs.specs.KeptTerms.{SameKeys, absorb_shape, in_keep, keep_find}
use Rattle.lifting_blocks.specs.Flat.{absorb_runs, absorb_from, absorb_step, absorbs_next, absorbs_target, no_keys}
use Rattle.lifting_blocks.specs.Chain.{chain_all}
use Rattle.lifting_runs.specs.Shaped.{Shaped}
use Rattle.lifting_runs.proofs.Shaped.{leads, tidy, walk_once}
use Rattle.lifting_blocks.specs.Steps.{Step, step_entry, step_exit, step_in, step_out, walk_steps}
use Rattle.lifting_blocks.specs.Uses.{before_node, leads_there, merge_select, used_once}
use Rattle.lifting_blocks.specs.Neighbours.{kept_into}
use Rattle.lifting_blocks.specs.Nearby.{walk_near}

-- the blocks of a table that have phis, without their ops and ways out
abbrev pub if_phis : List Value → Table → Table
if_phis [] l = []
if_phis (k ∷ ks) l = l

abbrev pub phis_at : CfgPoint × BlockLifting → Table
phis_at x = if_phis x.1.keys ((x.0, emptied x.1) ∷ [])

abbrev pub phi_blocks : Table → Table
phi_blocks T = gather phis_at T

module _ (c : CfgPoint → ℕ) where
  -- a point with phis is used
  abbrev Used : CfgPoint × BlockLifting → Type 0
  Used x = ¬ (x.1.keys ≡ []) → 0 < c x.0

  keep_phis : (x : CfgPoint × BlockLifting) (K : Table) → Used x → phi_blocks (keep_if (c x.0) x K) ≡ phis_at x ++ phi_blocks K
  keep_phis x K used = by_count_law (c x.0) refl
    where
      no_phis : (ks : List Value) → x.1.keys ≡ ks → c x.0 ≡ 0 → if_phis ks ((x.0, emptied x.1) ∷ []) ≡ []
      no_phis [] e z = refl
      no_phis (k ∷ ks) e z = absurd (omega (arith, used (λ h. let o : ◌≡◌ {A = ℕ} 0 1 = cc in omega arith)))

      by_count_law : (n : ℕ) → c x.0 ≡ n → phi_blocks (keep_if n x K) ≡ phis_at x ++ phi_blocks K
      by_count_law zero z = ap (λ (l : Table). l ++ phi_blocks K) (sym (no_phis x.1.keys refl z))
      by_count_law (suc n) z = refl

  no_keys_law : (ks : List Value) → no_keys ks ≡ true → ks ≡ []
  no_keys_law [] e = refl
  no_keys_law (k ∷ ks) e = absurd (false≢true e)

  absorbing_keys : (x y : CfgPoint × BlockLifting) → absorbs_next c x y ≡ true → y.1.keys ≡ []
  unfolding absorbs_next
  absorbing_keys x y e = by_target (sole_target x.1.term) e
    where
      by_case : {P Q : Type 0} (d : Dec P) (g : Dec Q) → choose d (choose g (no_keys y.1.keys) false) false ≡ true → y.1.keys ≡ []
      by_case (yes p) (yes q) e = no_keys_law y.1.keys e
      by_case (yes p) (no q) e = absurd (false≢true e)
      by_case (no p) g e = absurd (false≢true e)

      by_target : (o : Option CfgPoint) → absorbs_target o y.0 (c y.0) y.1.keys ≡ true → y.1.keys ≡ []
      by_target none e = absurd (false≢true e)
      by_target (some t) e = by_case (eq_point t y.0) (ℕ_discrete (c y.0) 1) e

  -- a block that absorbs keeps its phis
  into_at : (x : CfgPoint × BlockLifting) (T : Table) → ((absorb_from c x T).block.keys ≡ x.1.keys) × (emptied (absorb_from c x T).block ≡ emptied x.1)
  unfolding absorb_from
  into_at x [] = (refl, refl)
  into_at x (y ∷ T) = by_case (absorbs_next c x y)
    where
      by_case : (g : Bool) → ((absorb_step g x y.0 (absorb_from c y T)).block.keys ≡ x.1.keys) × (emptied (absorb_step g x y.0 (absorb_from c y T)).block ≡ emptied x.1)
      by_case true = (refl, refl)
      by_case false = (refl, refl)

  into_phis : (x : CfgPoint × BlockLifting) (T : Table) → phis_at (x.0, (absorb_from c x T).block) ≡ phis_at x
  into_phis x T = let w = into_at x T in ap₂ (λ (ks : List Value) (b : BlockLifting). if_phis ks ((x.0, b) ∷ [])) w.0 w.1

  first_phis : (x : CfgPoint × BlockLifting) (T : Table) (R : Table) → Used x → phi_blocks (keep_if (c x.0) (x.0, (absorb_from c x T).block) R) ≡ phis_at x ++ phi_blocks R
  first_phis x T R used = keep_phis (x.0, (absorb_from c x T).block) R (λ n. used (λ e. n ((into_at x T).0 ∙ e))) ∙ ap (λ (l : Table). l ++ phi_blocks R) (into_phis x T)

  rest_phis : (x : CfgPoint × BlockLifting) (T : Table) → All Used T → phi_blocks (keep c (absorb_from c x T).rest) ≡ phi_blocks T
  unfolding absorb_from
  rest_phis x [] used = refl
  rest_phis x (y ∷ T) used = by_absorb (absorbs_next c x y) refl (rest_phis y T used.1)
    where
      by_absorb : (g : Bool) → absorbs_next c x y ≡ g → phi_blocks (keep c (absorb_from c y T).rest) ≡ phi_blocks T → phi_blocks (keep c (absorb_step g x y.0 (absorb_from c y T)).rest) ≡ phis_at y ++ phi_blocks T
      by_absorb true e ih = ih ∙ ap (λ (ks : List Value). if_phis ks ((y.0, emptied y.1) ∷ []) ++ phi_blocks T) (sym (absorbing_keys x y e))
      by_absorb false e ih = first_phis y T (keep c (absorb_from c y T).rest) used.0 ∙ ap (λ (l : Table). phis_at y ++ l) ih

  all_phis : (T : Table) → All Used T → phi_blocks (keep c (absorb_runs c T)) ≡ phi_blocks T
  unfolding absorb_runs
  all_phis [] used = refl
  all_phis (x ∷ T) used = first_phis x T (keep c (absorb_from c x T).rest) used.0 ∙ ap (λ (l : Table). phis_at x ++ l) (rest_phis x T used.1)

-- phis by their keys
keys_at : (x : CfgPoint × BlockLifting) (ks : List Value) → x.1.keys ≡ ks → phi_keys (if_phis ks ((x.0, emptied x.1) ∷ [])) ≡ ks
keys_at x [] e = refl
keys_at x (k ∷ ks) e = append-nil x.1.keys ∙ e

keys_phis : (T : Table) → phi_keys (phi_blocks T) ≡ phi_keys T
keys_phis [] = refl
keys_phis (x ∷ T) = gather_append (λ (y : CfgPoint × BlockLifting). y.1.keys) (phis_at x) (phi_blocks T) ∙ ap₂ (λ (k l : List Value). k ++ l) (keys_at x x.1.keys refl) (keys_phis T)

in_phis : (x : CfgPoint × BlockLifting) → ¬ (x.1.keys ≡ []) → In (x.0, emptied x.1) (phis_at x)
in_phis x n = by_keys x.1.keys n
  where
    by_keys : (ks : List Value) → ¬ (ks ≡ []) → In (x.0, emptied x.1) (if_phis ks ((x.0, emptied x.1) ∷ []))
    by_keys [] m = absurd (m refl)
    by_keys (k ∷ ks) m = here

phis_in : (x : CfgPoint × BlockLifting) {y : CfgPoint × BlockLifting} → In y (phis_at x) → y ≡ (x.0, emptied x.1)
phis_in x {y} i = by_keys x.1.keys i
  where
    by_keys : (ks : List Value) → In y (if_phis ks ((x.0, emptied x.1) ∷ [])) → y ≡ (x.0, emptied x.1)
    by_keys [] j = absurd (in_nil j)
    by_keys (k ∷ ks) j = elim (in_cases j) [ inl e ↦ e | inr z ↦ absurd (in_nil z) ]

-- the phis of b are those of d
pub record SamePhis (b d : BlockLifting) : Type 0 where
  pub keys : b.keys ≡ d.keys
  pub decls : b.decls ≡ d.decls
  pub defaults : b.defaults ≡ d.defaults

module _ (F : Func) (ok : Shaped F) where
  abbrev T : Table
  T = walk_of F

  abbrev K : Table
  K = kept (walk_of F)

  abbrev UsedAt : CfgPoint × BlockLifting → Type 0
  UsedAt x = Used (use_count T) x

  entry_used : {r : ℕ} {p : Place} → VisitedAt F r p → UsedAt (region_entry r, entry_block F r p)
  entry_used at_body n = absurd (n refl)
  entry_used (in_case v sf q i) n = absurd (n refl)
  entry_used (in_loop v sf q) n = absurd (n refl)
  entry_used (by_ctrl {r} {s} {c} v q i) n = used_once T (region_exit r) (region_entry s) (leads_there F ok v (c, q, i))

  in_used : {r n : ℕ} {p : Place} {ns : List ℕ} (d : Node) → node_of F n ≡ d → VisitedAt F r p → Suffix (region_of F r).nodes (n ∷ ns) → UsedAt (node_entry n, in_block F d n)
  in_used (block is) e v sf m = absurd (m refl)
  in_used (select k w cs ds u) e v sf m = absurd (m refl)
  in_used {n = n} {ns = ns} (loop b c is u) e v sf m = let q = before_node F ok n ns v sf refl in used_once T q.0 (node_entry n) q.1
  in_used (exit i vs) e v sf m = absurd (m refl)

  out_used : {r n : ℕ} {p : Place} {ns : List ℕ} (d : Node) (q : CfgPoint) → node_of F n ≡ d → VisitedAt F r p → Suffix (region_of F r).nodes (n ∷ ns) → UsedAt (node_exit n, out_block F d n q)
  out_used (block is) q e v sf m = absurd (m refl)
  out_used {n = n} (select k w cs ds u) q e v sf m = used_once T (node_entry n) (node_exit n) (merge_select F ok v sf e)
  out_used (loop b c is u) q e v sf m = absurd (m refl)
  out_used (exit i vs) q e v sf m = absurd (m refl)

  step_used : (x : CfgPoint × BlockLifting) (o : Option CfgPoint) → Step F x o → UsedAt x
  step_used x o (step_entry v) n = entry_used v n
  step_used x o (step_in {n} v sf h) m = in_used (node_of F n) refl v sf m
  step_used x o (step_out {r} {n} {ns = ns} v sf) m = out_used (node_of F n) (next_point r ns) refl v sf m
  step_used x o (step_exit v a) n = absurd (n refl)

  -- the blocks with phis are all kept, and no other
  pub phis_kept : phi_blocks (kept (walk_of F)) ≡ phi_blocks (walk_of F)
  phis_kept = ap phi_blocks (kept_into T (walk_once F ok) (walk_near F ok)) ∙ all_phis (use_count T) T (chain_all (Step F) UsedAt step_used T none (walk_steps F ok))

  pub phi_keys_kept : phi_keys (kept (walk_of F)) ≡ phi_keys (walk_of F)
  phi_keys_kept = sym (keys_phis K) ∙ ap phi_keys phis_kept ∙ keys_phis T

  pub with_phis : (x : CfgPoint × BlockLifting) → In x (walk_of F) → ¬ (x.1.keys ≡ []) → (b : BlockLifting) × In (x.0, b) (kept (walk_of F)) × SamePhis b x.1
  with_phis x i n =
      let w = gather_in phis_at K (subst (In (x.0, emptied x.1)) (sym phis_kept) (in_gather phis_at i (in_phis x n))) in
      let y = w.0 in
      let e : ◌≡◌ {A = CfgPoint × BlockLifting} (x.0, emptied x.1) (y.0, emptied y.1) = phis_in y w.2 in (
        y.1,
        subst (λ (p : CfgPoint). In (p, y.1) K) (ap (λ (z : CfgPoint × BlockLifting). z.0) (sym e)) w.1,
        record {
          keys = ap (λ (z : CfgPoint × BlockLifting). z.1.keys) (sym e);
          decls = ap (λ (z : CfgPoint × BlockLifting). z.1.decls) (sym e);
          defaults = ap (λ (z : CfgPoint × BlockLifting). z.1.defaults) (sym e);
        },
      )

  -- what phis take along an edge without values can be looked up in the walk
  same_found : (a b : Option BlockLifting) → SameKeys a b → (block_or a).defaults ≡ (block_or b).defaults
  same_found none none h = refl
  same_found none (some b) h = absurd h
  same_found (some a) none h = absurd h
  same_found (some a) (some b) h = h.1

  pub defaults_kept : (q : CfgPoint) → (block_at (kept (walk_of F)) q).defaults ≡ (block_at (walk_of F) q).defaults
  unfolding kept
  defaults_kept q = by_count_law ((absorb T).counts q) refl
    where
      U : Table
      U = (absorb T).table

      dropped : (absorb T).counts q ≡ 0 → (o : Option BlockLifting) → find eq_point q K ≡ o → (b : Option BlockLifting) → find eq_point q T ≡ b → (block_or o).defaults ≡ (block_or b).defaults
      dropped z (some d) e b f = absurd (omega (arith, keep_find (absorb T).counts U q d e))
      dropped z none e none f = refl
      dropped z none e (some b) f = by_keys b.keys refl
        where
          by_keys : (ks : List Value) → b.keys ≡ ks → [] ≡ b.defaults
          by_keys [] h = sym (ap (λ (o : Option BlockLifting). (block_or o).defaults) (sym f) ∙ (tidy F ok).no_phis q (ap (λ (o : Option BlockLifting). (block_or o).keys) f ∙ h))
          by_keys (k ∷ ks) h =
              let w = with_phis (q, b) (find_in eq_point q T f) (λ z. let o : ◌≡◌ {A = ℕ} 0 1 = cc in omega arith) in
              absurd (omega (arith, (in_keep (absorb T).counts U (q, w.0) w.1).1))

      by_count_law : (n : ℕ) → (absorb T).counts q ≡ n → (block_at K q).defaults ≡ (block_at T q).defaults
      by_count_law zero z = dropped z (find eq_point q K) refl (find eq_point q T) refl
      by_count_law (suc n) z =
          ap (λ (o : Option BlockLifting). (block_or o).defaults) (find_keep (absorb T).counts U q (omega arith))
          ∙ same_found (find eq_point q U) (find eq_point q T) ((absorb_shape T (leads F ok)).same q)

  pub edge_kept : (t : Terminator) (q : CfgPoint) → edge_of (kept (walk_of F)) t q ≡ edge_of (walk_of F) t q
  edge_kept t q = ap (λ (l : List Value). vals_or (find eq_point q t.vals) l) (defaults_kept q)
