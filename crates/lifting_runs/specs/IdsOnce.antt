-- No name stands twice among those that get new ids, so the ids run on from the first in the names' order.
use Rattle.std.specs.Prelude.{◌≡◌, refl, ◌⊎◌, List, [], ◌∷◌, ◌++◌, map, ℕ, zero, suc, ◌+◌, ◌≤◌, ◌<◌, length, get_or}
use Rattle.std.proofs.Common.{sym, ap, ◌∙◌, subst, append_assoc, arith}
use Rattle.std.proofs.Math.Logic.{inl, inr}
use Rattle.std.proofs.Math.Option.{Option, none, some}
use Rattle.std.proofs.Math.Decide.{ℕ_discrete}
use Rattle.general_laws.specs.Lists.{choose, choose_no, choose_yes, find, gather, tabulate, times}
use Rattle.lifting.specs.Ast.{Func, Node, Value, block, data_inst_output, exit, loop, node_output, region_input, select}
use Rattle.lifting.specs.Parts.{block_ops, children_of, node_of, op_of, outs_of, region_of}
use Rattle.lifting.specs.Points.{BlockLifting, CfgPoint, Table, block_at, block_or, eq_point, node_entry, node_exit, points, region_entry}
use Rattle.lifting.specs.Walk.{Place, entry_block, in_block, in_node, out_block, top, walk_roots}
use Rattle.lifting.specs.Absorb.{absorb, emptied, absorb_into, joined, keep, keep_if, kept, refit}
use Rattle.lifting.specs.Ids.{Name, eq_name, label, names, new_values, number_in, op_keys, param_keys, phi_keys, result_of, the_function, value}
use Rattle.general_laws.specs.Members.{All, In, NoDup, all_right, gather_in, here, in_cases, in_get_or, in_nil, in_split, map_in, nodup_append, nodup_map, nodup_tabulate, nodup_times, tabulate_in, there, times_append, times_nodup}
use Rattle.lifting_runs.specs.Accepted.{Forest, Root}
use Rattle.lifting_runs.specs.AbsorbCount.{Unique, refit_b, refit_other, refit_t, unique_after}
use Rattle.lifting_runs.specs.Tour.{Tree, unique_of}
use Rattle.lifting_runs.specs.Each.{after_absorb, every_point}

-- lists of what belongs to one point each
module _ {A : Type 0} (part : CfgPoint × BlockLifting → List A) (Own : A → CfgPoint → Type 0) (own_once : (a : A) (p q : CfgPoint) → Own a p → Own a q → p ≡ q) where
  abbrev Owned : CfgPoint × BlockLifting → Type 0
  Owned x = (a : A) → In a (part x) → Own a x.0

  owner : (a : A) (T : Table) → All Owned T → In a (gather part T) → (p : CfgPoint) × In p (points T) × Own a p
  owner a [] h i = absurd (in_nil i)
  owner a (x ∷ T) h i = by_case (in_split (part x) (gather part T) i) (owner a T h.1)
    where
      by_case : In a (part x) ⊎ In a (gather part T) → (In a (gather part T) → (p : CfgPoint) × In p (points T) × Own a p) → (p : CfgPoint) × In p (x.0 ∷ points T) × Own a p
      by_case (inl j) ih = (x.0, here, h.0 a j)
      by_case (inr j) ih = let w = ih j in (w.0, there w.1, w.2)

  nodup_owned : (T : Table) → NoDup (points T) → All (λ (x : CfgPoint × BlockLifting). NoDup (part x) × Owned x) T → NoDup (gather part T)
  nodup_owned [] n h = tt
  nodup_owned (x ∷ T) n h = nodup_append (part x) (gather part T) h.0.0 (nodup_owned T n.1 h.1) (λ a i j.
      let w = owner a T (all_right (λ (y : CfgPoint × BlockLifting). NoDup (part y)) Owned T h.1) j in
      n.0 (subst (λ (p : CfgPoint). In p (points T)) (own_once a w.0 x.0 w.2 (h.0.1 a i)) w.1))

-- ops through absorption
abbrev ops_of : Table → List ℕ
ops_of T = gather (λ (x : CfgPoint × BlockLifting). x.1.ops) T

abbrev times_at : Table → CfgPoint → ℕ → ℕ
times_at T p i = times ℕ_discrete i (block_at T p).ops

gain : Option BlockLifting → ℕ → ℕ
gain none k = 0
gain (some d) k = k

gain_low : (o : Option BlockLifting) (k : ℕ) → gain o k ≤ k
unfolding gain
gain_low none k = omega arith
gain_low (some d) k = omega arith

absent_ops : (T : Table) (p : CfgPoint) (i : ℕ) → find eq_point p T ≡ none → times_at T p i ≡ 0
absent_ops T p i h = ap (λ (o : Option BlockLifting). times ℕ_discrete i (block_or o).ops) h

ops_absorb : (b t : CfgPoint) (c : BlockLifting) (i : ℕ) → ¬ (b ≡ t) → (T : Table) → Unique T → times ℕ_discrete i (ops_of (absorb_into b t c T)) + times_at T t i ≡ times ℕ_discrete i (ops_of T) + gain (find eq_point b T) (times ℕ_discrete i c.ops)
unfolding gain
ops_absorb b t c i n [] u = refl
ops_absorb b t c i n (x ∷ T) u = by_case (eq_point b x.0) (eq_point t x.0) (ops_absorb b t c i n T u.1)
  where
    K : ℕ
    K = times ℕ_discrete i c.ops

    X : ℕ
    X = times ℕ_discrete i x.1.ops

    R : BlockLifting
    R = refit b t c x.0 x.1

    by_case : (d : Dec (b ≡ x.0)) (d_right : Dec (t ≡ x.0)) → times ℕ_discrete i (ops_of (absorb_into b t c T)) + times_at T t i ≡ times ℕ_discrete i (ops_of T) + gain (find eq_point b T) K
        → times ℕ_discrete i (R.ops ++ ops_of (absorb_into b t c T)) + times ℕ_discrete i (block_or (choose d_right (some x.1) (find eq_point t T))).ops
        ≡ times ℕ_discrete i (x.1.ops ++ ops_of T) + gain (choose d (some x.1) (find eq_point b T)) K
    by_case (yes e) (yes e_right) h = absurd (n (e ∙ sym e_right))
    by_case (yes e) (no n_right) h =
        let nb : find eq_point b T ≡ none = subst (λ (p : CfgPoint). find eq_point p T ≡ none) (sym e) u.0 in
        let r : times ℕ_discrete i R.ops ≡ X + K = ap (λ (d : BlockLifting). times ℕ_discrete i d.ops) (subst (λ (p : CfgPoint). refit b t c p x.1 ≡ joined x.1 c) e (refit_b b t c x.1 n)) ∙ times_append i x.1.ops c.ops in
        let g : gain (find eq_point b T) K ≡ 0 = ap (λ (o : Option BlockLifting). gain o K) nb in
        omega (arith, times_append i R.ops (ops_of (absorb_into b t c T)), times_append i x.1.ops (ops_of T))
    by_case (no n_right) (yes e) h =
        let nt : find eq_point t T ≡ none = subst (λ (p : CfgPoint). find eq_point p T ≡ none) (sym e) u.0 in
        let r : times ℕ_discrete i R.ops ≡ 0 = ap (λ (d : BlockLifting). times ℕ_discrete i d.ops) (subst (λ (p : CfgPoint). refit b t c p x.1 ≡ emptied x.1) e (refit_t b t c x.1)) in
        let a = absent_ops T t i nt in
        omega (arith, times_append i R.ops (ops_of (absorb_into b t c T)), times_append i x.1.ops (ops_of T))
    by_case (no n_right) (no n_last) h =
        let r : times ℕ_discrete i R.ops ≡ X = ap (λ (d : BlockLifting). times ℕ_discrete i d.ops) (refit_other b t c x.0 x.1 (λ z. n_last (sym z)) (λ z. n_right (sym z))) in
        omega (arith, times_append i R.ops (ops_of (absorb_into b t c T)), times_append i x.1.ops (ops_of T))

ops_self : (t : CfgPoint) (c : BlockLifting) (i : ℕ) → (T : Table) → times ℕ_discrete i (ops_of (absorb_into t t c T)) ≤ times ℕ_discrete i (ops_of T)
ops_self t c i [] = omega arith
ops_self t c i (x ∷ T) = by_case (eq_point t x.0) (ops_self t c i T)
  where
    R : BlockLifting
    R = refit t t c x.0 x.1

    by_case : Dec (t ≡ x.0) → times ℕ_discrete i (ops_of (absorb_into t t c T)) ≤ times ℕ_discrete i (ops_of T) → times ℕ_discrete i (R.ops ++ ops_of (absorb_into t t c T)) ≤ times ℕ_discrete i (x.1.ops ++ ops_of T)
    by_case (yes e) h =
        let r : times ℕ_discrete i R.ops ≡ 0 = ap (λ (d : BlockLifting). times ℕ_discrete i d.ops) (subst (λ (p : CfgPoint). refit t t c p x.1 ≡ emptied x.1) e (refit_t t t c x.1)) in
        omega (arith, times_append i R.ops (ops_of (absorb_into t t c T)), times_append i x.1.ops (ops_of T))
    by_case (no n) h =
        let r : times ℕ_discrete i R.ops ≡ times ℕ_discrete i x.1.ops = ap (λ (d : BlockLifting). times ℕ_discrete i d.ops) (refit_other t t c x.0 x.1 (λ z. n (sym z)) (λ z. n (sym z))) in
        omega (arith, times_append i R.ops (ops_of (absorb_into t t c T)), times_append i x.1.ops (ops_of T))

ops_after : (b t : CfgPoint) (i : ℕ) (T : Table) → Unique T → times ℕ_discrete i (ops_of (absorb_into b t (block_at T t) T)) ≤ times ℕ_discrete i (ops_of T)
ops_after b t i T u = by_case (eq_point b t)
  where
    by_case : Dec (b ≡ t) → times ℕ_discrete i (ops_of (absorb_into b t (block_at T t) T)) ≤ times ℕ_discrete i (ops_of T)
    by_case (yes e) = subst (λ (p : CfgPoint). times ℕ_discrete i (ops_of (absorb_into p t (block_at T t) T)) ≤ times ℕ_discrete i (ops_of T)) (sym e) (ops_self t (block_at T t) i T)
    by_case (no n) = omega (arith, ops_absorb b t (block_at T t) i n T u, gain_low (find eq_point b T) (times ℕ_discrete i (block_at T t).ops))

-- through all absorptions and the drop
abbrev Fewer : Table → Table → Type 0
Fewer T U = Unique U × ((i : ℕ) → times ℕ_discrete i (ops_of U) ≤ times ℕ_discrete i (ops_of T))

keep_fewer : (c : CfgPoint → ℕ) (i : ℕ) (T : Table) → times ℕ_discrete i (ops_of (keep c T)) ≤ times ℕ_discrete i (ops_of T)
keep_fewer c i [] = omega arith
keep_fewer c i (x ∷ T) = by_case (c x.0) (keep_fewer c i T)
  where
    by_case : (n : ℕ) → times ℕ_discrete i (ops_of (keep c T)) ≤ times ℕ_discrete i (ops_of T) → times ℕ_discrete i (ops_of (keep_if n x (keep c T))) ≤ times ℕ_discrete i (x.1.ops ++ ops_of T)
    by_case zero h = omega (arith, times_append i x.1.ops (ops_of T))
    by_case (suc n) h = omega (arith, times_append i x.1.ops (ops_of T), times_append i x.1.ops (ops_of (keep c T)))

pub kept_ops : (T : Table) → Unique T → NoDup (ops_of T) → NoDup (ops_of (kept T))
unfolding kept
kept_ops T u n = times_nodup (ops_of (kept T)) (λ i.
    let f = after_absorb (Fewer T) (λ b t U h. (unique_after b t (block_at U t) U h.0, λ i. omega (arith, ops_after b t i U h.0, h.1 i))) T (u, λ i. omega arith) in
    omega (arith, keep_fewer (absorb T).counts i (absorb T).table, f.1 i, nodup_times i (ops_of T) n))

-- which point sets a value, and which has an op
module _ (F : Func) (depth : ℕ) (tr : Tree F depth) (root0 : Root F 0) where
  data KeyAt : Value → CfgPoint → Type 0 where
    at_root : {r i t : ℕ} → r ≡ suc t → Root F r → KeyAt (region_input r i) (region_entry r)
    at_loop : {n b i : ℕ} → In b (children_of (node_of F n)) → KeyAt (region_input b i) (node_entry n)
    at_out : {n i : ℕ} → KeyAt (node_output n i) (node_exit n)

  -- an input of a region: of a root but the body, at its entry; of a loop's body, at the loop's
  abbrev RegionKey : CfgPoint → ℕ → Type 0
  RegionKey p r = ((p ≡ region_entry r) × Root F r × ((t : ℕ) × (r ≡ suc t))) ⊎ ((n : ℕ) × (p ≡ node_entry n) × In r (children_of (node_of F n)))

  abbrev KeyIs : Value → CfgPoint → Type 0
  KeyIs v p = ((r : ℕ) × (i : ℕ) × (v ≡ region_input r i) × RegionKey p r) ⊎ ((n : ℕ) × (i : ℕ) × (v ≡ node_output n i) × (p ≡ node_exit n))

  key_is : {v : Value} {p : CfgPoint} → KeyAt v p → KeyIs v p
  key_is (at_root {r} {i} {t} e h) = inl (r, i, refl, inl (refl, h, (t, e)))
  key_is (at_loop {n} {b} {i} h) = inl (b, i, refl, inr (n, refl, h))
  key_is (at_out {n} {i}) = inr (n, i, refl, refl)

  input_region : {r s i j : ℕ} → region_input r i ≡ region_input s j → r ≡ s
  input_region e = cc

  output_node : {r s i j : ℕ} → node_output r i ≡ node_output s j → r ≡ s
  output_node e = cc

  input_output : {r s i j : ℕ} → region_input r i ≡ node_output s j → ⊥
  input_output {r} {s} {i} {j} e = let z : ◌≡◌ {A = ℕ} 0 1 = cc in omega arith

  key_once : (v : Value) (p q : CfgPoint) → KeyAt v p → KeyAt v q → p ≡ q
  key_once v p q a b = by_case (key_is a) (key_is b)
    where
      by_case : KeyIs v p → KeyIs v q → p ≡ q
      by_case (inl (r, i, e, inl (ep, h, t))) (inl (s, j, f, inl (eq, g, u))) = ep ∙ ap region_entry (input_region (sym e ∙ f)) ∙ sym eq
      by_case (inl (r, i, e, inl (ep, h, t))) (inl (s, j, f, inr (n, eq, g))) = absurd (h n (subst (λ (z : ℕ). In z (children_of (node_of F n))) (sym (input_region (sym e ∙ f))) g))
      by_case (inl (r, i, e, inr (n, ep, h))) (inl (s, j, f, inl (eq, g, u))) = absurd (g n (subst (λ (z : ℕ). In z (children_of (node_of F n))) (input_region (sym e ∙ f)) h))
      by_case (inl (r, i, e, inr (n, ep, h))) (inl (s, j, f, inr (k, eq, g))) =
          ep ∙ ap node_entry (tr.child_once n k s (subst (λ (z : ℕ). In z (children_of (node_of F n))) (input_region (sym e ∙ f)) h) g) ∙ sym eq
      by_case (inl (r, i, e, w)) (inr (n, j, f, eq)) = absurd (input_output (sym e ∙ f))
      by_case (inr (n, j, f, ep)) (inl (r, i, e, w)) = absurd (input_output (sym e ∙ f))
      by_case (inr (n, i, e, ep)) (inr (k, j, f, eq)) = ep ∙ ap node_exit (output_node (sym e ∙ f)) ∙ sym eq

  inputs_nodup : (r n : ℕ) → NoDup (tabulate (region_input r) 0 n)
  inputs_nodup r n = nodup_tabulate (region_input r) inj 0 n
    where
      inj : (i j : ℕ) → region_input r i ≡ region_input r j → i ≡ j
      inj i j e = cc

  outputs_nodup : (d n : ℕ) → NoDup (tabulate (node_output d) 0 n)
  outputs_nodup d n = nodup_tabulate (node_output d) inj 0 n
    where
      inj : (i j : ℕ) → node_output d i ≡ node_output d j → i ≡ j
      inj i j e = cc

  -- the phis of one block
  abbrev key_part : CfgPoint × BlockLifting → List Value
  key_part x = x.1.keys

  abbrev KeysOk : CfgPoint × BlockLifting → Type 0
  KeysOk x = NoDup (key_part x) × Owned key_part KeyAt key_once x

  tabulated : (f : ℕ → Value) (p : CfgPoint) (n : ℕ) → ((i : ℕ) → KeyAt (f i) p) → (v : Value) → In v (tabulate f 0 n) → KeyAt v p
  tabulated f p n h v i = let w = tabulate_in f 0 n i in subst (λ (u : Value). KeyAt u p) (sym w.2) (h w.0)

  entry_ok : (r : ℕ) (p : Place) → (p ≡ top → Root F r) → KeysOk (region_entry r, entry_block F r p)
  entry_ok zero top t = (tt, λ a i. absurd (in_nil i))
  entry_ok (suc r) top t = (inputs_nodup (suc r) (length (region_of F (suc r)).ins), tabulated (region_input (suc r)) _ (length (region_of F (suc r)).ins) (λ j. at_root refl (t refl)))
  entry_ok r (in_node n) t = (tt, λ a i. absurd (in_nil i))

  in_ok : (n : ℕ) (d : Node) → node_of F n ≡ d → KeysOk (node_entry n, in_block F d n)
  in_ok n (block is) e = (tt, λ a i. absurd (in_nil i))
  in_ok n (select k v cs ds u) e = (tt, λ a i. absurd (in_nil i))
  in_ok n (loop b c is u) e =
      (inputs_nodup b (length (region_of F b).ins), tabulated (region_input b) _ (length (region_of F b).ins) (λ j. at_loop (subst (λ (d : Node). In b (children_of d)) (sym e) here)))
  in_ok n (exit j vs) e = (tt, λ a i. absurd (in_nil i))

  out_ok : (n : ℕ) (d : Node) (q : CfgPoint) → KeysOk (node_exit n, out_block F d n q)
  out_ok n d q = (outputs_nodup n (length (outs_of d)), tabulated (node_output n) _ (length (outs_of d)) (λ j. at_out))

  -- ops
  abbrev OpAt : ℕ → CfgPoint → Type 0
  OpAt i p = (n : ℕ) × (p ≡ node_entry n) × In i (block_ops (node_of F n))

  abbrev op_part : CfgPoint × BlockLifting → List ℕ
  op_part x = x.1.ops

  module _ (once : Forest F) where
    op_at_once : (i : ℕ) (p q : CfgPoint) → OpAt i p → OpAt i q → p ≡ q
    op_at_once i p q (n, e, h) (k, f, g) = e ∙ ap node_entry (once.op_once i n k h g) ∙ sym f

    abbrev OpsFine : CfgPoint × BlockLifting → Type 0
    OpsFine x = NoDup (op_part x) × Owned op_part OpAt op_at_once x

    in_ops : (n : ℕ) (d : Node) → node_of F n ≡ d → OpsFine (node_entry n, in_block F d n)
    in_ops n (block is) e = (subst (λ (d : Node). NoDup (block_ops d)) e (once.ops_once n), λ i h. (n, refl, subst (λ (d : Node). In i (block_ops d)) (sym e) h))
    in_ops n (select k v cs ds u) e = (tt, λ i h. absurd (in_nil h))
    in_ops n (loop b c is u) e = (tt, λ i h. absurd (in_nil h))
    in_ops n (exit j vs) e = (tt, λ i h. absurd (in_nil h))

    -- over the walk
    module _ (rs : List ℕ) (rt : (r : ℕ) → In r rs → Root F r) (nd : NoDup (points (walk_roots F depth rs))) where
      abbrev T : Table
      T = walk_roots F depth rs

      keys_fine : All KeysOk T
      keys_fine = every_point F KeysOk entry_ok (λ r p. (tt, λ a i. absurd (in_nil i))) (λ n. in_ok n (node_of F n) refl) (λ n q. out_ok n (node_of F n) q) depth rs rt

      ops_fine : All OpsFine T
      ops_fine = every_point F OpsFine (λ r p t. (tt, λ i h. absurd (in_nil h))) (λ r p. (tt, λ i h. absurd (in_nil h))) (λ n. in_ops n (node_of F n) refl)
          (λ n q. (tt, λ i h. absurd (in_nil h))) depth rs rt

      pub phis_nodup : NoDup (phi_keys T)
      phis_nodup = nodup_owned key_part KeyAt key_once T nd keys_fine

      ops_nodup : NoDup (ops_of T)
      ops_nodup = nodup_owned op_part OpAt op_at_once T nd ops_fine

      -- results
      abbrev result : ℕ → List Value
      result i = result_of (op_of F i).type i

      result_is : (t i : ℕ) {v : Value} → In v (result_of t i) → v ≡ data_inst_output i
      result_is zero i h = absurd (in_nil h)
      result_is (suc t) i h = elim (in_cases h) [ inl e ↦ e | inr j ↦ absurd (in_nil j) ]

      result_once : (t i : ℕ) → NoDup (result_of t i)
      result_once zero i = tt
      result_once (suc t) i = (λ h. in_nil h, tt)

      output_op : {i j : ℕ} → data_inst_output i ≡ data_inst_output j → i ≡ j
      output_op e = cc

      results_nodup : (is : List ℕ) → NoDup is → NoDup (gather result is)
      results_nodup [] n = tt
      results_nodup (i ∷ is) n = nodup_append (result i) (gather result is) (result_once (op_of F i).type i) (results_nodup is n.1) (λ v a b.
          let w = gather_in result is b in
          n.0 (subst (λ (j : ℕ). In j is) (sym (output_op (sym (result_is (op_of F i).type i a) ∙ result_is (op_of F w.0).type w.0 w.2))) w.1))

      gather_append : (a b : List ℕ) → gather result (a ++ b) ≡ gather result a ++ gather result b
      gather_append [] b = refl
      gather_append (i ∷ a) b = ap (λ (l : List Value). result i ++ l) (gather_append a b) ∙ sym (append_assoc (result i) (gather result a) (gather result b))

      results_ops : (U : Table) → op_keys F U ≡ gather result (ops_of U)
      results_ops [] = refl
      results_ops (x ∷ U) = ap (λ (l : List Value). gather result x.1.ops ++ l) (results_ops U) ∙ sym (gather_append x.1.ops (ops_of U))

      results_once : NoDup (op_keys F (kept T))
      results_once = subst NoDup (sym (results_ops (kept T))) (results_nodup (ops_of (kept T)) (kept_ops T (unique_of T nd) ops_nodup))

      -- parameters, phis and results are different values
      result_of_law : (v : Value) → In v (op_keys F (kept T)) → (i : ℕ) × (v ≡ data_inst_output i)
      result_of_law v h = let w = gather_in result (ops_of (kept T)) (subst (In v) (results_ops (kept T)) h) in (w.0, result_is (op_of F w.0).type w.0 w.2)

      phi_of : (v : Value) → In v (phi_keys T) → (p : CfgPoint) × KeyAt v p
      phi_of v h = let w = owner key_part KeyAt key_once v T (all_right (λ (y : CfgPoint × BlockLifting). NoDup (key_part y)) (Owned key_part KeyAt key_once) T keys_fine) h in (w.0, w.2)

      input_result : {r i j : ℕ} → region_input r i ≡ data_inst_output j → ⊥
      input_result {r} {i} {j} e = let z : ◌≡◌ {A = ℕ} 0 1 = cc in omega arith

      output_result : {n i j : ℕ} → node_output n i ≡ data_inst_output j → ⊥
      output_result {n} {i} {j} e = let z : ◌≡◌ {A = ℕ} 0 1 = cc in omega arith

      phi_result : (v : Value) → In v (phi_keys T) → In v (op_keys F (kept T)) → ⊥
      phi_result v a b = by_case (key_is (phi_of v a).1)
        where
          by_case : KeyIs v (phi_of v a).0 → ⊥
          by_case (inl (r, i, e, w)) = input_result (sym e ∙ (result_of_law v b).1)
          by_case (inr (n, i, e, w)) = output_result (sym e ∙ (result_of_law v b).1)

      param_phi : (v : Value) → In v (param_keys F) → In v (phi_keys T) → ⊥
      param_phi v a b = by_case (key_is (phi_of v b).1)
        where
          is : v ≡ region_input 0 (tabulate_in (region_input 0) 0 (length F.params) a).0
          is = (tabulate_in (region_input 0) 0 (length F.params) a).2

          by_case : KeyIs v (phi_of v b).0 → ⊥
          by_case (inl (r, j, f, inl (ep, h, (t, q)))) = omega (arith, input_region (sym is ∙ f), q)
          by_case (inl (r, j, f, inr (n, ep, h))) = root0 n (subst (λ (z : ℕ). In z (children_of (node_of F n))) (sym (input_region (sym is ∙ f))) h)
          by_case (inr (n, j, f, ep)) = input_output (sym is ∙ f)

      param_result : (v : Value) → In v (param_keys F) → In v (op_keys F (kept T)) → ⊥
      param_result v a b = input_result (sym (tabulate_in (region_input 0) 0 (length F.params) a).2 ∙ (result_of_law v b).1)

      pub values_once : NoDup (new_values F T (kept T))
      values_once =
          nodup_append (param_keys F) _ (inputs_nodup 0 (length F.params)) (nodup_append (phi_keys T) _ phis_nodup results_once phi_result)
          (λ v a b. elim (in_split (phi_keys T) (op_keys F (kept T)) b) [ inl k ↦ param_phi v a k | inr r ↦ param_result v a r ])

      -- the kept points
      absorb_points : (b t : CfgPoint) (c : BlockLifting) (U : Table) → points (absorb_into b t c U) ≡ points U
      absorb_points b t c [] = refl
      absorb_points b t c (x ∷ U) = ap (λ (l : List CfgPoint). x.0 ∷ l) (absorb_points b t c U)

      in_keep_points : (c : CfgPoint → ℕ) (U : Table) (p : CfgPoint) → In p (points (keep c U)) → In p (points U)
      in_keep_points c [] p h = h
      in_keep_points c (x ∷ U) p h = by_case (c x.0) h (in_keep_points c U p)
        where
          by_case : (n : ℕ) → In p (points (keep_if n x (keep c U))) → (In p (points (keep c U)) → In p (points U)) → In p (x.0 ∷ points U)
          by_case zero h ih = there (ih h)
          by_case (suc n) h ih = elim (in_cases h) [ inl e ↦ subst (λ (q : CfgPoint). In q (x.0 ∷ points U)) (sym e) here | inr i ↦ there (ih i) ]

      keep_points : (c : CfgPoint → ℕ) (U : Table) → NoDup (points U) → NoDup (points (keep c U))
      keep_points c [] n = tt
      keep_points c (x ∷ U) n = by_case (c x.0) (keep_points c U n.1)
        where
          by_case : (k : ℕ) → NoDup (points (keep c U)) → NoDup (points (keep_if k x (keep c U)))
          by_case zero ih = ih
          by_case (suc k) ih = (λ h. n.0 (in_keep_points c U x.0 h), ih)

      pub kept_points : NoDup (points (kept T))
      unfolding kept
      kept_points = keep_points (absorb T).counts (absorb T).table (after_absorb (λ U. NoDup (points U)) (λ b t U h. rw (absorb_points b t (block_at U t) U) h) T nd)

      -- a value, a label and the function are different names
      value_inj : (v w : Value) → value v ≡ value w → v ≡ w
      value_inj v w e = cc

      label_point_law : (p q : CfgPoint) → label p ≡ label q → p ≡ q
      label_point_law p q e = cc

      value_label : {v : Value} {p : CfgPoint} → value v ≡ label p → ⊥
      value_label {v} {p} e = let z : ◌≡◌ {A = ℕ} 0 1 = cc in omega arith

      function_value : {v : Value} → the_function ≡ value v → ⊥
      function_value {v} e = let z : ◌≡◌ {A = ℕ} 0 1 = cc in omega arith

      function_label : {p : CfgPoint} → the_function ≡ label p → ⊥
      function_label {p} e = let z : ◌≡◌ {A = ℕ} 0 1 = cc in omega arith

      pub names_once : NoDup (names F T (kept T))
      unfolding names
      names_once = (
        λ h. elim (in_split (map value (new_values F T (kept T))) (map label (points (kept T))) h) [
          | inl a ↦ function_value (map_in value (new_values F T (kept T)) a).2
          | inr b ↦ function_label (map_in label (points (kept T)) b).2
        ],
        nodup_append (map value (new_values F T (kept T))) _ (nodup_map value value_inj (new_values F T (kept T)) values_once) (nodup_map label label_point_law (points (kept T)) kept_points)
            (λ x a b. value_label (sym (map_in value (new_values F T (kept T)) a).2 ∙ (map_in label (points (kept T)) b).2)),
      )

-- without repeats the k-th name has the k-th number
pub number_at : (l : List Name) → NoDup l → (m k : ℕ) (d : Name) → k < length l → number_in m (get_or l k d) l ≡ m + k
number_at [] n m k d h = absurd (omega arith)
number_at (x ∷ l) n m zero d h = choose_yes {A = ℕ} (eq_name x x) m (number_in (suc m) x l) refl ∙ omega arith
number_at (x ∷ l) n m (suc k) d h =
    choose_no {A = ℕ} (eq_name (get_or l k d) x) m (number_in (suc m) (get_or l k d) l) (λ e. n.0 (subst (λ (y : Name). In y l) e (in_get_or l k d (omega arith))))
    ∙ number_at l n.1 (suc m) k d (omega arith) ∙ omega arith
