-- Refusals 5, 6, 7, 13 and 9 as the facts that a run needs: each is one of their tests, read at one line. Assumes nothing.
use Rattle.std.specs.Prelude.{◌≡◌, Bool, true, false, ◌&&◌, ◌||◌, leb, ltb}
use Rattle.std.proofs.Math.Path.{refl}
use Rattle.std.proofs.Common.{inl, inr, arith}
use Rattle.std.proofs.lemmas.Bool.{false≢true}
use mathlib.Core.List.{List, [], ◌∷◌}
use Rattle.std.proofs.Math.Option.{some}
use Prim.Native.Nat.{ℕ, zero, suc, ◌≤◌, ◌<◌}
use Rattle.std.proofs.Math.Decide.{ℕ_discrete}
use Rattle.std.proofs.Math.Dec.{eqb}
use Rattle.std.proofs.Math.ListN.{length}
use borrow.Author.Tests.{leb-true, ltb-true, eqb-true, not-true}
use Rattle.lifting_runs.specs.StandsOnce.{stands_once_law}
use Rattle.general_laws.specs.Lists.{every, within, distinct, keys}
use Rattle.lifting.specs.Ast.{Value, SelectionKind, bool_cond, spv_inst, DataInstKind, inst, call, ext, Decl, Node, block, select, loop, Region, ControlInstKind, unreachable, return, branch, select_branch, exit_invocation, ControlInst, Const, Func}
use Rattle.lifting.specs.Parts.{const_of, region_of, node_of, op_of, ctrl_of, has_body, children_of, block_ops, vals_for, selection_insts, op_insts, ctrl_insts, node_list, op_list, child_list, required_ids, ids}
use Rattle.lifting.specs.Limits.{highest_id}
use Rattle.lifting.specs.Tree.{around_itself, is_tree}
use Rattle.lifting.specs.Counts.{cases_fit, ends_in_exit, outs_fit, node_fits, edges_fit, body_fits, counts_agree}
use Rattle.lifting.specs.Control.{kind_fits, is_root, ctrl_fits, control_fits, bool_distinct, targets_differ}
use Rattle.lifting.specs.Walk.{walk_of}
use Rattle.lifting.specs.Absorb.{kept}
use Rattle.lifting.specs.Ids.{next_id}
use Rattle.lifting.specs.Answer.{ids_fit}
use Rattle.general_laws.specs.Members.{In, there, in_left, in_map, in_get_or, All, all_in, NoDup, not_within}
use Rattle.lifting_runs.specs.Accepted.{FreeInst, FreeOp, FreeSelection, FreeKind, Enough, WayFit, OutsFit, Root, Forest, Targets, Fitting, Numbered}
use Rattle.general_laws.specs.Tests.{both, every_in, all_at, every_all, find_in, every_below, in_at, distinct_once, once_at, same_place, once_by}
use Rattle.lifting_runs.specs.Refers.{Refers}

-- 9: the first id is above 0 and above each id of the text, and no id over the highest is given.
pub record FirstFits (F : Func) (first : ℕ) : Type 0 where
  pub positive : 0 < first
  pub under : All (λ x. x < first) (ids F)
  pub highest : next_id F first (walk_of F) (kept (walk_of F)) ≤ suc highest_id

pub first_fits_law : (F : Func) (first : ℕ) → ids_fit F first ≡ true → FirstFits F first
unfolding ids_fit
first_fits_law F first e =
    let b = both _ _ e in
    let c = both _ _ b.0 in
    record {
      positive = ltb-true 0 first c.0;
      under = every_all (λ x. ltb x first) (λ x. x < first) (λ x h. ltb-true x first h) (ids F) c.1;
      highest = leb-true _ _ b.1;
    }

-- an INST of a line is free of the table; the counts of cases and targets
free_selection : (k : SelectionKind) → All FreeInst (selection_insts k) → FreeSelection k
free_selection bool_cond h = tt
free_selection (spv_inst i) h = h.0

free_op : (k : DataInstKind) → All FreeInst (op_insts k) → FreeOp k
free_op (inst i) h = h.0
free_op (call f) h = tt
free_op (ext s n) h = tt

free_kind : (k : ControlInstKind) → All FreeInst (ctrl_insts k) → FreeKind k
free_kind unreachable h = tt
free_kind return h = tt
free_kind branch h = tt
free_kind (select_branch k) h = free_selection k h
free_kind (exit_invocation i) h = h.0

enough : (k : SelectionKind) (n : ℕ) → cases_fit k n ≡ true → Enough k n
enough bool_cond n e = eqb-true n 2 e
enough (spv_inst i) n e = ltb-true 0 n e

way_fits : (k : ControlInstKind) (ins to : ℕ) → kind_fits k ins to ≡ true → WayFit k to
way_fits unreachable ins to e = eqb-true to 0 (both (eqb ins 0) (eqb to 0) e).1
way_fits return ins to e = eqb-true to 0 (both (leb ins 1) (eqb to 0) e).1
way_fits branch ins to e = eqb-true to 1 (both (eqb ins 0) (eqb to 1) e).1
way_fits (select_branch bool_cond) ins to e = eqb-true to 2 (both (eqb ins 1) (eqb to 2) e).1
way_fits (select_branch (spv_inst i)) ins to e = ltb-true 0 to (both (ltb 0 ins) (ltb 0 to) e).1
way_fits (exit_invocation i) ins to e = eqb-true to 0 e

some_regions : (rs : List Region) → has_body rs ≡ true → 0 < length rs
some_regions [] e = absurd (false≢true e)
some_regions (r ∷ rs) e = omega arith

a_suc : (s : ℕ) → 0 < s → (t : ℕ) × (s ≡ suc t)
a_suc zero h = absurd (omega arith)
a_suc (suc t) h = (t, refl)

module _ (F : Func) where
  -- a region that is not in the list of children is no child
  not_child : (r : ℕ) → is_root F r ≡ true → Root F r
  unfolding child_list
  not_child r e n h = not_within r (child_list F) (not-true (within r (child_list F)) e) (in_at children_of F.nodes (block []) refl n h)

  -- 5: nodes, ops and children stand once, and region 0 is no child
  pub forest : Refers F → is_tree F ≡ true → Forest F × Root F 0
  unfolding is_tree
  forest ok e =
      let all_reached = both _ _ e in
      let body_free = both _ _ all_reached.0 in
      let no_cycles = both _ _ body_free.0 in
      let one_parent = both _ _ no_cycles.0 in
      let placed = both _ _ one_parent.0 in
      let nodes_of : Region → List ℕ = λ r. r.nodes in
      let nodes : NoDup (node_list F) = stands_once_law (length F.nodes) (node_list F) placed.0 ok.nodes_below in
      let ops : NoDup (op_list F) = stands_once_law (length F.ops) (op_list F) placed.1 ok.ops_below in
      let children : NoDup (child_list F) = distinct_once (child_list F) one_parent.1 in (
        record {
          nodes_once = once_at nodes_of _ refl F.regions nodes;
          node_once = same_place nodes_of _ refl F.regions nodes;
          ops_once = once_at block_ops _ refl F.nodes ops;
          op_once = same_place block_ops _ refl F.nodes ops;
          cases_once = once_at children_of _ refl F.nodes children;
          child_once = λ n k c. same_place children_of _ refl F.nodes children c n k;
          child_range = λ n c. all_in _ (children_of (node_of F n)) (ok.children_below n) c;
          no_cycle = λ r h. not-true (around_itself F r) (every_below _ (length F.regions) no_cycles.1 r h);
        },
        not_child 0 body_free.1,
      )

  -- 7, at each ctrl line: its targets, and how many inputs and targets it has
  abbrev aimed : ℕ → Bool
  aimed s = ltb 0 s && is_root F s

  pub line_tests : control_fits F ≡ true → All (λ x. (every aimed x.1.to ≡ true) × (kind_fits x.1.kind (length x.1.ins) (length x.1.to) ≡ true)) F.ctrls
  unfolding control_fits
  line_tests control = every_all (λ x. ctrl_fits F x.1) _ (λ x fits.
      let first = every aimed x.1.to in
      let ways = both (first && _ && _) _ fits in
      ((both first _ (both (first && _) _ ways.0).0).0, ways.1)) F.ctrls (both (distinct (keys F.ctrls) && _ && _) _ control).1

  pub ctrl_tests : control_fits F ≡ true → (r : ℕ) {c : ControlInst} → ctrl_of F r ≡ some c → (every aimed c.to ≡ true) × (kind_fits c.kind (length c.ins) (length c.to) ≡ true)
  ctrl_tests control r {c} e = all_in _ F.ctrls (line_tests control) (r, c) (find_in ℕ_discrete r F.ctrls e)

  ctrl_fits_law : control_fits F ≡ true → (r : ℕ) {c : ControlInst} → ctrl_of F r ≡ some c → All (λ s. (0 < s) × Root F s) c.to × WayFit c.kind (length c.to)
  ctrl_fits_law control r {c} e =
      let tests = ctrl_tests control r e in (
        every_all aimed _ (λ s t. let u = both (ltb 0 s) (is_root F s) t in (ltb-true 0 s u.0, not_child s u.1)) c.to tests.0,
        way_fits c.kind (length c.ins) (length c.to) tests.1,
      )

  -- 13, at a ctrl line
  pub ctrl_differs : targets_differ F ≡ true → (r : ℕ) {c : ControlInst} → ctrl_of F r ≡ some c → bool_distinct c.kind c.to ≡ true
  unfolding targets_differ
  ctrl_differs differ r {c} e = every_in (λ x. bool_distinct x.1.kind x.1.to) F.ctrls differ (r, c) (find_in ℕ_discrete r F.ctrls e)

  pub targets_fit_law : Refers F → has_body F.regions ≡ true → Root F 0 → control_fits F ≡ true → Targets F
  targets_fit_law ok body root control = record {
    some_region = some_regions F.regions body;
    in_range = λ r s {c} e. all_in _ c.to (ok.targets_below r e) s;
    body_root = root;
    target_root = λ r s {c} e h. (all_in _ c.to (ctrl_fits_law control r e).0 s h).1;
    not_body = λ r s {c} e h. a_suc s (all_in _ c.to (ctrl_fits_law control r e).0 s h).0;
  }

  -- 6, at a node and at a ctrl line
  node_fits_law : counts_agree F ≡ true → (n : ℕ) → node_fits F (node_of F n) ≡ true
  unfolding counts_agree
  node_fits_law counts =
      let body = body_fits F.regions (length F.params) F.ctrls in
      let tests = both body _ (both (body && _) _ counts).0 in
      all_at (λ (d : Node). node_fits F d ≡ true) F.nodes (every_all (node_fits F) _ (λ d t. t) F.nodes tests.1) _ refl

  loop_fits : (b : ℕ) (c : Value) (is : List Value) (u : ℕ) → node_fits F (loop b c is u) ≡ true → (length is ≡ length (region_of F b).ins) × (length (region_of F b).outs ≡ length (region_of F b).ins)
  loop_fits b c is u e =
      let n = length (region_of F b).ins in
      let t = both (eqb (length is) n) (eqb (length (region_of F b).outs) n) e in
      (eqb-true (length is) n t.0, eqb-true (length (region_of F b).outs) n t.1)

  outs_fit_law : (c n : ℕ) → outs_fit F c n ≡ true → OutsFit F c n
  outs_fit_law c n e = by_test (eqb (length (region_of F c).outs) n) refl e
    where
      by_test : (a : Bool) → eqb (length (region_of F c).outs) n ≡ a → (a || (eqb (length (region_of F c).outs) 0 && ends_in_exit F (region_of F c).nodes)) ≡ true → OutsFit F c n
      by_test true q h = inl (eqb-true (length (region_of F c).outs) n q)
      by_test false q h = let t = both (eqb (length (region_of F c).outs) 0) (ends_in_exit F (region_of F c).nodes) h in inr (eqb-true (length (region_of F c).outs) 0 t.0, t.1)

  select_fits : (k : SelectionKind) (v : Value) (cs : List ℕ) (ds : List Decl) (u : ℕ) → node_fits F (select k v cs ds u) ≡ true → All (λ c. OutsFit F c (length ds)) cs × Enough k (length cs)
  select_fits k v cs ds u e =
      let none_in : ℕ → Bool = λ c. eqb (length (region_of F c).ins) 0 in
      let case_fits : ℕ → Bool = λ c. none_in c && outs_fit F c (length ds) in
      let t = both (every case_fits cs) (cases_fit k (length cs)) e in
      (every_all case_fits _ (λ c h. outs_fit_law c (length ds) (both (none_in c) _ h).1) cs t.0, enough k (length cs) t.1)

  edge_fits : counts_agree F ≡ true → (r : ℕ) {c : ControlInst} → ctrl_of F r ≡ some c → (s : ℕ) → In s c.to → length (vals_for c s) ≡ length (region_of F s).ins
  unfolding counts_agree
  edge_fits counts r {c} e s h =
      let entries = every (λ (x : ℕ × List Value). eqb (length x.1) (length (region_of F x.0).ins)) c.vals in
      let tests = both (body_fits F.regions (length F.params) F.ctrls && _) _ counts in
      let fits = every_in (λ x. edges_fit F x.1) F.ctrls tests.1 (r, c) (find_in ℕ_discrete r F.ctrls e) in
      eqb-true (length (vals_for c s)) _ (every_in (λ t. eqb (length (vals_for c t)) (length (region_of F t).ins)) c.to (both entries _ fits).1 s h)

  -- 6, 7, and the opcodes of 4
  pub fitting : Refers F → counts_agree F ≡ true → control_fits F ≡ true → Fitting F
  fitting ok counts control = record {
    loop_ins = λ n {b} {c} {is} {u} e. (loop_fits b c is u (rw e at (node_fits_law counts n))).0;
    loop_outs = λ n {b} {c} {is} {u} e. (loop_fits b c is u (rw e at (node_fits_law counts n))).1;
    case_outs = λ n c {k} {v} {cs} {ds} {u} e. all_in _ cs (select_fits k v cs ds u (rw e at (node_fits_law counts n))).0 c;
    edge_ins = λ r s e. edge_fits counts r e s;
    cases_count = λ n {k} {v} {cs} {ds} {u} e. (select_fits k v cs ds u (rw e at (node_fits_law counts n))).1;
    ctrl_way = λ r e. (ctrl_fits_law control r e).1;
    select_free = λ n {k} e. free_selection k (rw e at (ok.node_free n));
    exit_free = λ n e. (rw e at (ok.node_free n)).0;
    ctrl_free = λ r {c} e. free_kind c.kind (ok.ctrl_free r e);
    op_free = λ i. free_op (op_of F i).kind (ok.op_free i);
  }

  -- 9, and the const ids of 4
  pub numbers_fit : (first : ℕ) → Refers F → ids_fit F first ≡ true → Numbered F first
  unfolding ids required_ids
  numbers_fit first ok e =
      let f = first_fits_law F first e in
      record {
        positive = f.positive;
        under = λ n h. all_in _ (ids F) f.under (const_of F n).id (in_left _ (given n h));
        once = once_by (λ (c : Const). c.id) _ F.consts ok.consts_once;
        nonzero = λ n h. all_in _ (required_ids F) ok.ids_above (const_of F n).id (given n h);
      }
    where
      given : (n : ℕ) → n < length F.consts → In (const_of F n).id (required_ids F)
      given n h = there (there (in_left _ (in_map (λ (c : Const). c.id) (in_get_or F.consts n _ h))))
