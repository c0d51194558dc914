-- An accepted text: what the three simulations need of its walk and its kept blocks follows from what the refusals leave. Assumes nothing.
use Rattle.std.specs.Prelude.{◌≡◌, refl, true, List, [], ◌∷◌, length, T as Holds}
use Rattle.std.proofs.Common.{sym, ap, ◌∙◌, subst, arith, eqb→eq}
use Rattle.std.proofs.Math.Option.{Option, some}
use Prim.Native.Nat.{ℕ, zero, suc, ◌<◌}
use Rattle.general_laws.specs.Lists.{find, gather, tabulate}
use Rattle.lifting.specs.Ast.{Func, Node, Value, const, data_inst_output, loop, node_output, region_input}
use Rattle.lifting.specs.Parts.{const_of, has_body, node_of, op_of, outs_of, region_of, vals_or}
use Rattle.lifting.specs.Points.{BlockLifting, CfgPoint, Table, block_at, block_or, edge_of, eq_point}
use Rattle.lifting.specs.Walk.{Place, always, entry_block, in_block, in_node, top, walk_of}
use Rattle.lifting.specs.Absorb.{absorb, kept, use_count}
use Rattle.lifting.specs.Ids.{names, param_keys, phi_keys, result_of, value}
use Rattle.lifting.specs.Instructions.{list_of}
use Rattle.lifting.specs.Machine.{Ends}
use Rattle.lifting.specs.World.{Executed, World, stuck}
use Rattle.lifting.specs.BlockRun.{block_log, block_start, block_step, parts}
use Rattle.lifting.specs.Runs.{AlikeRuns, TrueConstants}
use Rattle.general_laws.specs.Members.{All, In, all_from, all_in, here, in_gather, in_left, in_map, in_right, there}
use Rattle.lifting_runs.specs.Accepted.{Accepted, Settled, a_const, a_param, a_phi, a_result}
use Rattle.lifting_runs.specs.Stuck.{points_go_on}
use Rattle.lifting_runs.specs.Structure.{CountedStates}
use Rattle.lifting_runs.specs.AbsorbCount.{in_labels}
use Rattle.lifting_runs.specs.AbsorbAll.{Kept, absorb_kept, find_keep}
use Rattle.lifting_runs.specs.Ids.{KnownIds}
use Rattle.lifting_runs.specs.EmitRun.{BlockOk, KnownResult, OpOk, Sound, all_find}
use Rattle.lifting_runs.specs.Start.{kept_listing, param_named, regions_listing}
use Rattle.lifting_runs.specs.Tour.{find_unique}
use Rattle.general_laws.specs.Tests.{find_in}
use Rattle.lifting_runs.specs.Each.{every_walked}
use Rattle.lifting_runs.specs.Terms.{TermOk}
use Rattle.lifting_runs.specs.Shaped.{Shaped}
use Rattle.lifting_runs.proofs.Shaped.{laid, leads, shaped_accepted, tidy}
use Rattle.lifting_runs.proofs.EndedKept.{kept_term}
use Rattle.lifting_runs.specs.KeptTerms.{SameKeys, Shape, absorb_shape, in_keep, in_uses, same_some, some_same}

-- any world will do: what the emitter needs of the blocks does not depend on it
abbrev pub some_world : World (Unit {0})
some_world = record { arg = λ i. tt; constant = λ c. tt; result = λ n. tt; truth = λ v. true; rule = λ i vs n. 0; rule_lt = λ i vs n h. h }

module _ (F : Func) (first : ℕ) (ok : Accepted F first) (body : has_body F.regions ≡ true) where
  abbrev T : Table
  T = walk_of F

  abbrev K : Table
  K = kept (walk_of F)

  abbrev U : Table
  U = (absorb (walk_of F)).table

  none_of : (l : List Value) → length l ≡ 0 → l ≡ []
  none_of [] h = refl
  none_of (x ∷ l) h = absurd (omega arith)

  counted : CountedStates F
  counted = record {
    cases_fit_law = λ n e. ok.fitting.cases_count n e;
    loop_fit = λ n e h. none_of _ (ok.fitting.loop_ins n e ∙ sym (ok.fitting.loop_outs n e) ∙ ap (λ (l : List Value). length l) h);
    ctrl_fit = λ r e. ok.fitting.ctrl_way r e;
    ctrl_off = λ r e i. ok.targets.not_body r _ e i;
  }

  abbrev shaped : Shaped F
  shaped = shaped_accepted F first ok body

  shape : Shape T U
  shape = absorb_shape T (leads F shaped)

  -- phi keys are no constants
  unfoldable pub NoCon : Value → Type 0
  NoCon (const n) = ⊥
  NoCon (region_input r i) = Unit {0}
  NoCon (node_output n i) = Unit {0}
  NoCon (data_inst_output i) = Unit {0}

  from_rin : (r k n : ℕ) → All NoCon (tabulate (region_input r) k n)
  unfolding NoCon
  from_rin r k zero = tt
  from_rin r k (suc n) = (tt, from_rin r (suc k) n)

  from_out : (r k n : ℕ) → All NoCon (tabulate (node_output r) k n)
  unfolding NoCon
  from_out r k zero = tt
  from_out r k (suc n) = (tt, from_out r (suc k) n)

  entry_keys_law : (r : ℕ) (p : Place) → All NoCon (entry_block F r p).keys
  entry_keys_law zero top = tt
  entry_keys_law (suc r) top = from_rin (suc r) 0 (length (region_of F (suc r)).ins)
  entry_keys_law r (in_node n) = tt

  in_keys_law : (n : ℕ) (d : Node) → All NoCon (in_block F d n).keys
  in_keys_law n (Node.block is) = tt
  in_keys_law n (Node.select kd v cs ds u) = tt
  in_keys_law n (loop b c is u) = from_rin b 0 (length (region_of F b).ins)
  in_keys_law n (Node.exit i vs) = tt

  pub keys_plain : All (λ (x : CfgPoint × BlockLifting). All NoCon x.1.keys) T
  keys_plain = every_walked F (λ (x : CfgPoint × BlockLifting). All NoCon x.1.keys) {R = λ r. Unit {0}} (λ r p t. entry_keys_law r p) (λ r p. tt) (λ n. in_keys_law n (node_of F n))
      (λ n q. from_out n 0 (length (outs_of (node_of F n)))) (λ r i. tt)

  -- phis of the walk and results of kept blocks have names
  known_phi : (v : Value) → NoCon v → In v (phi_keys T) → KnownIds F first T K v
  unfolding NoCon names
  known_phi (const n) c h = absurd c
  known_phi (region_input r i) c h = there (in_left _ (in_map value (in_right (param_keys F) (in_left _ h))))
  known_phi (node_output n i) c h = there (in_left _ (in_map value (in_right (param_keys F) (in_left _ h))))
  known_phi (data_inst_output i) c h = there (in_left _ (in_map value (in_right (param_keys F) (in_left _ h))))

  result_in : (i t ty : ℕ) → ty ≡ suc t → In (data_inst_output i) (result_of ty i)
  result_in i t zero e = absurd (omega arith)
  result_in i t (suc ty) e = here

  known_result : (x : CfgPoint × BlockLifting) (i t : ℕ) → (op_of F i).type ≡ suc t → In i x.1.ops → In x K → KnownIds F first T K (data_inst_output i)
  unfolding names
  known_result x i t e h g =
      there (in_left _ (in_map value (in_right (param_keys F) (in_right (phi_keys T)
      (in_gather (λ (y : CfgPoint × BlockLifting). gather (λ (j : ℕ). result_of (op_of F j).type j) y.1.ops) g
      (in_gather (λ (j : ℕ). result_of (op_of F j).type j) h (result_in i t (op_of F i).type e)))))))

  -- a kept block, before the drop and in the walk
  kept_before : (x : CfgPoint × BlockLifting) → In x K → In x U × (0 < (absorb T).counts x.0)
  unfolding kept
  kept_before x h = in_keep (absorb T).counts U x h

  kept_find : (q : CfgPoint) → 0 < (absorb T).counts q → find eq_point q K ≡ find eq_point q U
  unfolding kept
  kept_find q h = find_keep (absorb T).counts U q h

  module _ {Val : Type 0} (W : World Val) where
    fine : Kept F W T (absorb T)
    fine = absorb_kept F W T (tidy F shaped)

    -- a kept block's phis are the walk's
    keys_of : (x : CfgPoint × BlockLifting) → In x K → (b : BlockLifting) × (find eq_point x.0 T ≡ some b) × (x.1.keys ≡ b.keys)
    keys_of x h =
        let f : find eq_point x.0 U ≡ some x.1 = find_unique U fine.tidy.unique x.0 x.1 (kept_before x h).0 in
        let r = some_same x.1 (find eq_point x.0 T) (subst (λ (o : Option BlockLifting). SameKeys o (find eq_point x.0 T)) f (shape.same x.0)) in
        (r.0, r.1, r.2)

    known_keys : (x : CfgPoint × BlockLifting) → In x K → (v : Value) → In v x.1.keys → KnownIds F first T K v
    known_keys x h v i =
        let r = keys_of x h in
        let b = r.0 in
        let iv : In v b.keys = subst (In v) r.2 i in
        let nc = all_find (λ (c : BlockLifting). All NoCon c.keys) x.0 b T keys_plain r.1 in
        known_phi v (all_in NoCon b.keys nc v iv) (in_gather (λ (y : CfgPoint × BlockLifting). y.1.keys) (find_in eq_point x.0 T r.1) iv)

    known_settled : (v : Value) → Settled F K v → KnownIds F first T K v
    known_settled v (a_const h) = h
    known_settled v (a_param {i} h) = param_named F first T K i h
    known_settled v (a_phi x h i) = known_keys x h v i
    known_settled v (a_result {i} {t} x h j e) = known_result x i t e j h

    known_all : (vs : List Value) → All (Settled F K) vs → All (KnownIds F first T K) vs
    known_all [] h = tt
    known_all (v ∷ vs) h = (known_settled v h.0, known_all vs h.1)

    result_ok : (x : CfgPoint × BlockLifting) (i : ℕ) → In x K → In i x.1.ops → (t : ℕ) → (op_of F i).type ≡ t → KnownResult F first T K t i
    result_ok x i h j zero e = tt
    result_ok x i h j (suc t) e = known_result x i t e j h

    ops_all : (x : CfgPoint × BlockLifting) → In x K → (is : List ℕ) → ((i : ℕ) → In i is → In i x.1.ops) → All (OpOk F first T K) is
    ops_all x h [] sub = tt
    ops_all x h (i ∷ is) sub =
        ((ok.fitting.op_free i, known_all (op_of F i).operands (ok.settles.operands x i h (sub i here)), result_ok x i h (sub i here) (op_of F i).type refl), ops_all x h is (λ j k. sub j (there k)))

    term_of_law : (x : CfgPoint × BlockLifting) → In x K → TermOk T x.1.term
    term_of_law x h = kept_term F shaped x h

    -- the target of a kept block, in the table before the drop
    target_at : (x : CfgPoint × BlockLifting) (q : CfgPoint) → In x K → In q x.1.term.targets → 0 < (absorb T).counts q
    unfolding use_count
    target_at x q h i = omega (arith, fine.counted q, in_uses U x q (kept_before x h).0, in_labels q x.1.term i)

    target_kept : (x : CfgPoint × BlockLifting) (q : CfgPoint) → In x K → In q x.1.term.targets → (e : BlockLifting) × (find eq_point q K ≡ some e)
    target_kept x q h i =
        let w = (term_of_law x h).to q i in
        let r = same_some (find eq_point q U) w.0 (subst (λ (o : Option BlockLifting). SameKeys (find eq_point q U) o) w.1 (shape.same q)) in
        (r.0, kept_find q (target_at x q h i) ∙ r.1)

    edge_fit : (x : CfgPoint × BlockLifting) (q : CfgPoint) (e : BlockLifting) → In x K → In q x.1.term.targets → find eq_point q K ≡ some e → length e.keys ≡ length (edge_of K x.1.term q)
    edge_fit x q e h i f =
        let w = (term_of_law x h).to q i in
        let b = w.0 in
        let fu : find eq_point q U ≡ some e = sym (kept_find q (target_at x q h i)) ∙ f in
        let s : SameKeys (some e) (some b)
        = subst (λ (o : Option BlockLifting). SameKeys o (some b)) fu (subst (λ (o : Option BlockLifting). SameKeys (find eq_point q U) o) w.1 (shape.same q)) in
        ap (λ (l : List Value). length l) s.0 ∙ w.2
        ∙ ap (λ (l : List Value). length (vals_or (find eq_point q x.1.term.vals) l)) (sym s.1)
        ∙ ap (λ (o : Option BlockLifting). length (vals_or (find eq_point q x.1.term.vals) (block_or o).defaults)) (sym f)

    block_fine : (x : CfgPoint × BlockLifting) → In x K → BlockOk F first T K x.1
    block_fine x h = record {
      ops_ok = ops_all x h x.1.ops (λ i j. j);
      kind_free = (term_of_law x h).free;
      ins_known = known_all x.1.term.ins (ok.settles.inputs x h);
      keys_known = all_from (KnownIds F first T K) x.1.keys (λ v i. known_keys x h v i);
      targets_kept = λ q i. target_kept x q h i;
      edges_known = λ q i. known_all (edge_of K x.1.term q) (ok.settles.edges x q h i);
      edges_fit_law = λ q e i f. edge_fit x q e h i f;
      way_fit = (term_of_law x h).way;
    }

    pub sound : Sound F first T K
    sound = record { numbered = ok.numbered; all_ok = all_from (λ (x : CfgPoint × BlockLifting). BlockOk F first T K x.1) K (λ x h. block_fine x h) }

    -- a condition that makes a loop's way back unconditional is a constant of opcode 41
    always_41 : (c : ℕ) → always F (const c) ≡ true → (const_of F c).opcode ≡ 41
    always_41 c h = eqb→eq (const_of F c).opcode 41 (subst Holds (sym h) tt)

    -- the regions of an accepted text and the blocks of its list run alike
    pub accepted_alike : TrueConstants F W → AlikeRuns F (list_of F first) W
    unfolding list_of
    accepted_alike true41 =
        regions_listing F first T (tidy F shaped) sound W counted
        (laid F shaped) (λ c h. true41 c (always_41 c h))

    -- the blocks of its list are never stuck, whatever the values of its constants
    pub blocks_go_on : (l : List (Executed Val)) → Ends (block_step W (parts (list_of F first)).blocks) (block_log W (parts (list_of F first)).blocks) (block_start W F.consts (list_of F first)) stuck l → ⊥
    unfolding list_of
    blocks_go_on l x = points_go_on F W (block_at K) l ((kept_listing F first T (tidy F shaped) sound W).end_left stuck l x)
