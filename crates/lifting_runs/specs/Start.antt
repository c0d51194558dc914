-- The run of the emitted list starts as it should, and the whole claim from what the parts need.
use Rattle.std.specs.Prelude.{◌≡◌, refl, true, List, [], ◌∷◌, ◌++◌, map, ℕ, zero, suc, ◌+◌, ◌≤◌, ◌<◌, length}
use Rattle.std.proofs.Math.Path.{sym, ap}
use Rattle.std.proofs.Common.{◌∙◌, subst, arith}
use Rattle.std.proofs.Math.Option.{Option, none, some}
use Rattle.std.proofs.Math.Decide.{ℕ_discrete}
use Rattle.std.proofs.lemmas.List.{length-map}
use Rattle.general_laws.specs.Lists.{choose, choose_yes, find, tabulate}
use Rattle.lifting.specs.Ast.{Const, Func, Value, const, region_input}
use Rattle.lifting.specs.Parts.{const_of}
use Rattle.lifting.specs.Points.{BlockLifting, CfgPoint, Table, block_at, eq_point, region_entry}
use Rattle.lifting.specs.Walk.{always}
use Rattle.lifting.specs.Absorb.{absorb, first_use, keep, keep_if, kept, use_count}
use Rattle.lifting.specs.Ids.{id_of, label_of, names, value}
use Rattle.lifting.specs.Instructions.{Instruction, instructions, op_inst, term_inst}
use Rattle.lifting.specs.Machine.{Alike}
use Rattle.lifting.specs.World.{Mem, World, puts}
use Rattle.lifting.specs.RegionRun.{at_first, region_log, region_start, region_step}
use Rattle.lifting.specs.BlockRun.{BlockState, block_log, block_start, block_step, first_body, first_label, ids_at_first, parts, run_of}
use Rattle.general_laws.specs.Members.{All, In, in_left, in_map, in_tabulate, length_tabulate, map_tabulate, tabulate_all, there}
use Rattle.lifting_runs.specs.Simulation.{alike_trans}
use Rattle.lifting_runs.specs.PointRun.{point_log, point_start, point_step}
use Rattle.lifting_runs.specs.Places.{LaidAt}
use Rattle.lifting_runs.specs.Structure.{CountedStates, regions_points}
use Rattle.lifting_runs.specs.AbsorbAll.{Tidy, absorb_kept, points_kept}
use Rattle.lifting_runs.specs.Ids.{EnvRel, KnownIds, puts_same}
use Rattle.lifting_runs.specs.Listing.{blocks_for, body_run, emit_blocks, emit_params}
use Rattle.lifting_runs.specs.EmitRun.{BlockOk, Sound, all_free, free_of, written_alike}

-- the first point stands first
first_is : (T : Table) (q : CfgPoint) → first_use T q ≡ 1 → (x : CfgPoint × BlockLifting) × (L : Table) × (T ≡ x ∷ L) × (q ≡ x.0)
first_is [] q h = absurd (omega arith)
first_is (x ∷ L) q h = by_case (eq_point q x.0) h
  where
    by_case : (d : Dec (q ≡ x.0)) → ◌≡◌ {A = ℕ} (choose d 1 0) 1 → (y : CfgPoint × BlockLifting) × (M : Table) × (◌≡◌ {A = Table} (x ∷ L) (y ∷ M)) × (q ≡ y.0)
    by_case (yes e) h = (x, L, refl, e)
    by_case (no n) h = absurd (omega arith)

keep_first : (c : CfgPoint → ℕ) (T : Table) (q : CfgPoint) → 0 < c q → first_use T q ≡ 1 → first_use (keep c T) q ≡ 1
keep_first c [] q h f = f
keep_first c (x ∷ T) q h f = by_case (eq_point q x.0) (c x.0) refl f
  where
    by_case : (d : Dec (q ≡ x.0)) (n : ℕ) → c x.0 ≡ n → ◌≡◌ {A = ℕ} (choose d 1 0) 1 → first_use (keep_if n x (keep c T)) q ≡ 1
    by_case (no m) n e g = absurd (omega arith)
    by_case (yes p) zero e g = absurd (omega (arith, ap c p))
    by_case (yes p) (suc n) e g = choose_yes {A = ℕ} (eq_point q x.0) 1 0 p

kept_first : (F : Func) {Val : Type 0} (W : World Val) (T : Table) → Tidy T → first_use (kept T) (region_entry 0) ≡ 1
unfolding kept use_count
kept_first F W T t =
    let k = absorb_kept F W T t in
    keep_first (absorb T).counts (absorb T).table (region_entry 0) (omega (arith, k.counted (region_entry 0), k.tidy.starts)) k.tidy.starts

-- constants and parameters by id
module _ (F : Func) (first : ℕ) (T K : Table) where
  const_ids_law : map (id_of F first T K) (tabulate const 0 (length F.consts)) ≡ map (λ c. c.id) F.consts
  unfolding id_of
  const_ids_law =
      map_tabulate (id_of F first T K) const 0 (length F.consts)
      ∙ sym (map_tabulate (λ (c : Const). c.id) (const_of F) 0 (length F.consts)) ∙ ap (map (λ (c : Const). c.id)) (tabulate_all F.consts (record { id = 0; opcode = 0 }))

  consts_known : (k n : ℕ) → k + n ≤ length F.consts → All (KnownIds F first T K) (tabulate const k n)
  consts_known k zero h = tt
  consts_known k (suc n) h = (omega arith, consts_known (suc k) n (omega arith))

  params_known : (k n : ℕ) → ((i : ℕ) → k ≤ i → i < k + n → In (value (region_input 0 i)) (names F T K)) → All (KnownIds F first T K) (tabulate (region_input 0) k n)
  params_known k zero h = tt
  params_known k (suc n) h = (h k (omega arith) (omega arith), params_known (suc k) n (λ i a b. h i (omega arith) (omega arith)))

  pub param_named : (i : ℕ) → i < length F.params → In (value (region_input 0 i)) (names F T K)
  unfolding names
  param_named i h = there (in_left _ (in_map value (in_left _ (in_tabulate (region_input 0) 0 (length F.params) i (omega arith) (omega arith)))))

  module _ (ok : Sound F first T K) {Val : Type 0} (W : World Val) where
    abbrev pkeys : List Value
    pkeys = tabulate (region_input 0) 0 (length F.params)

    ids_first : ids_at_first W F.consts (instructions F first T K)
        ≡ puts ℕ_discrete (puts ℕ_discrete (λ x. none) (map (id_of F first T K) (tabulate const 0 (length F.consts))) (tabulate W.constant 0 (length F.consts)))
        (map (id_of F first T K) pkeys) (tabulate W.arg 0 (length F.params))
    ids_first =
        let c : ℕ → Option Val = puts ℕ_discrete (λ x. none) (map (λ c. c.id) F.consts) (tabulate W.constant 0 (length F.consts)) in
        ap (λ (ps : List ℕ). puts ℕ_discrete c ps (tabulate W.arg 0 (length ps))) (emit_params F first T K (all_free F first T K ok K ok.all_ok))
        ∙ ap (λ (n : ℕ). puts ℕ_discrete c (map (id_of F first T K) pkeys) (tabulate W.arg 0 n)) (length-map pkeys (id_of F first T K) ∙ length_tabulate (region_input 0) 0 (length F.params))
        ∙ ap (λ (is : List ℕ). puts ℕ_discrete (puts ℕ_discrete (λ x. none) is (tabulate W.constant 0 (length F.consts))) (map (id_of F first T K) pkeys) (tabulate W.arg 0 (length F.params)))
        (sym const_ids_law)

    env_first : EnvRel F first T K ok.numbered (at_first F W) (ids_at_first W F.consts (instructions F first T K))
    env_first = subst (λ (f : ℕ → Option Val). EnvRel F first T K ok.numbered (at_first F W) f) (sym ids_first)
        (puts_same F first T K ok.numbered pkeys (tabulate W.arg 0 (length F.params)) _ _
        (puts_same F first T K ok.numbered (tabulate const 0 (length F.consts)) (tabulate W.constant 0 (length F.consts)) (λ x. none) (λ x. none) (λ v k. refl)
        (consts_known 0 (length F.consts) (omega arith)))
        (params_known 0 (length F.params) (λ i a b. param_named i (omega arith))))

-- the head of a table is found
find_head : (x : CfgPoint × BlockLifting) (L : Table) (q : CfgPoint) → q ≡ x.0 → find eq_point q (x ∷ L) ≡ some x.1
find_head x L q e = choose_yes (eq_point q x.0) (some x.1) (find eq_point q L) e

-- the list written for a text whose walk is T
abbrev pub listing : (F : Func) (first : ℕ) (T : Table) → List Instruction
listing F first T = instructions F first T (kept T)

module _ (F : Func) (first : ℕ) (T : Table) (tidy : Tidy T) (ok : Sound F first T (kept T)) {Val : Type 0} (W : World Val) where
  abbrev K : Table
  K = kept T

  first_state : (d : BlockLifting) (x : CfgPoint × BlockLifting) (L : Table) → K ≡ x ∷ L → region_entry 0 ≡ x.0 → x.1 ≡ d
      → block_start W F.consts (listing F first T)
      ≡ record {
        at = label_of F first T K (region_entry 0);
        todo = map (op_inst F first T K) d.ops ++ (term_inst F first T K d.term ∷ []);
        mem = record { env = ids_at_first W F.consts (listing F first T); log = [] };
      }
  first_state d x L e p q =
      let m : Mem Val ℕ = record { env = ids_at_first W F.consts (listing F first T); log = [] } in
      let sx : BlockOk F first T K x.1 = (subst (λ (t : Table). All (λ (y : CfgPoint × BlockLifting). BlockOk F first T K y.1) t) e ok.all_ok).0 in
      ap (λ (b : List (ℕ × List Instruction)). record { at = first_label b; todo = run_of (first_body b); mem = m })
      (emit_blocks F first T K (all_free F first T K ok K ok.all_ok) ∙ ap (blocks_for F first T K) e)
      ∙ ap (λ (t : List Instruction). record { at = label_of F first T K x.0; todo = t; mem = m }) (body_run F first T K x.0 x.1 (free_of F first T K ok x.1 sx))
      ∙ ap (λ (b : BlockLifting). record { at = label_of F first T K x.0; todo = map (op_inst F first T K) b.ops ++ (term_inst F first T K b.term ∷ []); mem = m }) q
      ∙ ap (λ (r : CfgPoint). record { at = label_of F first T K r; todo = map (op_inst F first T K) d.ops ++ (term_inst F first T K d.term ∷ []); mem = m }) (sym p)

  -- the run of the kept blocks and that of the list are alike
  pub kept_listing : Alike (point_step F W (block_at K)) (point_log F W (block_at K)) (block_step W (parts (listing F first T)).blocks) (block_log W (parts (listing F first T)).blocks)
      (point_start F W (block_at K)) (block_start W F.consts (listing F first T))
  kept_listing =
      let w = first_is K (region_entry 0) (kept_first F W T tidy) in
      let d = w.0.1 in
      let fd : find eq_point (region_entry 0) K ≡ some d = ap (find eq_point (region_entry 0)) w.2 ∙ find_head w.0 w.1 (region_entry 0) w.3 in
      let a = written_alike F first T K ok W d fd (ids_at_first W F.consts (listing F first T)) (env_first F first T K ok W) in
      subst (λ (b : List (ℕ × List Instruction)). Alike (point_step F W (block_at K)) (point_log F W (block_at K)) (block_step W b) (block_log W b) (point_start F W (block_at K)) (block_start W F.consts (listing F first T)))
      (sym (emit_blocks F first T K (all_free F first T K ok K ok.all_ok)))
      (subst (λ (s : BlockState Val). Alike (point_step F W (block_at K)) (point_log F W (block_at K)) (block_step W (blocks_for F first T K K)) (block_log W (blocks_for F first T K K)) (point_start F W (block_at K)) s)
      (sym (first_state d w.0 w.1 w.2 w.3 refl)) a)

  -- the whole: the regions' run and the list's are alike
  pub regions_listing : CountedStates F → LaidAt F (block_at T) → ((c : ℕ) → always F (const c) ≡ true → W.truth (W.constant c) ≡ true)
      → Alike (region_step F W) (region_log F W) (block_step W (parts (listing F first T)).blocks) (block_log W (parts (listing F first T)).blocks) (region_start F W) (block_start W F.consts (listing F first T))
  regions_listing counted laid ct = alike_trans (regions_points F W (block_at T) counted ct laid) (alike_trans (points_kept F W T tidy) kept_listing)
