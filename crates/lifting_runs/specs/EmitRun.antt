-- The kept blocks run like the emitted list.
use Rattle.std.proofs.Math.Path.{◌≡◌, refl, ap, subst}
use Rattle.std.proofs.Common.{sym, ◌∙◌, arith}
use Rattle.std.specs.Prelude.{Bool, true, false, cond, ◌||◌, eqb, get_or, length}
use mathlib.Core.List.{List, [], ◌∷◌, ◌++◌, map}
use Rattle.std.proofs.Math.Option.{Option, none, some}
use Prim.Native.Nat.{ℕ, zero, suc, ◌≤◌, ◌<◌}
use Rattle.std.proofs.Math.Decide.{ℕ_discrete}
use Rattle.std.proofs.lemmas.List.{length-map}
use Rattle.opcodes.specs.Table.{opcode_of}
use Rattle.opcodes.specs.declared.InstKind.TheVariants.{ExtInst, FunctionCall, Branch, BranchConditional, Return, ReturnValue, Unreachable}
use Rattle.general_laws.specs.Lists.{choose, choose_no, choose_yes, find, keys, tabulate}
use Rattle.lifting.specs.Ast.{ControlInstKind, DataInstKind, Decl, Func, Inst, SelectionKind, Value, bool_cond, branch, call, const, data_inst_output, eq_value, exit_invocation, ext, inst, return, select_branch, spv_inst, unreachable}
use Rattle.lifting.specs.Parts.{callee_ids, ids, op_of}
use Rattle.lifting.specs.Points.{BlockLifting, CfgPoint, Table, Terminator, block_at, block_or, edge_of, eq_point, points, region_entry}
use Rattle.lifting.specs.Absorb.{count_in}
use Rattle.lifting.specs.Ids.{id_of, label, label_of, names, new_values, value}
use Rattle.lifting.specs.Instructions.{Instruction, body_insts, if_used, op_inst, op_opcode, pairs, phi_inst, phi_insts, result_id, term_imms, term_inst, term_opcode}
use Rattle.lifting.specs.Machine.{Alike, Out, go, halt}
use Rattle.lifting.specs.World.{End, Executed, Mem, World, exited, pick, put, puts, reading, reads}
use Rattle.lifting.specs.RegionRun.{at_first, callee_id, executed_op, set_result}
use Rattle.lifting.specs.BlockRun.{BlockState, block_log, block_step, come_in, do_insts, execute_inst, go_nth, go_to, head_id, is_kind, labels_among, operands_in, other_way, pair_of, pairs_for, results, run_of, selection_of, set_id, tail_ids, way_by, way_out}
use Rattle.general_laws.specs.Members.{All, In, all_in, here, in_get_or, in_map, in_right, map_in, tabulate_all, there}
use Rattle.general_laws.specs.Tests.{find_in}
use Rattle.lifting_runs.specs.Accepted.{Enough, FreeInst, FreeKind, FreeOp, Numbered, WayFit}
use Rattle.lifting_runs.specs.Simulation.{Macro, MeetOut, alike_of, at_once, out_go, out_halt}
use Rattle.lifting_runs.specs.PointRun.{PointState, do_ops, jump, leave_point, point_log, point_start, point_step, point_way}
use Rattle.lifting_runs.specs.Structure.{meet_reading, pick_lt}
use Rattle.lifting_runs.specs.AbsorbCount.{in_count}
use Rattle.lifting_runs.specs.Ids.{EnvRel, KnownIds, id_label, id_positive, label_inj, set_same, puts_same, reads_same, split_labels}
use Rattle.lifting_runs.specs.Listing.{AllFree, Free, FreeOps, blocks_for, body_phis, body_run, free_kind}

get_or_map_in : {A B : Type 0} (f : A → B) (l : List A) (i : ℕ) (d : A) (c : B) → i < length l → get_or (map f l) i c ≡ f (get_or l i d)
get_or_map_in f [] i d c h = absurd (omega arith)
get_or_map_in f (x ∷ l) zero d c h = refl
get_or_map_in f (x ∷ l) (suc i) d c h = get_or_map_in f l i d c (omega arith)

in_points : {x : CfgPoint × BlockLifting} {K : Table} → In x K → In x.0 (points K)
in_points here = here
in_points (there h) = there (in_points h)

pub all_find : (P : BlockLifting → Type 0) (q : CfgPoint) (d : BlockLifting) (K : Table) → All (λ (x : CfgPoint × BlockLifting). P x.1) K → find eq_point q K ≡ some d → P d
all_find P q d K h e = all_in _ K h (q, d) (find_in eq_point q K e)

module _ (F : Func) (first : ℕ) (T K : Table) where
  abbrev pub KnownResult : ℕ → ℕ → Type 0
  KnownResult zero i = Unit {0}
  KnownResult (suc t) i = KnownIds F first T K (data_inst_output i)

  abbrev pub OpOk : ℕ → Type 0
  OpOk i = FreeOp (op_of F i).kind × All (KnownIds F first T K) (op_of F i).operands × KnownResult (op_of F i).type i

  -- what the refusals leave of one kept block
  pub record BlockOk (d : BlockLifting) : Type 0 where
    pub ops_ok : All OpOk d.ops
    pub kind_free : FreeKind d.term.kind
    pub ins_known : All (KnownIds F first T K) d.term.ins
    pub keys_known : All (KnownIds F first T K) d.keys
    pub targets_kept : (p : CfgPoint) → In p d.term.targets → (e : BlockLifting) × (find eq_point p K ≡ some e)
    pub edges_known : (p : CfgPoint) → In p d.term.targets → All (KnownIds F first T K) (edge_of K d.term p)
    pub edges_fit_law : (p : CfgPoint) (e : BlockLifting) → In p d.term.targets → find eq_point p K ≡ some e → length e.keys ≡ length (edge_of K d.term p)
    pub way_fit : WayFit d.term.kind (length d.term.targets)

  pub record Sound : Type 0 where
    pub numbered : Numbered F first
    pub all_ok : All (λ (x : CfgPoint × BlockLifting). BlockOk x.1) K

  pub point_named : (q : CfgPoint) → In q (points K) → In (label q) (names F T K)
  unfolding names
  point_named q h = there (in_right (map value (new_values F T K)) (in_map label h))

  label_named : (q : CfgPoint) (d : BlockLifting) → find eq_point q K ≡ some d → In (label q) (names F T K)
  label_named q d e = point_named q (in_points (find_in eq_point q K e))

  pub target_named : (d : BlockLifting) → BlockOk d → (p : CfgPoint) → In p d.term.targets → In (label p) (names F T K)
  target_named d ok p i = let w = ok.targets_kept p i in label_named p w.0 w.1

  module _ (ok : Sound) where
    block_ok : (q : CfgPoint) (d : BlockLifting) → find eq_point q K ≡ some d → BlockOk d
    block_ok q d e = all_find (λ (b : BlockLifting). BlockOk b) q d K ok.all_ok e

    -- the phi pair of a block
    pub pair_of_law : (p q : CfgPoint) (j : ℕ) (d : BlockLifting) → In (label p) (names F T K) → 1 ≤ count_in q d.term.targets → (L : Table) → find eq_point p L ≡ some d
        → pair_of (label_of F first T K p) (pairs F first T K L q j) ≡ id_of F first T K (get_or (edge_of K d.term q) j (const 0))
    unfolding pairs
    pair_of_law p q j d i u [] e = absurd (let z : ◌≡◌ {A = ℕ} 0 1 = cc in omega arith)
    pair_of_law p q j d i u (x ∷ L) e = by_case (eq_point p x.0) (count_in q x.1.term.targets) refl (pair_of_law p q j d i u L) e
      where
        v : ℕ
        v = id_of F first T K (get_or (edge_of K x.1.term q) j (const 0))

        want : ℕ
        want = id_of F first T K (get_or (edge_of K d.term q) j (const 0))

        by_case : (c : Dec (p ≡ x.0)) (n : ℕ) → count_in q x.1.term.targets ≡ n
            → (find eq_point p L ≡ some d → pair_of (label_of F first T K p) (pairs F first T K L q j) ≡ want)
            → choose c (some x.1) (find eq_point p L) ≡ some d
            → pair_of (label_of F first T K p) (if_used n (v ∷ label_of F first T K x.0 ∷ []) ++ pairs F first T K L q j) ≡ want
        by_case (yes a) zero n ih e = absurd (omega (arith, ap (λ (b : BlockLifting). count_in q b.term.targets) (some_inj e)))
          where
            some_inj : some x.1 ≡ some d → x.1 ≡ d
            some_inj h = cc
        by_case (yes a) (suc k) n ih e =
            choose_yes (ℕ_discrete (label_of F first T K p) (label_of F first T K x.0)) v _ (ap (label_of F first T K) a)
            ∙ ap (λ (b : BlockLifting). id_of F first T K (get_or (edge_of K b.term q) j (const 0))) (some_inj e)
          where
            some_inj : some x.1 ≡ some d → x.1 ≡ d
            some_inj h = cc
        by_case (no a) zero n ih e = ih e
        by_case (no a) (suc k) n ih e =
            choose_no (ℕ_discrete (label_of F first T K p) (label_of F first T K x.0)) v _ (λ h. a (label_inj F first T K ok.numbered p x.0 i h)) ∙ ih e

    pairs_for_law : (l : ℕ) (q : CfgPoint) (g : ℕ → Value) → ((j : ℕ) → pair_of l (pairs F first T K K q j) ≡ id_of F first T K (g j)) → (ks : List Value) (ds : List Decl) (j : ℕ)
        → pairs_for l (phi_insts F first T K q ks ds j) ≡ map (id_of F first T K) (tabulate g j (length ks))
    unfolding phi_insts phi_inst
    pairs_for_law l q g h [] ds j = refl
    pairs_for_law l q g h (k ∷ ks) ds j =
        ap (λ (x : ℕ). x ∷ pairs_for l (phi_insts F first T K q ks ds (suc j))) (h j) ∙ ap (λ (r : List ℕ). id_of F first T K (g j) ∷ r) (pairs_for_law l q g h ks ds (suc j))

    pub results_phis : (q : CfgPoint) (ks : List Value) (ds : List Decl) (j : ℕ) → results (phi_insts F first T K q ks ds j) ≡ map (id_of F first T K) ks
    unfolding phi_insts
    results_phis q [] ds j = refl
    results_phis q (k ∷ ks) ds j = ap (λ (r : List ℕ). id_of F first T K k ∷ r) (results_phis q ks ds (suc j))

    -- the values along an edge, by id
    edge_pairs : (p q : CfgPoint) (d e : BlockLifting) → find eq_point p K ≡ some d → find eq_point q K ≡ some e → In q d.term.targets
        → pairs_for (label_of F first T K p) (phi_insts F first T K q e.keys e.decls 0) ≡ map (id_of F first T K) (edge_of K d.term q)
    edge_pairs p q d e fp fq i =
        let E = edge_of K d.term q in
        pairs_for_law (label_of F first T K p) q (λ j. get_or E j (const 0)) (λ j. pair_of_law p q j d (label_named p d fp) (in_count q d.term.targets i) K fp) e.keys e.decls 0
        ∙ ap (λ (n : ℕ). map (id_of F first T K) (tabulate (λ j. get_or E j (const 0)) 0 n)) ((block_ok p d fp).edges_fit_law q e i fq)
        ∙ ap (map (id_of F first T K)) (tabulate_all E (const 0))

    -- a label leads to its block
    find_label : (q : CfgPoint) → In (label q) (names F T K) → (L : Table) (d : BlockLifting) → find eq_point q L ≡ some d
        → find ℕ_discrete (label_of F first T K q) (blocks_for F first T K L) ≡ some (body_insts F first T K q d)
    find_label q i [] d e = absurd (let z : ◌≡◌ {A = ℕ} 0 1 = cc in omega arith)
    find_label q i (x ∷ L) d e = by_case (eq_point q x.0) (find_label q i L d) e
      where
        here_is : List Instruction
        here_is = body_insts F first T K x.0 x.1

        by_case : (c : Dec (q ≡ x.0)) → (find eq_point q L ≡ some d → find ℕ_discrete (label_of F first T K q) (blocks_for F first T K L) ≡ some (body_insts F first T K q d))
            → choose c (some x.1) (find eq_point q L) ≡ some d
            → choose (ℕ_discrete (label_of F first T K q) (label_of F first T K x.0)) (some here_is) (find ℕ_discrete (label_of F first T K q) (blocks_for F first T K L)) ≡ some (body_insts F first T K q d)
        by_case (yes a) ih e =
            choose_yes (ℕ_discrete (label_of F first T K q) (label_of F first T K x.0)) (some here_is) _ (ap (label_of F first T K) a)
            ∙ ap (λ (p : CfgPoint). some (body_insts F first T K p x.1)) (sym a) ∙ ap (λ (b : BlockLifting). some (body_insts F first T K q b)) (some_inj e)
          where
            some_inj : some x.1 ≡ some d → x.1 ≡ d
            some_inj h = cc
        by_case (no a) ih e = choose_no (ℕ_discrete (label_of F first T K q) (label_of F first T K x.0)) (some here_is) _ (λ h. a (label_inj F first T K ok.numbered q x.0 i h)) ∙ ih e

    abbrev bs : List (ℕ × List Instruction)
    bs = blocks_for F first T K K

    labels_points : (L : Table) → keys (blocks_for F first T K L) ≡ map (label_of F first T K) (points L)
    labels_points [] = refl
    labels_points (x ∷ L) = ap (λ (l : List ℕ). label_of F first T K x.0 ∷ l) (labels_points L)

    is_label : (p : CfgPoint) (e : BlockLifting) → find eq_point p K ≡ some e → In (label_of F first T K p) (keys bs)
    is_label p e f = subst (λ (l : List ℕ). In (label_of F first T K p) l) (sym (labels_points K)) (in_map (label_of F first T K) (in_points (find_in eq_point p K f)))

    no_label : (v : Value) → KnownIds F first T K v → ¬ (In (id_of F first T K v) (keys bs))
    no_label v k h =
        let w = map_in (label_of F first T K) (points K) (subst (λ (l : List ℕ). In (id_of F first T K v) l) (labels_points K) h) in
        id_label F first T K ok.numbered v w.0 k (point_named w.0 w.1) w.2

    all_others : (vs : List Value) → All (KnownIds F first T K) vs → All (λ (x : ℕ). ¬ (In x (keys bs))) (map (id_of F first T K) vs)
    all_others [] h = tt
    all_others (v ∷ vs) h = (no_label v h.0, all_others vs h.1)

    all_labels_law : (ps : List CfgPoint) → ((p : CfgPoint) → In p ps → (e : BlockLifting) × (find eq_point p K ≡ some e)) → All (λ (x : ℕ). In x (keys bs)) (map (label_of F first T K) ps)
    all_labels_law [] h = tt
    all_labels_law (p ∷ ps) h = let w = h p here in (is_label p w.0 w.1, all_labels_law ps (λ q i. h q (there i)))

    free_ops : (is : List ℕ) → All OpOk is → FreeOps F first T K is
    free_ops [] h = tt
    free_ops (i ∷ is) h = (h.0.0, free_ops is h.1)

    pub free_of : (d : BlockLifting) → BlockOk d → Free F first T K d
    free_of d h = (free_ops d.ops h.ops_ok, h.kind_free)

    -- one op
    abbrev called : DataInstKind → Bool
    called k = eqb (op_opcode k) (opcode_of FunctionCall) || eqb (op_opcode k) (opcode_of ExtInst)

    call_ids : (k : DataInstKind) (l : List ℕ) → FreeOp k → (cond (called k) (tail_ids (callee_ids k ++ l)) (callee_ids k ++ l) ≡ l)
        × (cond (called k) (head_id (callee_ids k ++ l)) none ≡ callee_id k)
    call_ids (inst i) l h = rw (free_kind i.opcode FunctionCall h) (rw (free_kind i.opcode ExtInst h) (refl, refl))
    call_ids (call f) l h = (refl, refl)
    call_ids (ext s n) l h = (refl, refl)

    module _ {Val : Type 0} (W : World Val) where
      abbrev Rel : (Value → Option Val) → (ℕ → Option Val) → Type 0
      Rel = EnvRel F first T K ok.numbered

      abbrev rest : List ℕ → Terminator → List Instruction
      rest is t = map (op_inst F first T K) is ++ (term_inst F first T K t ∷ [])

      data Wrote : PointState Val → BlockState Val → Type 0 where
        wrote : (q : CfgPoint) (d : BlockLifting) (is : List ℕ) (e : Value → Option Val) (f : ℕ → Option Val) (l : List (Executed Val))
            → find eq_point q K ≡ some d → All OpOk is → Rel e f
            → Wrote (record { at = q; ops = is; mem = record { env = e; log = l } }) (record { at = label_of F first T K q; todo = rest is d.term; mem = record { env = f; log = l } })

      result_same : (t i n : ℕ) (e : Value → Option Val) (f : ℕ → Option Val) → KnownResult t i → Rel e f → Rel (set_result W t e i n) (set_id W (result_id F first T K t i) f n)
      result_same zero i n e f k r = r
      result_same (suc t) i n e f k r = by_id (id_of F first T K (data_inst_output i)) refl
        where
          by_id : (x : ℕ) → id_of F first T K (data_inst_output i) ≡ x → Rel (put eq_value e (data_inst_output i) (W.result n)) (set_id W x f n)
          by_id zero h = absurd (omega (arith, h, id_positive F first T K ok.numbered (data_inst_output i) k))
          by_id (suc x) h = subst (λ (y : ℕ). Rel (put eq_value e (data_inst_output i) (W.result n)) (put ℕ_discrete f y (W.result n))) h (set_same F first T K ok.numbered e f r (data_inst_output i) k (W.result n))

      -- an op is not the last instruction
      op_step : (i : Instruction) (l : List Instruction) (t : Instruction) (p : ℕ) (m : Mem Val ℕ)
          → do_insts W bs (i ∷ (l ++ (t ∷ []))) p m ≡ reading (reads m.env (operands_in i)) (λ vs. go (record { at = p; todo = l ++ (t ∷ []); mem = execute_inst W i vs m }))
      op_step i [] t p m = refl
      op_step i (j ∷ l) t p m = refl

      run_op : (q : CfgPoint) (d : BlockLifting) (i : ℕ) (is : List ℕ) (e : Value → Option Val) (f : ℕ → Option Val) (l : List (Executed Val))
          → find eq_point q K ≡ some d → OpOk i → All OpOk is → Rel e f
          → MeetOut Wrote (do_ops F W (block_at K) (i ∷ is) q (record { env = e; log = l })) (do_insts W bs (rest (i ∷ is) d.term) (label_of F first T K q) (record { env = f; log = l }))
      unfolding op_inst
      run_op q d i is e f l fq oi ois r =
          let o = op_of F i in
          let x = op_inst F first T K i in
          let c = call_ids o.kind (map (id_of F first T K) o.operands) oi.0 in
          let right : do_insts W bs (rest (i ∷ is) d.term) (label_of F first T K q) (record { env = f; log = l })
          ≡ reading (reads e o.operands) (λ vs. go (record { at = label_of F first T K q; todo = rest is d.term; mem = record { env = set_id W x.result f (length l); log = l ++ (executed_op o vs ∷ []) } }))
          = op_step x (map (op_inst F first T K) is) (term_inst F first T K d.term) (label_of F first T K q) (record { env = f; log = l })
          ∙ ap (λ (a : List ℕ). reading (reads f a) (λ vs. go (record { at = label_of F first T K q; todo = rest is d.term; mem = execute_inst W x vs (record { env = f; log = l }) }))) c.0
          ∙ ap (λ (a : Option (List Val)). reading a (λ vs. go (record { at = label_of F first T K q; todo = rest is d.term; mem = execute_inst W x vs (record { env = f; log = l }) })))
          (sym (reads_same F first T K ok.numbered e f r o.operands oi.1))
          ∙ ap (λ (a : Option ℕ). reading (reads e o.operands) (λ vs. go (record {
            at = label_of F first T K q;
            todo = rest is d.term;
            mem = record {
              env = set_id W x.result f (length l);
              log = l ++ (record { opcode = x.opcode; attrs = x.attrs; type = x.type; imms = x.imms; callee = a; vals = vs } ∷ []);
            };
          }))) c.1 in
          subst (λ (y : Out (BlockState Val) (End Val)). MeetOut Wrote (do_ops F W (block_at K) (i ∷ is) q (record { env = e; log = l })) y) (sym right)
          (meet_reading Wrote (reads e o.operands) _ _ (λ vs.
          out_go (wrote q d is (set_result W o.type e i (length l)) (set_id W x.result f (length l)) (l ++ (executed_op o vs ∷ [])) fq ois (result_same o.type i (length l) e f oi.2 r))))

      -- along an edge
      abbrev go_parts : ℕ → ℕ → List Instruction → List Instruction → Mem Val ℕ → Out (BlockState Val) (End Val)
      go_parts p k P R m = reading (reads m.env (pairs_for p P)) (λ ws. go (record { at = k; todo = R; mem = record { env = puts ℕ_discrete m.env (results P) ws; log = m.log } }))

      go_to_law : (p q : CfgPoint) (d b : BlockLifting) (e : Value → Option Val) (f : ℕ → Option Val) (l : List (Executed Val))
          → find eq_point p K ≡ some d → find eq_point q K ≡ some b → In q d.term.targets → Rel e f
          → MeetOut Wrote (jump F W (block_at K) d.term q (record { env = e; log = l })) (go_to W bs (label_of F first T K p) (label_of F first T K q) (record { env = f; log = l }))
      go_to_law p q d b e f l fp fq i r =
          let bp = block_ok p d fp in
          let bq = block_ok q b fq in
          let m : Mem Val ℕ = record { env = f; log = l } in
          let lp = label_of F first T K p in
          let lq = label_of F first T K q in
          let P = phi_insts F first T K q b.keys b.decls 0 in
          let E = edge_of K d.term q in
          let right : go_to W bs lp lq m ≡ reading (reads e E) (λ ws. go (record { at = lq; todo = rest b.ops b.term; mem = record { env = puts ℕ_discrete f (map (id_of F first T K) b.keys) ws; log = l } }))
          = ap (λ (o : Option (List Instruction)). come_in W bs lp lq o m) (find_label q (label_named q b fq) K b fq)
          ∙ ap (λ (x : List Instruction). go_parts lp lq x (run_of (body_insts F first T K q b)) m) (body_phis F first T K q b (free_of b bq))
          ∙ ap (λ (x : List Instruction). go_parts lp lq P x m) (body_run F first T K q b (free_of b bq))
          ∙ ap (λ (x : List ℕ). reading (reads f x) (λ ws. go (record { at = lq; todo = rest b.ops b.term; mem = record { env = puts ℕ_discrete f (results P) ws; log = l } })))
          (edge_pairs p q d b fp fq i)
          ∙ ap (λ (x : Option (List Val)). reading x (λ ws. go (record { at = lq; todo = rest b.ops b.term; mem = record { env = puts ℕ_discrete f (results P) ws; log = l } })))
          (sym (reads_same F first T K ok.numbered e f r E (bp.edges_known q i)))
          ∙ ap (λ (x : List ℕ). reading (reads e E) (λ ws. go (record { at = lq; todo = rest b.ops b.term; mem = record { env = puts ℕ_discrete f x ws; log = l } })))
          (results_phis q b.keys b.decls 0) in
          let left : jump F W (block_at K) d.term q (record { env = e; log = l })
          ≡ reading (reads e E) (λ ws. go (record { at = q; ops = b.ops; mem = record { env = puts eq_value e b.keys ws; log = l } }))
          = ap (λ (o : Option BlockLifting). reading (reads e E) (λ ws. go (record { at = q; ops = (block_or o).ops; mem = record { env = puts eq_value e (block_or o).keys ws; log = l } }))) fq in
          subst (λ (x : Out (PointState Val) (End Val)). MeetOut Wrote x (go_to W bs lp lq m)) (sym left)
          (subst (λ (y : Out (BlockState Val) (End Val)). MeetOut Wrote (reading (reads e E) (λ ws. go (record { at = q; ops = b.ops; mem = record { env = puts eq_value e b.keys ws; log = l } }))) y) (sym right)
          (meet_reading Wrote (reads e E) _ _ (λ ws.
          out_go (wrote q b b.ops _ _ l fq bq.ops_ok (puts_same F first T K ok.numbered b.keys ws e f r bq.keys_known)))))

      -- along the i-th edge
      go_nth_law : (p : CfgPoint) (d : BlockLifting) (i : ℕ) (e : Value → Option Val) (f : ℕ → Option Val) (l : List (Executed Val))
          → find eq_point p K ≡ some d → i < length d.term.targets → Rel e f
          → MeetOut Wrote (jump F W (block_at K) d.term (get_or d.term.targets i (region_entry 0)) (record { env = e; log = l }))
          (go_to W bs (label_of F first T K p) (get_or (map (label_of F first T K) d.term.targets) i 0) (record { env = f; log = l }))
      go_nth_law p d i e f l fp h r =
          let q = get_or d.term.targets i (region_entry 0) in
          let iq = in_get_or d.term.targets i (region_entry 0) h in
          let w = (block_ok p d fp).targets_kept q iq in
          subst (λ (k : ℕ). MeetOut Wrote (jump F W (block_at K) d.term q (record { env = e; log = l })) (go_to W bs (label_of F first T K p) k (record { env = f; log = l })))
          (sym (get_or_map_in (label_of F first T K) d.term.targets i (region_entry 0) 0 h))
          (go_to_law p q d w.0 e f l fp w.1 iq r)

      -- a way out, as it is emitted
      abbrev way_inst : ControlInstKind → List Value → ℕ → List ℕ → Instruction
      way_inst k is a xs = record { opcode = term_opcode k is; attrs = a; type = 0; result = 0; imms = term_imms k; ids = xs }

      nth_in : (l : ℕ) (ts : List ℕ) (n : ℕ) (m : Mem Val ℕ) → n < length ts → go_nth W bs l ts n m ≡ go_to W bs l (get_or ts n 0) m
      nth_in l [] n m h = absurd (omega arith)
      nth_in l (t ∷ ts) zero m h = refl
      nth_in l (t ∷ ts) (suc n) m h = nth_in l ts n m (omega arith)

      branch_way : (l : ℕ) (i : Instruction) (ts : List ℕ) (vs : List Val) (m : Mem Val ℕ) → is_kind Branch i ≡ true → 0 < length ts → other_way W bs l i ts vs m ≡ go_to W bs l (get_or ts 0 0) m
      branch_way l i [] vs m e h = absurd (omega arith)
      branch_way l i (t ∷ ts) vs m e h = rw e

      select_way : (l : ℕ) (i : Instruction) (k : SelectionKind) (ts : List ℕ) (vs : List Val) (m : Mem Val ℕ) → is_kind Branch i ≡ false → selection_of i ≡ k → Enough k (length ts)
          → other_way W bs l i ts vs m ≡ go_to W bs l (get_or ts (pick W k vs (length ts)) 0) m
      select_way l i k [] vs m e s f = absurd (omega (arith, pick_lt W k vs 0 f))
      select_way l i k (t ∷ ts) vs m e s f = rw (e, s) (nth_in l (t ∷ ts) (pick W k vs (length (t ∷ ts))) m (pick_lt W k vs (length (t ∷ ts)) f))

      exit_way : (l : ℕ) (i : Instruction) (ts : List CfgPoint) (vs : List Val) (m : Mem Val ℕ) → length ts ≡ 0
          → other_way W bs l i (map (label_of F first T K) ts) vs m ≡ halt (exited (record { opcode = i.opcode; imms = i.imms }) vs)
      exit_way l i [] vs m h = refl
      exit_way l i (t ∷ ts) vs m h = absurd (omega arith)

      -- by an opcode of the text
      text_way : (i : Inst) (a : ℕ) (xs : List ℕ) (l : ℕ) (ts : List ℕ) (vs : List Val) (m : Mem Val ℕ) → FreeInst i
          → way_by W bs l (way_inst (exit_invocation i) [] a xs) ts vs m ≡ other_way W bs l (way_inst (exit_invocation i) [] a xs) ts vs m
      text_way i a xs l ts vs m f = rw (free_kind i.opcode Return f) (rw (free_kind i.opcode ReturnValue f) (rw (free_kind i.opcode Unreachable f) refl))

      text_selects : (i : Inst) (is : List Value) (a : ℕ) (xs : List ℕ) → FreeInst i → selection_of (way_inst (select_branch (spv_inst i)) is a xs) ≡ spv_inst i
      text_selects i is a xs f = rw (free_kind i.opcode BranchConditional f)

      selected : (p : CfgPoint) (d : BlockLifting) (vs : List Val) (e : Value → Option Val) (f : ℕ → Option Val) (l : List (Executed Val))
          → find eq_point p K ≡ some d → Rel e f → (i : Instruction) (k : SelectionKind) → is_kind Branch i ≡ false → selection_of i ≡ k → Enough k (length d.term.targets)
          → ((ts : List ℕ) (m : Mem Val ℕ) → way_by W bs (label_of F first T K p) i ts vs m ≡ other_way W bs (label_of F first T K p) i ts vs m)
          → MeetOut Wrote (point_way F W (block_at K) (select_branch k) d.term vs (record { env = e; log = l }))
          (way_by W bs (label_of F first T K p) i (map (label_of F first T K) d.term.targets) vs (record { env = f; log = l }))
      selected p d vs e f l fp r i k b s en by =
          let n = length d.term.targets in
          let ts = map (label_of F first T K) d.term.targets in
          let m : Mem Val ℕ = record { env = f; log = l } in
          let lm = length-map d.term.targets (label_of F first T K) in
          let right : way_by W bs (label_of F first T K p) i ts vs m ≡ go_to W bs (label_of F first T K p) (get_or ts (pick W k vs n) 0) m
          = by ts m ∙ select_way (label_of F first T K p) i k ts vs m b s (subst (Enough k) (sym lm) en)
          ∙ ap (λ (x : ℕ). go_to W bs (label_of F first T K p) (get_or ts (pick W k vs x) 0) m) lm in
          subst (λ (y : Out (BlockState Val) (End Val)). MeetOut Wrote (point_way F W (block_at K) (select_branch k) d.term vs (record { env = e; log = l })) y) (sym right)
          (go_nth_law p d (pick W k vs n) e f l fp (pick_lt W k vs n en) r)

      way_by_law : (p : CfgPoint) (d : BlockLifting) (vs : List Val) (e : Value → Option Val) (f : ℕ → Option Val) (l : List (Executed Val))
          → find eq_point p K ≡ some d → Rel e f → (k : ControlInstKind) (is : List Value) → (a : ℕ) (xs : List ℕ) → FreeKind k → WayFit k (length d.term.targets)
          → MeetOut Wrote (point_way F W (block_at K) k d.term vs (record { env = e; log = l }))
          (way_by W bs (label_of F first T K p) (way_inst k is a xs) (map (label_of F first T K) d.term.targets) vs (record { env = f; log = l }))
      way_by_law p d vs e f l fp r unreachable is a xs fk wf = out_halt
      way_by_law p d vs e f l fp r return [] a xs fk wf = out_halt
      way_by_law p d vs e f l fp r return (v ∷ is) a xs fk wf = out_halt
      way_by_law p d vs e f l fp r branch is a xs fk wf =
          let ts = map (label_of F first T K) d.term.targets in
          let right = branch_way (label_of F first T K p) (way_inst branch is a xs) ts vs (record { env = f; log = l }) refl (omega (arith, length-map d.term.targets (label_of F first T K))) in
          subst (λ (y : Out (BlockState Val) (End Val)). MeetOut Wrote (point_way F W (block_at K) branch d.term vs (record { env = e; log = l })) y) (sym right) (go_nth_law p d 0 e f l fp (omega arith) r)
      way_by_law p d vs e f l fp r (select_branch bool_cond) is a xs fk wf = selected p d vs e f l fp r (way_inst (select_branch bool_cond) is a xs) bool_cond refl refl wf (λ ts m. refl)
      way_by_law p d vs e f l fp r (select_branch (spv_inst i)) is a xs fk wf =
          selected p d vs e f l fp r (way_inst (select_branch (spv_inst i)) is a xs) (spv_inst i) (free_kind i.opcode Branch fk) (text_selects i is a xs fk) wf
          (λ ts m. text_way i a xs (label_of F first T K p) ts vs m fk)
      way_by_law p d vs e f l fp r (exit_invocation i) is a xs fk wf =
          let ts = map (label_of F first T K) d.term.targets in
          let m : Mem Val ℕ = record { env = f; log = l } in
          let lp = label_of F first T K p in
          let right : way_by W bs lp (way_inst (exit_invocation i) is a xs) ts vs m ≡ halt (exited i vs)
          = text_way i a xs lp ts vs m fk ∙ exit_way lp (way_inst (exit_invocation i) is a xs) d.term.targets vs m wf in
          subst (λ (y : Out (BlockState Val) (End Val)). MeetOut Wrote (halt (exited i vs)) y) (sym right) out_halt

      run_way : (p : CfgPoint) (d : BlockLifting) (e : Value → Option Val) (f : ℕ → Option Val) (l : List (Executed Val)) → find eq_point p K ≡ some d → Rel e f
          → MeetOut Wrote (leave_point F W (block_at K) (block_at K p).term (record { env = e; log = l })) (way_out W bs (label_of F first T K p) (term_inst F first T K d.term) (record { env = f; log = l }))
      unfolding term_inst
      run_way p d e f l fp r =
          let bp = block_ok p d fp in
          let t = d.term in
          let m : Mem Val ℕ = record { env = f; log = l } in
          let lp = label_of F first T K p in
          let ts = map (label_of F first T K) t.targets in
          let sp = split_labels (keys bs) (map (id_of F first T K) t.ins) ts (all_others t.ins bp.ins_known) (all_labels_law t.targets bp.targets_kept) in
          let right : way_out W bs lp (term_inst F first T K t) m ≡ reading (reads e t.ins) (λ vs. way_by W bs lp (term_inst F first T K t) ts vs m)
          = ap (λ (x : List ℕ). reading (reads f x) (λ vs. way_by W bs lp (term_inst F first T K t)
          (labels_among (keys bs) (map (id_of F first T K) t.ins ++ ts)) vs m)) sp.1
          ∙ ap (λ (x : List ℕ). reading (reads f (map (id_of F first T K) t.ins)) (λ vs. way_by W bs lp (term_inst F first T K t) x vs m)) sp.0
          ∙ ap (λ (x : Option (List Val)). reading x (λ vs. way_by W bs lp (term_inst F first T K t) ts vs m))
          (sym (reads_same F first T K ok.numbered e f r t.ins bp.ins_known)) in
          let left : leave_point F W (block_at K) (block_at K p).term (record { env = e; log = l }) ≡ leave_point F W (block_at K) t (record { env = e; log = l })
          = ap (λ (o : Option BlockLifting). leave_point F W (block_at K) (block_or o).term (record { env = e; log = l })) fp in
          subst (λ (x : Out (PointState Val) (End Val)). MeetOut Wrote x (way_out W bs lp (term_inst F first T K t) m)) (sym left)
          (subst (λ (y : Out (BlockState Val) (End Val)). MeetOut Wrote (leave_point F W (block_at K) t (record { env = e; log = l })) y) (sym right)
          (meet_reading Wrote (reads e t.ins) _ _ (λ vs. way_by_law p d vs e f l fp r t.kind t.ins t.attrs (term_inst F first T K t).ids bp.kind_free bp.way_fit)))

      wrote_log : {s : PointState Val} {u : BlockState Val} → Wrote s u → point_log F W (block_at K) s ≡ block_log W bs u
      wrote_log (wrote q d is e f l fq ois r) = refl

      abbrev Big : PointState Val → BlockState Val → Type 0
      Big = Macro (point_step F W (block_at K)) (point_log F W (block_at K)) (block_step W bs) (block_log W bs) Wrote

      run_at_law : (q : CfgPoint) (d : BlockLifting) (is : List ℕ) (e : Value → Option Val) (f : ℕ → Option Val) (l : List (Executed Val)) → find eq_point q K ≡ some d → All OpOk is → Rel e f
          → Big (record { at = q; ops = is; mem = record { env = e; log = l } }) (record { at = label_of F first T K q; todo = rest is d.term; mem = record { env = f; log = l } })
      run_at_law q d [] e f l fq ois r = at_once _ _ _ _ _ _ _ (run_way q d e f l fq r)
      run_at_law q d (i ∷ is) e f l fq ois r = at_once _ _ _ _ _ _ _ (run_op q d i is e f l fq ois.0 ois.1 r)

      wrote_macro : {s : PointState Val} {u : BlockState Val} → Wrote s u → Big s u
      wrote_macro (wrote q d is e f l fq ois r) = run_at_law q d is e f l fq ois r

      pub written_alike : (d : BlockLifting) → find eq_point (region_entry 0) K ≡ some d → (f : ℕ → Option Val) → EnvRel F first T K ok.numbered (at_first F W) f
          → Alike (point_step F W (block_at K)) (point_log F W (block_at K)) (block_step W (blocks_for F first T K K)) (block_log W (blocks_for F first T K K)) (point_start F W (block_at K))
          (record { at = label_of F first T K (region_entry 0); todo = map (op_inst F first T K) d.ops ++ (term_inst F first T K d.term ∷ []); mem = record { env = f; log = [] } })
      written_alike d fd f r =
          subst (λ (is : List ℕ). Alike (point_step F W (block_at K)) (point_log F W (block_at K)) (block_step W bs) (block_log W bs) (record { at = region_entry 0; ops = is; mem = record { env = at_first F W; log = [] } })
          (record { at = label_of F first T K (region_entry 0); todo = rest d.ops d.term; mem = record { env = f; log = [] } }))
          (sym (ap (λ (o : Option BlockLifting). (block_or o).ops) fd))
          (alike_of _ _ _ _ Wrote (record { same_log = wrote_log; macro = wrote_macro }) (wrote (region_entry 0) d d.ops (at_first F W) f [] fd (block_ok (region_entry 0) d fd).ops_ok r))

    pub all_free : (L : Table) → All (λ (x : CfgPoint × BlockLifting). BlockOk x.1) L → AllFree F first T K L
    all_free [] h = tt
    all_free (x ∷ L) h = (free_of x.1 h.0, all_free L h.1)
