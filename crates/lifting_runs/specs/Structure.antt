-- The run of the regions is like the run of the points, for every table that holds the right blocks.
use Rattle.std.specs.Prelude.{◌≡◌, refl, ◌≢◌, Bool, true, false, cond, List, [], ◌∷◌, ◌++◌, map, ℕ, zero, suc, ◌+◌, ◌≤◌, ◌<◌, get_or, length, eqb}
use Rattle.std.proofs.Common.{sym, ap, ◌∙◌, subst, arith}
use Rattle.std.proofs.lemmas.Bool.{false≢true}
use Rattle.std.proofs.Math.Option.{Option, none, some}
use Rattle.std.proofs.Math.Decide.{ℕ_discrete, dec_lt}
use Rattle.std.proofs.Math.ListN.{get_or-map, get_or-eq_default}
use Rattle.std.proofs.lemmas.List.{length-map}
use Rattle.general_laws.specs.Lists.{choose, choose_no, choose_yes, find, keys, tabulate}
use Rattle.lifting.specs.Ast.{Const, ControlInst, ControlInstKind, Decl, Func, Node, Op, SelectionKind, Value, block, bool_cond, branch, const, data_inst_output, eq_value, exit, exit_invocation, loop, node_output, region_input, return, select, select_branch, spv_inst, unreachable}
use Rattle.lifting.specs.Parts.{ctrl_of, ins_keys, node_of, op_of, out_keys, region_of, vals_or}
use Rattle.lifting.specs.Points.{BlockLifting, CfgPoint, Terminator, eq_point, node_entry, node_exit, plain, region_entry, region_exit, straight}
use Rattle.lifting.specs.Walk.{Place, always, child_term, entry_block, in_block, in_node, loop_term, next_point, out_block, root_term, some_vals, top}
use Rattle.lifting.specs.Machine.{Alike, Out, go}
use Rattle.lifting.specs.World.{End, Mem, World, and_some, pick, put, puts, reading, reads, truths}
use Rattle.lifting.specs.RegionRun.{RegionState, Task, again, at_first, close, do_leave, do_node, enter, execute, leave, leave_by, node, nodes_then, op, region_log, region_start, region_step, set_result, sets}
use Rattle.general_laws.specs.Members.{In, in_get_or}
use Rattle.lifting_runs.specs.Accepted.{Enough, WayFit}
use Rattle.lifting_runs.specs.Simulation.{Macro, MeetOut, Simulation, alike_of, at_once, out_go, out_halt, right_first}
use Rattle.lifting_runs.specs.PointRun.{PointState, edge, jump, leave_point, point_log, point_start, point_step, point_way}
use Rattle.lifting_runs.specs.Places.{LaidAt, Suffix, VisitedAt, at_body, by_ctrl, in_case, in_loop, next, whole}

-- the facts of a text that meets no refusal which this part needs
pub record CountedStates (F : Func) : Type 0 where
  -- 6: `bool` without 2 cases; another select without cases
  pub cases_fit_law : (n : ℕ) {kd : SelectionKind} {v : Value} {cs : List ℕ} {ds : List Decl} {u : ℕ} → node_of F n ≡ select kd v cs ds u → Enough kd (length cs)
  -- 6: a loop's inits, its body's outputs
  pub loop_fit : (n : ℕ) {b : ℕ} {c : Value} {is : List Value} {u : ℕ} → node_of F n ≡ loop b c is u → (region_of F b).outs ≡ [] → is ≡ []
  -- 7: counts of targets; a target that is region 0
  pub ctrl_fit : (r : ℕ) {c : ControlInst} → ctrl_of F r ≡ some c → WayFit c.kind (length c.to)
  pub ctrl_off : (r : ℕ) {s : ℕ} {c : ControlInst} → ctrl_of F r ≡ some c → In s c.to → (t : ℕ) × (s ≡ suc t)

module _ {Val : Type 0} (W : World Val) where
  pub pick_lt : (kd : SelectionKind) (vs : List Val) (n : ℕ) → Enough kd n → pick W kd vs n < n
  pick_lt bool_cond vs n e = go_bool (truths W vs) e
    where
      go_bool : (b : Bool) → n ≡ 2 → cond b 0 1 < n
      go_bool true e = omega arith
      go_bool false e = omega arith
  pick_lt (spv_inst i) vs n e = W.rule_lt i vs n e

-- an outcome that reads is met by one that reads the same
pub meet_reading : {Val S T : Type 0} (R : S → T → Type 0) (o : Option (List Val)) (f : List Val → Out S (End Val)) (g : List Val → Out T (End Val))
    → ((vs : List Val) → MeetOut R (f vs) (g vs)) → MeetOut R (reading o f) (reading o g)
meet_reading R none f g h = out_halt
meet_reading R (some vs) f g h = h vs

-- entries by region and by point
pub entry_inj : {r s : ℕ} → region_entry r ≡ region_entry s → r ≡ s
entry_inj e = cc

pub find_entry : (s : ℕ) (l : List (ℕ × List Value)) → find eq_point (region_entry s) (map (λ (x : ℕ × List Value). (region_entry x.0, x.1)) l) ≡ find ℕ_discrete s l
find_entry s [] = refl
find_entry s (x ∷ l) = same (ℕ_discrete s x.0) (find_entry s l)
  where
    same : (d : Dec (s ≡ x.0)) → find eq_point (region_entry s) (map (λ (x : ℕ × List Value). (region_entry x.0, x.1)) l) ≡ find ℕ_discrete s l
        → choose (eq_point (region_entry s) (region_entry x.0)) (some x.1) (find eq_point (region_entry s) (map (λ (x : ℕ × List Value). (region_entry x.0, x.1)) l))
        ≡ choose d (some x.1) (find ℕ_discrete s l)
    same (yes p) ih = choose_yes (eq_point (region_entry s) (region_entry x.0)) (some x.1) _ (ap region_entry p)
    same (no q) ih = choose_no (eq_point (region_entry s) (region_entry x.0)) (some x.1) _ (λ p. q (entry_inj p)) ∙ ih

-- constants keep their values
con_rin : {n : ℕ} {r i : ℕ} → const n ≡ region_input r i → ⊥
con_rin {n} {r} {i} e = let z : ◌≡◌ {A = ℕ} 0 1 = cc in omega arith

con_out : {n : ℕ} {r i : ℕ} → const n ≡ node_output r i → ⊥
con_out {n} {r} {i} e = let z : ◌≡◌ {A = ℕ} 0 1 = cc in omega arith

con_res : {n : ℕ} {i : ℕ} → const n ≡ data_inst_output i → ⊥
con_res {n} {i} e = let z : ◌≡◌ {A = ℕ} 0 1 = cc in omega arith

module _ (F : Func) {Val : Type 0} (W : World Val) where
  keeps : (f : ℕ → Value) (c : ℕ) → ((k : ℕ) → ¬ (const c ≡ f k)) → (k n : ℕ) (vs : List Val) (e : Value → Option Val)
      → puts eq_value e (tabulate f k n) vs (const c) ≡ e (const c)
  keeps f c h k zero vs e = refl
  keeps f c h k (suc n) [] e = refl
  keeps f c h k (suc n) (v ∷ vs) e = keeps f c h (suc k) n vs (put eq_value e (f k) v) ∙ choose_no (eq_value (const c) (f k)) (some v) (e (const c)) (h k)

  -- constants are set as at first
  abbrev pub Consts : Mem Val Value → Type 0
  Consts m = (c : ℕ) → c < length F.consts → m.env (const c) ≡ some (W.constant c)

  consts_rin : (m : Mem Val Value) (b n : ℕ) (vs : List Val) → Consts m → Consts (sets (tabulate (region_input b) 0 n) vs m)
  consts_rin m b n vs h c r = keeps (region_input b) c (λ k e. con_rin e) 0 n vs m.env ∙ h c r

  consts_out : (m : Mem Val Value) (b n : ℕ) (vs : List Val) → Consts m → Consts (sets (tabulate (node_output b) 0 n) vs m)
  consts_out m b n vs h c r = keeps (node_output b) c (λ k e. con_out e) 0 n vs m.env ∙ h c r

  consts_result : (t : ℕ) (e : Value → Option Val) (i n : ℕ) (c : ℕ) → set_result W t e i n (const c) ≡ e (const c)
  consts_result zero e i n c = refl
  consts_result (suc t) e i n c = choose_no (eq_value (const c) (data_inst_output i)) (some (W.result n)) (e (const c)) con_res

  consts_execute : (o : Op) (i : ℕ) (vs : List Val) (m : Mem Val Value) → Consts m → Consts (execute W o i vs m)
  consts_execute o i vs m h c r = consts_result o.type m.env i (length m.log) c ∙ h c r

  -- so they are at first
  con_inj : {a b : ℕ} → const a ≡ const b → a ≡ b
  con_inj e = cc

  untouched : {A : Type 0} (g : ℕ → Val) (c : ℕ) (l : List A) (k : ℕ) (e : Value → Option Val) → c < k → puts eq_value e (tabulate const k (length l)) (tabulate g k (length l)) (const c) ≡ e (const c)
  untouched g c [] k e h = refl
  untouched g c (x ∷ l) k e h = untouched g c l (suc k) (put eq_value e (const k) (g k)) (omega arith)
      ∙ choose_no (eq_value (const c) (const k)) (some (g k)) (e (const c)) (λ p. omega (arith, con_inj p))

  set_at : {A : Type 0} (g : ℕ → Val) (c : ℕ) (l : List A) (k : ℕ) (e : Value → Option Val) → k ≤ c → c < k + length l
      → puts eq_value e (tabulate const k (length l)) (tabulate g k (length l)) (const c) ≡ some (g c)
  set_at g c [] k e h h_right = absurd (omega arith)
  set_at g c (x ∷ l) k e h h_right = by_case (ℕ_discrete c k) (λ n. set_at g c l (suc k) (put eq_value e (const k) (g k)) (omega arith) (omega arith))
    where
      by_case : Dec (c ≡ k) → (c ≢ k → puts eq_value (put eq_value e (const k) (g k)) (tabulate const (suc k) (length l)) (tabulate g (suc k) (length l)) (const c) ≡ some (g c))
          → puts eq_value (put eq_value e (const k) (g k)) (tabulate const (suc k) (length l)) (tabulate g (suc k) (length l)) (const c) ≡ some (g c)
      by_case (yes p) ih = untouched g c l (suc k) (put eq_value e (const k) (g k)) (omega arith)
          ∙ choose_yes (eq_value (const c) (const k)) (some (g k)) (e (const c)) (ap const p) ∙ ap (λ (x : ℕ). some (g x)) (sym p)
      by_case (no n) ih = ih n

  consts_first : Consts (record { env = at_first F W; log = [] })
  consts_first c h = keeps (region_input 0) c (λ k e. con_rin e) 0 (length F.params) (tabulate W.arg 0 (length F.params)) _
      ∙ set_at W.constant c F.consts 0 (λ x. none) (omega arith) (omega arith)

  always_range : (k : ℕ) → always F (const k) ≡ true → k < length F.consts
  always_range k a = by_case (dec_lt k (length F.consts))
    where
      by_case : Dec (k < length F.consts) → k < length F.consts
      by_case (yes h) = h
      by_case (no n) = absurd (false≢true (sym (ap (λ (x : Const). eqb x.opcode 41) (get_or-eq_default F.consts (record { id = 0; opcode = 0 }) {n = k} (omega arith))) ∙ a))

module _ (F : Func) {Val : Type 0} (W : World Val) (B : CfgPoint → BlockLifting) where
  -- what stands on the stack below the end of region r
  pub data Tail : ℕ → Place → List Task → Type 0 where
    tail_top : {r : ℕ} → Tail r top (leave r ∷ [])
    tail_case : {r n c : ℕ} {p : Place} {ns : List ℕ} {kd : SelectionKind} {v : Value} {cs : List ℕ} {ds : List Decl} {u : ℕ} {K : List Task}
        → VisitedAt F r p → Suffix (region_of F r).nodes (n ∷ ns) → node_of F n ≡ select kd v cs ds u → Tail r p K
        → Tail c (in_node n) (close (out_keys n ds) c ∷ (map node ns ++ K))
    tail_loop : {r n b : ℕ} {p : Place} {ns : List ℕ} {c : Value} {is : List Value} {u : ℕ} {K : List Task}
        → VisitedAt F r p → Suffix (region_of F r).nodes (n ∷ ns) → node_of F n ≡ loop b c is u → Tail r p K
        → Tail b (in_node n) (again b c ∷ (map node ns ++ K))

  -- what is to be done once the ops of a point are done
  pub data After : CfgPoint → List Task → Type 0 where
    after_entry : {r : ℕ} {p : Place} {K : List Task} → VisitedAt F r p → Tail r p K → After (region_entry r) (nodes_then F W r K)
    after_block : {r n : ℕ} {p : Place} {ns : List ℕ} {is : List ℕ} {K : List Task}
        → VisitedAt F r p → Suffix (region_of F r).nodes (n ∷ ns) → node_of F n ≡ block is → Tail r p K → After (node_entry n) (map node ns ++ K)
    after_exit : {r n : ℕ} {p : Place} {ns : List ℕ} {K : List Task}
        → VisitedAt F r p → Suffix (region_of F r).nodes (n ∷ ns) → Tail r p K → After (node_exit n) (map node ns ++ K)
    after_loop : {r n b : ℕ} {p : Place} {ns : List ℕ} {c : Value} {is : List Value} {u : ℕ} {K : List Task}
        → VisitedAt F r p → Suffix (region_of F r).nodes (n ∷ ns) → node_of F n ≡ loop b c is u → Tail r p K
        → After (node_entry n) (nodes_then F W b (again b c ∷ (map node ns ++ K)))

  pub data LinkedStates : RegionState Val → PointState Val → Type 0 where
    linked : (is : List ℕ) (q : CfgPoint) (K : List Task) (m : Mem Val Value) → After q K → Consts F W m
        → LinkedStates (record { todo = map op is ++ K; mem = m }) (record { at = q; ops = is; mem = m })

  module _ (ok : CountedStates F) (ct : (c : ℕ) → always F (const c) ≡ true → W.truth (W.constant c) ≡ true) (laid : LaidAt F B) where
    abbrev Big : RegionState Val → PointState Val → Type 0
    Big = Macro (region_step F W) (region_log F W) (point_step F W B) (point_log F W B) LinkedStates

    -- arriving at q with block b and values vs
    abbrev landing : CfgPoint → BlockLifting → List Value → Mem Val Value → Out (PointState Val) (End Val)
    landing q b vs m = reading (reads m.env vs) (λ ws. go (record { at = q; ops = b.ops; mem = sets b.keys ws m }))

    abbrev ops_done : CfgPoint → Mem Val Value → PointState Val
    ops_done q m = record { at = q; ops = []; mem = m }

    abbrev to_do : List Task → Mem Val Value → RegionState Val
    to_do k m = record { todo = k; mem = m }

    -- the way out of a point whose block is known
    out_of : {q : CfgPoint} {b : BlockLifting} (m : Mem Val Value) → B q ≡ b → point_step F W B (ops_done q m) ≡ leave_point F W B b.term m
    out_of m e = ap (λ (b : BlockLifting). leave_point F W B b.term m) e

    land : {q : CfgPoint} {b : BlockLifting} (m : Mem Val Value) → B q ≡ b → landing q (B q) (B q).defaults m ≡ landing q b b.defaults m
    land {q} m e = ap (λ (b : BlockLifting). landing q b b.defaults m) e

    straight_on : {q q_next : CfgPoint} {b b_next : BlockLifting} (m : Mem Val Value) → B q ≡ b → b.term ≡ straight q_next → B q_next ≡ b_next
        → point_step F W B (ops_done q m) ≡ landing q_next b_next b_next.defaults m
    straight_on m e t e_right = out_of m e ∙ ap (λ (t : Terminator). leave_point F W B t m) t ∙ land m e_right

    edge_is : (t : Terminator) (q : CfgPoint) (b : BlockLifting) (vs : List Value) → t.vals ≡ some_vals q vs → B q ≡ b → (vs ≡ [] → b.defaults ≡ []) → edge F W B t q ≡ vs
    edge_is t q b [] tv e d = ap (λ (l : List (CfgPoint × List Value)). vals_or (find eq_point q l) (B q).defaults) tv ∙ ap (λ (x : BlockLifting). x.defaults) e ∙ d refl
    edge_is t q b (v ∷ vs) tv e d = ap (λ (l : List (CfgPoint × List Value)). vals_or (find eq_point q l) (B q).defaults) tv
        ∙ ap (λ (o : Option (List Value)). vals_or o (B q).defaults) (choose_yes (eq_point q q) (some (v ∷ vs)) none refl)

    jump_is : (t : Terminator) (q : CfgPoint) (b : BlockLifting) (vs : List Value) (m : Mem Val Value) → edge F W B t q ≡ vs → B q ≡ b → jump F W B t q m ≡ landing q b vs m
    jump_is t q b vs m d e = ap (λ (l : List Value). landing q (B q) l m) d ∙ ap (λ (x : BlockLifting). landing q x vs m) e

    entry_exit : {n k : ℕ} → node_exit n ≡ node_entry k → ⊥
    entry_exit {n} {k} e = let z : ◌≡◌ {A = ℕ} 0 1 = cc in omega arith

    -- no entry for the way out of a loop
    edge_out : (t : Terminator) (n : ℕ) (b : BlockLifting) (vs : List Value) → t.vals ≡ some_vals (node_entry n) vs → B (node_exit n) ≡ b → b.defaults ≡ [] → edge F W B t (node_exit n) ≡ []
    edge_out t n b [] tv e d = ap (λ (l : List (CfgPoint × List Value)). vals_or (find eq_point (node_exit n) l) (B (node_exit n)).defaults) tv ∙ ap (λ (x : BlockLifting). x.defaults) e ∙ d
    edge_out t n b (v ∷ vs) tv e d = ap (λ (l : List (CfgPoint × List Value)). vals_or (find eq_point (node_exit n) l) (B (node_exit n)).defaults) tv
        ∙ ap (λ (o : Option (List Value)). vals_or o (B (node_exit n)).defaults) (choose_no (eq_point (node_exit n) (node_entry n)) (some (v ∷ vs)) none entry_exit)
        ∙ ap (λ (x : BlockLifting). x.defaults) e ∙ d

    -- at the end of a case
    leave_case : {r n c : ℕ} {p : Place} {ns : List ℕ} {kd : SelectionKind} {v : Value} {cs : List ℕ} {ds : List Decl} {u : ℕ} {K : List Task} (m : Mem Val Value)
        → VisitedAt F c (in_node n) → VisitedAt F r p → Suffix (region_of F r).nodes (n ∷ ns) → node_of F n ≡ select kd v cs ds u → Tail r p K → Consts F W m
        → Big (to_do (close (out_keys n ds) c ∷ (map node ns ++ K)) m) (ops_done (region_exit c) m)
    leave_case {r} {n} {c} {ns} {kd} {v} {cs} {ds} {u} {K} m vc vr sf e tl cm =
        let ex : B (region_exit c) ≡ plain (child_term F (select kd v cs ds u) n (region_of F c).outs) = laid.exit_at vc ∙ ap (λ (d : Node). plain (child_term F d n (region_of F c).outs)) e in
        let ot : B (node_exit n) ≡ out_block F (select kd v cs ds u) n (next_point r ns) = laid.out_at vr sf ∙ ap (λ (d : Node). out_block F d n (next_point r ns)) e in
        let t = child_term F (select kd v cs ds u) n (region_of F c).outs in
        let right : point_step F W B (ops_done (region_exit c) m) ≡ landing (node_exit n) (out_block F (select kd v cs ds u) n (next_point r ns)) (region_of F c).outs m
        = out_of m ex ∙ jump_is t (node_exit n) _ _ m (edge_is t (node_exit n) _ (region_of F c).outs refl ot (λ x. refl)) ot in
        at_once _ _ _ _ _ _ _ (subst (λ (y : Out (PointState Val) (End Val)). MeetOut LinkedStates (region_step F W (to_do (close (out_keys n ds) c ∷ (map node ns ++ K)) m)) y) (sym right)
        (meet_reading LinkedStates (reads m.env (region_of F c).outs) _ _
        (λ vs. out_go (linked [] (node_exit n) (map node ns ++ K) (sets (out_keys n ds) vs m) (after_exit vr sf tl) (consts_out F W m n (length ds) vs cm)))))

    -- a condition of opcode 41 is read as true
    always_reads : (v : Value) (m : Mem Val Value) → Consts F W m → always F v ≡ true → (vs : List Val) × (reads m.env (v ∷ []) ≡ some vs) × (truths W vs ≡ true)
    always_reads (const k) m cm a = (W.constant k ∷ [], ap (λ (o : Option Val). World·and o) (cm k (always_range F W k a)), ct k a)
      where
        World·and : Option Val → Option (List Val)
        World·and o = and_some o (some [])
    always_reads (region_input r i) m cm a = absurd (let z : ◌≡◌ {A = ℕ} 0 1 = cc in omega arith)
    always_reads (node_output n i) m cm a = absurd (let z : ◌≡◌ {A = ℕ} 0 1 = cc in omega arith)
    always_reads (data_inst_output i) m cm a = absurd (let z : ◌≡◌ {A = ℕ} 0 1 = cc in omega arith)

    -- at the end of a loop's body
    leave_loop : {r n b : ℕ} {p : Place} {ns : List ℕ} {c : Value} {is : List Value} {u : ℕ} {K : List Task} (m : Mem Val Value)
        → VisitedAt F b (in_node n) → VisitedAt F r p → Suffix (region_of F r).nodes (n ∷ ns) → node_of F n ≡ loop b c is u → Tail r p K → Consts F W m
        → (a : Bool) → always F c ≡ a
        → Big (to_do (again b c ∷ (map node ns ++ K)) m) (ops_done (region_exit b) m)
    leave_loop {r} {n} {b} {ns} {c} {is} {u} {K} m vb vr sf e tl cm true a =
        let outs = (region_of F b).outs in
        let k = again b c ∷ (map node ns ++ K) in
        let ex : B (region_exit b) ≡ plain (loop_term F true n c outs)
        = laid.exit_at vb ∙ ap (λ (d : Node). plain (child_term F d n outs)) e ∙ ap (λ (x : Bool). plain (loop_term F x n c outs)) a in
        let it : B (node_entry n) ≡ in_block F (loop b c is u) n = laid.in_at vr sf ∙ ap (λ (d : Node). in_block F d n) e in
        let t = loop_term F true n c outs in
        let right : point_step F W B (ops_done (region_exit b) m) ≡ landing (node_entry n) (in_block F (loop b c is u) n) outs m
        = out_of m ex ∙ jump_is t (node_entry n) _ _ m (edge_is t (node_entry n) _ outs refl it (λ x. ok.loop_fit n e x)) it in
        let w = always_reads c m cm a in
        let lap : List Val → Out (RegionState Val) (End Val) = λ ws. go (to_do (nodes_then F W b k) (sets (ins_keys F b) ws m)) in
        let left : region_step F W (to_do k m) ≡ reading (reads m.env outs) lap
        = ap (λ (o : Option (List Val)). reading o (λ vs. cond (truths W vs) (reading (reads m.env outs) lap) (go (to_do (map node ns ++ K) m)))) w.1
        ∙ ap (λ (x : Bool). cond x (reading (reads m.env outs) lap) (go (to_do (map node ns ++ K) m))) w.2 in
        at_once _ _ _ _ _ _ _ (subst (λ (x : Out (RegionState Val) (End Val)). MeetOut LinkedStates x (point_step F W B (ops_done (region_exit b) m))) (sym left)
        (subst (λ (y : Out (PointState Val) (End Val)). MeetOut LinkedStates (reading (reads m.env outs) lap) y) (sym right)
        (meet_reading LinkedStates (reads m.env outs) _ _
        (λ vs. out_go (linked [] (node_entry n) (nodes_then F W b k) (sets (ins_keys F b) vs m) (after_loop vr sf e tl) (consts_rin F W m b (length (region_of F b).ins) vs cm))))))
    leave_loop {r} {n} {b} {ns} {c} {is} {u} {K} m vb vr sf e tl cm false a =
        let outs = (region_of F b).outs in
        let k = again b c ∷ (map node ns ++ K) in
        let ex : B (region_exit b) ≡ plain (loop_term F false n c outs)
        = laid.exit_at vb ∙ ap (λ (d : Node). plain (child_term F d n outs)) e ∙ ap (λ (x : Bool). plain (loop_term F x n c outs)) a in
        let it : B (node_entry n) ≡ in_block F (loop b c is u) n = laid.in_at vr sf ∙ ap (λ (d : Node). in_block F d n) e in
        let ot : B (node_exit n) ≡ out_block F (loop b c is u) n (next_point r ns) = laid.out_at vr sf ∙ ap (λ (d : Node). out_block F d n (next_point r ns)) e in
        let t = loop_term F false n c outs in
        let back : jump F W B t (node_entry n) m ≡ landing (node_entry n) (in_block F (loop b c is u) n) outs m
        = jump_is t (node_entry n) _ _ m (edge_is t (node_entry n) _ outs refl it (λ x. ok.loop_fit n e x)) it in
        let off : jump F W B t (node_exit n) m ≡ go (ops_done (node_exit n) m)
        = jump_is t (node_exit n) _ _ m (edge_out t n _ outs refl ot refl) ot in
        let lap : List Val → Out (RegionState Val) (End Val) = λ ws. go (to_do (nodes_then F W b k) (sets (ins_keys F b) ws m)) in
        let two : (x : Bool) → MeetOut LinkedStates (cond x (reading (reads m.env outs) lap) (go (to_do (map node ns ++ K) m)))
        (jump F W B t (get_or t.targets (cond x 0 1) (region_entry 0)) m)
        = λ x. elim x as (λ z. MeetOut LinkedStates (cond z (reading (reads m.env outs) lap) (go (to_do (map node ns ++ K) m)))
        (jump F W B t (get_or t.targets (cond z 0 1) (region_entry 0)) m)) [
          | true ↦ subst (λ (y : Out (PointState Val) (End Val)). MeetOut LinkedStates (reading (reads m.env outs) lap) y) (sym back)
              (meet_reading LinkedStates (reads m.env outs) _ _
              (λ vs. out_go (linked [] (node_entry n) (nodes_then F W b k) (sets (ins_keys F b) vs m) (after_loop vr sf e tl) (consts_rin F W m b (length (region_of F b).ins) vs cm))))
          | false ↦ subst (λ (y : Out (PointState Val) (End Val)). MeetOut LinkedStates (go (to_do (map node ns ++ K) m)) y) (sym off)
              (out_go (linked [] (node_exit n) (map node ns ++ K) m (after_exit vr sf tl) cm))
        ] in
        at_once _ _ _ _ _ _ _ (subst (λ (y : Out (PointState Val) (End Val)). MeetOut LinkedStates (region_step F W (to_do k m)) y) (sym (out_of m ex))
        (meet_reading LinkedStates (reads m.env (c ∷ [])) _ _ (λ vs. two (truths W vs))))

    abbrev ctrl_term : ControlInst → Terminator
    ctrl_term c = root_term F (some c) 0

    -- along an edge to another root
    go_root : {r : ℕ} {c : ControlInst} (m : Mem Val Value) (s : ℕ) → VisitedAt F r top → ctrl_of F r ≡ some c → In s c.to → Consts F W m
        → (q : CfgPoint) → q ≡ region_entry s → MeetOut LinkedStates (enter F W c s m) (jump F W B (ctrl_term c) q m)
    go_root {r} {c} m s vr e i cm q qe =
        let (t, st) = ok.ctrl_off r e i in
        let vs = by_ctrl vr e i in
        let at0 : B (region_entry s) ≡ entry_block F s top = laid.entry_at vs in
        let wh = vals_or (find ℕ_discrete s c.vals) [] in
        let ed : edge F W B (ctrl_term c) (region_entry s) ≡ wh
        = ap (λ (b : BlockLifting). vals_or (find eq_point (region_entry s) (map (λ (x : ℕ × List Value). (region_entry x.0, x.1)) c.vals)) b.defaults) at0
        ∙ ap (λ (o : Option (List Value)). vals_or o []) (find_entry s c.vals) in
        let keys : (entry_block F s top).keys ≡ ins_keys F s = ap (λ (x : ℕ). (entry_block F x top).keys) st ∙ sym (ap (λ (x : ℕ). ins_keys F x) st) in
        let right : jump F W B (ctrl_term c) q m ≡ reading (reads m.env wh) (λ ws. go (record { at = region_entry s; ops = []; mem = sets (ins_keys F s) ws m }))
        = ap (λ (x : CfgPoint). jump F W B (ctrl_term c) x m) qe ∙ jump_is (ctrl_term c) (region_entry s) _ _ m ed at0
        ∙ ap (λ (ks : List Value). reading (reads m.env wh) (λ ws. go (record { at = region_entry s; ops = []; mem = sets ks ws m }))) keys in
        subst (λ (y : Out (PointState Val) (End Val)). MeetOut LinkedStates (enter F W c s m) y) (sym right)
        (meet_reading LinkedStates (reads m.env wh) _ _
        (λ ws. out_go (linked [] (region_entry s) (nodes_then F W s (leave s ∷ [])) (sets (ins_keys F s) ws m) (after_entry vs tail_top) (consts_rin F W m s (length (region_of F s).ins) ws cm))))

    leave_by_law : {r : ℕ} {c : ControlInst} (m : Mem Val Value) → VisitedAt F r top → ctrl_of F r ≡ some c → Consts F W m → (vs : List Val)
        → (k : ControlInstKind) → WayFit k (length c.to) → MeetOut LinkedStates (leave_by F W k c vs m) (point_way F W B k (ctrl_term c) vs m)
    leave_by_law m vr e cm vs unreachable f = out_halt
    leave_by_law m vr e cm vs return f = out_halt
    leave_by_law {c} m vr e cm vs branch f =
        go_root m (get_or c.to 0 0) vr e (in_get_or c.to 0 0 (omega arith)) cm _ (get_or-map region_entry c.to 0 0)
    leave_by_law {c} m vr e cm vs (select_branch k) f =
        let i = pick W k vs (length c.to) in
        go_root m (get_or c.to i 0) vr e (in_get_or c.to i 0 (pick_lt W k vs (length c.to) f)) cm _
        (ap (λ (x : ℕ). get_or (map region_entry c.to) (pick W k vs x) (region_entry 0)) (length-map c.to region_entry) ∙ get_or-map region_entry c.to i 0)
    leave_by_law m vr e cm vs (exit_invocation i) f = out_halt

    leave_root : (r : ℕ) (m : Mem Val Value) → VisitedAt F r top → Consts F W m → (o : Option ControlInst) → ctrl_of F r ≡ o → MeetOut LinkedStates (do_leave F W o r m) (leave_point F W B (root_term F o r) m)
    leave_root r m vr cm none e = meet_reading LinkedStates (reads m.env (region_of F r).outs) _ _ (λ vs. out_halt)
    leave_root r m vr cm (some c) e = meet_reading LinkedStates (reads m.env c.ins) _ _ (λ vs. leave_by_law m vr e cm vs c.kind (ok.ctrl_fit r e))

    leave_region : {r : ℕ} {p : Place} {K : List Task} (m : Mem Val Value) → VisitedAt F r p → Tail r p K → Consts F W m → Big (to_do K m) (ops_done (region_exit r) m)
    leave_region m vr (tail_top {r}) cm =
        at_once _ _ _ _ _ _ _ (subst (λ (y : Out (PointState Val) (End Val)). MeetOut LinkedStates (region_step F W (to_do (leave r ∷ []) m)) y) (sym (out_of m (laid.exit_at vr)))
        (leave_root r m vr cm (ctrl_of F r) refl))
    leave_region m vr (tail_case v sf e tl) cm = leave_case m vr v sf e tl cm
    leave_region m vr (tail_loop {c} v sf e tl) cm = leave_loop m vr v sf e tl cm (always F c) refl

    -- on to a node of kind d, from a point that leads straight there
    into_node : {r n : ℕ} {p : Place} {ns : List ℕ} {K : List Task} {q : CfgPoint} {b : BlockLifting} (m : Mem Val Value) (d : Node) → node_of F n ≡ d
        → B q ≡ b → b.term ≡ straight (node_entry n)
        → VisitedAt F r p → Suffix (region_of F r).nodes (n ∷ ns) → Tail r p K → Consts F W m
        → Big (to_do (node n ∷ (map node ns ++ K)) m) (ops_done q m)
    into_node {n} {ns} {K} {q} m (block is) e bq bt vr sf tl cm =
        let it : B (node_entry n) ≡ in_block F (block is) n = laid.in_at vr sf ∙ ap (λ (d : Node). in_block F d n) e in
        let right : point_step F W B (ops_done q m) ≡ go (record { at = node_entry n; ops = is; mem = m }) = straight_on m bq bt it in
        let left : region_step F W (to_do (node n ∷ (map node ns ++ K)) m) ≡ go (to_do (map op is ++ (map node ns ++ K)) m)
        = ap (λ (d : Node). do_node F W d n (map node ns ++ K) m) e in
        at_once _ _ _ _ _ _ _ (subst (λ (x : Out (RegionState Val) (End Val)). MeetOut LinkedStates x (point_step F W B (ops_done q m))) (sym left)
        (subst (λ (y : Out (PointState Val) (End Val)). MeetOut LinkedStates (go (to_do (map op is ++ (map node ns ++ K)) m)) y) (sym right)
        (out_go (linked is (node_entry n) (map node ns ++ K) m (after_block vr sf e tl) cm))))
    into_node {n} {ns} {K} {q} m (select kd v cs ds u) e bq bt vr sf tl cm =
        let it : B (node_entry n) ≡ in_block F (select kd v cs ds u) n = laid.in_at vr sf ∙ ap (λ (d : Node). in_block F d n) e in
        let hop : point_step F W B (ops_done q m) ≡ go (ops_done (node_entry n) m) = straight_on m bq bt it in
        let t = (in_block F (select kd v cs ds u) n).term in
        let left : region_step F W (to_do (node n ∷ (map node ns ++ K)) m) ≡ do_node F W (select kd v cs ds u) n (map node ns ++ K) m
        = ap (λ (d : Node). do_node F W d n (map node ns ++ K) m) e in
        let each : (vs : List Val) (c : ℕ) (g : CfgPoint) → g ≡ region_entry c → In c cs
        → MeetOut LinkedStates (go (to_do (nodes_then F W c (close (out_keys n ds) c ∷ (map node ns ++ K))) m)) (jump F W B t g m)
        = λ vs c g ge i.
        let vc = in_case vr sf e i in
        let en : B (region_entry c) ≡ entry_block F c (in_node n) = laid.entry_at vc in
        let right : jump F W B t g m ≡ go (ops_done (region_entry c) m)
        = ap (λ (x : CfgPoint). jump F W B t x m) ge ∙ jump_is t (region_entry c) _ [] m (ap (λ (b : BlockLifting). b.defaults) en) en in
        subst (λ (y : Out (PointState Val) (End Val)). MeetOut LinkedStates (go (to_do (nodes_then F W c (close (out_keys n ds) c ∷ (map node ns ++ K))) m)) y) (sym right)
        (out_go (linked [] (region_entry c) _ m (after_entry vc (tail_case vr sf e tl)) cm)) in
        right_first _ _ _ _ _ hop refl
        (at_once _ _ _ _ _ _ _ (subst (λ (x : Out (RegionState Val) (End Val)). MeetOut LinkedStates x (point_step F W B (ops_done (node_entry n) m))) (sym left)
        (subst (λ (y : Out (PointState Val) (End Val)). MeetOut LinkedStates (do_node F W (select kd v cs ds u) n (map node ns ++ K) m) y) (sym (out_of m it))
        (meet_reading LinkedStates (reads m.env (v ∷ [])) _ _ (λ vs.
        each vs (get_or cs (pick W kd vs (length cs)) 0) _
        (ap (λ (x : ℕ). get_or (map region_entry cs) (pick W kd vs x) (region_entry 0)) (length-map cs region_entry) ∙ get_or-map region_entry cs (pick W kd vs (length cs)) 0)
        (in_get_or cs _ 0 (pick_lt W kd vs (length cs) (ok.cases_fit_law n e))))))))
    into_node {n} {ns} {K} {q} m (loop b c is u) e bq bt vr sf tl cm =
        let it : B (node_entry n) ≡ in_block F (loop b c is u) n = laid.in_at vr sf ∙ ap (λ (d : Node). in_block F d n) e in
        let right : point_step F W B (ops_done q m) ≡ landing (node_entry n) (in_block F (loop b c is u) n) is m = straight_on m bq bt it in
        let left : region_step F W (to_do (node n ∷ (map node ns ++ K)) m) ≡ do_node F W (loop b c is u) n (map node ns ++ K) m
        = ap (λ (d : Node). do_node F W d n (map node ns ++ K) m) e in
        at_once _ _ _ _ _ _ _ (subst (λ (x : Out (RegionState Val) (End Val)). MeetOut LinkedStates x (point_step F W B (ops_done q m))) (sym left)
        (subst (λ (y : Out (PointState Val) (End Val)). MeetOut LinkedStates (do_node F W (loop b c is u) n (map node ns ++ K) m) y) (sym right)
        (meet_reading LinkedStates (reads m.env is) _ _ (λ vs.
        out_go (linked [] (node_entry n) _ (sets (ins_keys F b) vs m) (after_loop vr sf e tl) (consts_rin F W m b (length (region_of F b).ins) vs cm))))))
    into_node {n} {ns} {K} {q} m (exit i ws) e bq bt vr sf tl cm =
        let it : B (node_entry n) ≡ in_block F (exit i ws) n = laid.in_at vr sf ∙ ap (λ (d : Node). in_block F d n) e in
        let hop : point_step F W B (ops_done q m) ≡ go (ops_done (node_entry n) m) = straight_on m bq bt it in
        let left : region_step F W (to_do (node n ∷ (map node ns ++ K)) m) ≡ do_node F W (exit i ws) n (map node ns ++ K) m
        = ap (λ (d : Node). do_node F W d n (map node ns ++ K) m) e in
        right_first _ _ _ _ _ hop refl
        (at_once _ _ _ _ _ _ _ (subst (λ (x : Out (RegionState Val) (End Val)). MeetOut LinkedStates x (point_step F W B (ops_done (node_entry n) m))) (sym left)
        (subst (λ (y : Out (PointState Val) (End Val)). MeetOut LinkedStates (do_node F W (exit i ws) n (map node ns ++ K) m) y) (sym (out_of m it))
        (meet_reading LinkedStates (reads m.env ws) _ _ (λ vs. out_halt)))))

    -- on to what follows the nodes before ns
    flow : {r : ℕ} {p : Place} {K : List Task} {q : CfgPoint} {b : BlockLifting} (m : Mem Val Value) (ns : List ℕ) → B q ≡ b → b.term ≡ straight (next_point r ns)
        → VisitedAt F r p → Suffix (region_of F r).nodes ns → Tail r p K → Consts F W m → Big (to_do (map node ns ++ K) m) (ops_done q m)
    flow m [] bq bt vr sf tl cm = right_first _ _ _ _ _ (straight_on m bq bt (laid.exit_at vr)) refl (leave_region m vr tl cm)
    flow m (n ∷ ns) bq bt vr sf tl cm = into_node m (node_of F n) refl bq bt vr sf tl cm

    after_ops : {q : CfgPoint} {K : List Task} (m : Mem Val Value) → After q K → Consts F W m → Big (to_do K m) (ops_done q m)
    after_ops m (after_entry {r} vr tl) cm = flow m (region_of F r).nodes (laid.entry_at vr) refl vr whole tl cm
    after_ops m (after_block {r} {n} {ns} {is} vr sf e tl) cm =
        let it : B (node_entry n) ≡ in_block F (block is) n = laid.in_at vr sf ∙ ap (λ (d : Node). in_block F d n) e in
        let ot : B (node_exit n) ≡ out_block F (block is) n (next_point r ns) = laid.out_at vr sf ∙ ap (λ (d : Node). out_block F d n (next_point r ns)) e in
        right_first _ _ _ _ _ (straight_on m it refl ot) refl (flow m ns ot refl vr (next sf) tl cm)
    after_ops m (after_exit {ns} vr sf tl) cm = flow m ns (laid.out_at vr sf) refl vr (next sf) tl cm
    after_ops m (after_loop {r} {n} {b} {ns} {c} {is} {u} {K} vr sf e tl) cm =
        let it : B (node_entry n) ≡ in_block F (loop b c is u) n = laid.in_at vr sf ∙ ap (λ (d : Node). in_block F d n) e in
        let vb = in_loop vr sf e in
        let en : B (region_entry b) ≡ entry_block F b (in_node n) = laid.entry_at vb in
        let t = (in_block F (loop b c is u) n).term in
        let hop : point_step F W B (ops_done (node_entry n) m) ≡ go (ops_done (region_entry b) m)
        = out_of m it ∙ jump_is t (region_entry b) _ [] m (ap (λ (x : BlockLifting). x.defaults) en) en in
        right_first _ _ _ _ _ hop refl (flow m (region_of F b).nodes en refl vb whole (tail_loop vr sf e tl) cm)

    macro_at : (is : List ℕ) (q : CfgPoint) (K : List Task) (m : Mem Val Value) → After q K → Consts F W m
        → Big (to_do (map op is ++ K) m) (record { at = q; ops = is; mem = m })
    macro_at [] q K m a cm = after_ops m a cm
    macro_at (i ∷ is) q K m a cm = at_once _ _ _ _ _ _ _ (meet_reading LinkedStates (reads m.env (op_of F i).operands) _ _ (λ vs.
        out_go (linked is q K (execute W (op_of F i) i vs m) a (consts_execute F W (op_of F i) i vs m cm))))

    linked_log : {s : RegionState Val} {t : PointState Val} → LinkedStates s t → region_log F W s ≡ point_log F W B t
    linked_log (linked is q K m a cm) = refl

    linked_macro : {s : RegionState Val} {t : PointState Val} → LinkedStates s t → Big s t
    linked_macro (linked is q K m a cm) = macro_at is q K m a cm

    -- the run of the regions and that of the points are alike
    pub regions_points : Alike (region_step F W) (region_log F W) (point_step F W B) (point_log F W B) (region_start F W) (point_start F W B)
    regions_points =
        let s : Simulation (region_step F W) (region_log F W) (point_step F W B) (point_log F W B) LinkedStates = record { same_log = linked_log; macro = linked_macro } in
        let en : B (region_entry 0) ≡ entry_block F 0 top = laid.entry_at at_body in
        let m : Mem Val Value = record { env = at_first F W; log = [] } in
        subst (λ (is : List ℕ). Alike (region_step F W) (region_log F W) (point_step F W B) (point_log F W B) (region_start F W) (record { at = region_entry 0; ops = is; mem = m }))
        (sym (ap (λ (b : BlockLifting). b.ops) en))
        (alike_of _ _ _ _ LinkedStates s (linked [] (region_entry 0) _ m (after_entry at_body tail_top) (consts_first F W)))
