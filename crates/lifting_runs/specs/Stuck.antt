-- No run of regions or of blocks at points is ever stuck: both keep something to do until they end otherwise. Assumes nothing.
use Rattle.std.proofs.Common.{subst}
use Rattle.std.specs.Prelude.{Bool, true, false, cond, List, [], ◌∷◌, ◌++◌, map, ℕ, zero, suc, get_or, length}
use Rattle.std.proofs.Math.Option.{Option, none, some}
use Rattle.lifting.specs.Ast.{ControlInst, ControlInstKind, Func, Node, Value, block, branch, exit, exit_invocation, loop, return, select, select_branch, unreachable}
use Rattle.lifting.specs.Parts.{ctrl_of, node_of, op_of, out_keys, region_of, vals_for}
use Rattle.lifting.specs.Points.{BlockLifting, CfgPoint, Terminator, region_entry}
use Rattle.lifting.specs.Machine.{Ends, Out, state_after, go, halt, onward}
use Rattle.lifting.specs.World.{End, Executed, Mem, World, dead, exited, pick, reading, reads, returned, stuck, truths, unset}
use Rattle.lifting.specs.RegionRun.{RegionState, Task, again, close, do_leave, do_node, do_tasks, enter, leave, leave_by, node, op, region_log, region_start, region_step}
use Rattle.lifting_runs.specs.PointRun.{PointState, do_ops, edge, jump, point_log, point_start, point_step, point_way}

abbrev NotStuck : {Val : Type 0} → End Val → Type 0
NotStuck (returned vs) = Unit {0}
NotStuck (exited i vs) = Unit {0}
NotStuck dead = Unit {0}
NotStuck unset = Unit {0}
NotStuck stuck = ⊥

-- what a step gives is fine: a state that is, or an end that is not stuck
abbrev Well : {Val S : Type 0} → (S → Type 0) → Out S (End Val) → Type 0
Well Fine (go s) = Fine s
Well Fine (halt h) = NotStuck h

well_reading : {Val S : Type 0} (Fine : S → Type 0) (o : Option (List Val)) (f : List Val → Out S (End Val)) → ((vs : List Val) → Well Fine (f vs)) → Well Fine (reading o f)
well_reading Fine none f h = tt
well_reading Fine (some vs) f h = h vs

-- a machine whose steps from fine states are fine
module _ {Val S L : Type 0} (step : S → Out S (End Val)) (log : S → L) (Fine : S → Type 0) (well : (s : S) → Fine s → Well Fine (step s)) where
  onward_fine : (s : S) (o : Out S (End Val)) → Fine s → Well Fine o → Fine (onward o s)
  onward_fine s (go t) h w = w
  onward_fine s (halt e) h w = h

  after_fine : (k : ℕ) (s : S) → Fine s → Fine (state_after step k s)
  after_fine zero s h = h
  after_fine (suc k) s h = after_fine k (onward (step s) s) (onward_fine s (step s) h (well s h))

  not_stuck : (s : S) → Fine s → (l : L) → Ends step log s stuck l → ⊥
  not_stuck s h l x = subst (Well Fine) x.1 (well (state_after step x.0 s) (after_fine x.0 s h))

-- what is to do ends with the end of a root
data Rooted : List Task → Type 0 where
  root : (r : ℕ) → Rooted (leave r ∷ [])
  above : (t : Task) {k : List Task} → Rooted k → Rooted (t ∷ k)

above_all : {A : Type 0} (f : A → Task) (l : List A) {k : List Task} → Rooted k → Rooted (map f l ++ k)
above_all f [] h = h
above_all f (x ∷ l) h = above (f x) (above_all f l h)

module _ (F : Func) {Val : Type 0} (W : World Val) where
  abbrev Fine : RegionState Val → Type 0
  Fine s = Rooted s.todo

  well_node : (d : Node) (n : ℕ) (k : List Task) (m : Mem Val Value) → Rooted k → Well Fine (do_node F W d n k m)
  well_node (block is) n k m h = above_all op is h
  well_node (select s v cs ds u) n k m h = well_reading Fine (reads m.env (v ∷ [])) _
      (λ vs. let c = get_or cs (pick W s vs (length cs)) 0 in above_all node (region_of F c).nodes (above (close (out_keys n ds) c) h))
  well_node (loop b c is u) n k m h = well_reading Fine (reads m.env is) _ (λ vs. above_all node (region_of F b).nodes (above (again b c) h))
  well_node (exit i vs) n k m h = well_reading Fine (reads m.env vs) _ (λ ws. tt)

  well_enter : (c : ControlInst) (r : ℕ) (m : Mem Val Value) → Well Fine (enter F W c r m)
  well_enter c r m = well_reading Fine (reads m.env (vals_for c r)) _ (λ ws. above_all node (region_of F r).nodes (root r))

  well_by : (kd : ControlInstKind) (c : ControlInst) (vs : List Val) (m : Mem Val Value) → Well Fine (leave_by F W kd c vs m)
  well_by unreachable c vs m = tt
  well_by return c vs m = tt
  well_by branch c vs m = well_enter c (get_or c.to 0 0) m
  well_by (select_branch k) c vs m = well_enter c (get_or c.to (pick W k vs (length c.to)) 0) m
  well_by (exit_invocation i) c vs m = tt

  well_leave : (o : Option ControlInst) (r : ℕ) (m : Mem Val Value) → Well Fine (do_leave F W o r m)
  well_leave none r m = well_reading Fine (reads m.env (region_of F r).outs) _ (λ vs. tt)
  well_leave (some c) r m = well_reading Fine (reads m.env c.ins) _ (λ vs. well_by c.kind c vs m)

  well_lap : (b : Bool) (x y : Out (RegionState Val) (End Val)) → Well Fine x → Well Fine y → Well Fine (cond b x y)
  well_lap true x y h g = h
  well_lap false x y h g = g

  well_tasks : {k : List Task} (m : Mem Val Value) → Rooted k → Well Fine (do_tasks F W k m)
  well_tasks m (root r) = well_leave (ctrl_of F r) r m
  well_tasks m (above (op i) h) = well_reading Fine (reads m.env (op_of F i).operands) _ (λ vs. h)
  well_tasks m (above (node n) {k} h) = well_node (node_of F n) n k m h
  well_tasks m (above (close ks c) h) = well_reading Fine (reads m.env (region_of F c).outs) _ (λ vs. h)
  well_tasks m (above (again b c) h) = well_reading Fine (reads m.env (c ∷ [])) _ (λ vs. well_lap (truths W vs) _ _
      (well_reading Fine (reads m.env (region_of F b).outs) _ (λ ws. above_all node (region_of F b).nodes (above (again b c) h))) h)
  well_tasks m (above (leave r) h) = well_leave (ctrl_of F r) r m

  -- the regions of any text, accepted or not
  pub regions_go_on : (l : List (Executed Val)) → Ends (region_step F W) (region_log F W) (region_start F W) stuck l → ⊥
  regions_go_on = not_stuck (region_step F W) (region_log F W) Fine (λ s h. well_tasks s.mem h) (region_start F W) (above_all node (region_of F 0).nodes (root 0))

  module _ (B : CfgPoint → BlockLifting) where
    abbrev Any : PointState Val → Type 0
    Any s = Unit {0}

    well_jump : (t : Terminator) (q : CfgPoint) (m : Mem Val Value) → Well Any (jump F W B t q m)
    well_jump t q m = well_reading Any (reads m.env (edge F W B t q)) _ (λ ws. tt)

    well_way : (kd : ControlInstKind) (t : Terminator) (vs : List Val) (m : Mem Val Value) → Well Any (point_way F W B kd t vs m)
    well_way unreachable t vs m = tt
    well_way return t vs m = tt
    well_way branch t vs m = well_jump t (get_or t.targets 0 (region_entry 0)) m
    well_way (select_branch k) t vs m = well_jump t (get_or t.targets (pick W k vs (length t.targets)) (region_entry 0)) m
    well_way (exit_invocation i) t vs m = tt

    well_ops : (is : List ℕ) (p : CfgPoint) (m : Mem Val Value) → Well Any (do_ops F W B is p m)
    well_ops [] p m = well_reading Any (reads m.env (B p).term.ins) _ (λ vs. well_way (B p).term.kind (B p).term vs m)
    well_ops (i ∷ is) p m = well_reading Any (reads m.env (op_of F i).operands) _ (λ vs. tt)

    pub points_go_on : (l : List (Executed Val)) → Ends (point_step F W B) (point_log F W B) (point_start F W B) stuck l → ⊥
    points_go_on = not_stuck (point_step F W B) (point_log F W B) Any (λ s h. well_ops s.ops s.at s.mem) (point_start F W B) tt
