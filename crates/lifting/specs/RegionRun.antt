-- Document 01, 'Running the regions and the blocks': the run of a text's regions, as a stack of what is still to do. It knows nothing of
-- points or blocks. Assumes nothing.
use Rattle.std.specs.Prelude.{cond, List, [], ◌∷◌, ◌++◌, map, ℕ, zero, suc, get_or, length}
use Rattle.std.proofs.Math.Option.{Option, none, some}
use Rattle.general_laws.specs.Lists.{tabulate}
use Rattle.lifting.specs.Machine.{Out, go, halt}
use Rattle.lifting.specs.Ast.{Value, const, region_input, data_inst_output, eq_value, DataInstKind, inst, call, ext, Op, ControlInstKind, unreachable, return, branch, select_branch, exit_invocation, Node, block, select, loop, exit, ControlInst, Func}
use Rattle.lifting.specs.Parts.{region_of, node_of, op_of, ctrl_of, ins_keys, out_keys, vals_for}
use Rattle.lifting.specs.Instructions.{op_opcode, op_imms}
use Rattle.lifting.specs.World.{World, Executed, End, returned, exited, dead, stuck, Mem, put, puts, reads, reading, truths, pick}

pub data Task : Type 0 where
  op : ℕ → Task
  node : ℕ → Task
  -- at the end of case region c: its outputs into these values
  close : List Value → ℕ → Task
  -- at the end of loop body b: repeat on condition v
  again : ℕ → Value → Task
  -- at the end of root r
  leave : ℕ → Task

pub record RegionState (Val : Type 0) : Type 0 where
  pub todo : List Task
  pub mem : Mem Val Value

abbrev pub callee_id : DataInstKind → Option ℕ
callee_id (inst i) = none
callee_id (call f) = some f
callee_id (ext s n) = some s

-- how an op stands in the executed list
abbrev pub executed_op : {Val : Type 0} → Op → List Val → Executed Val
executed_op o vs = record { opcode = op_opcode o.kind; attrs = o.attrs; type = o.type; imms = op_imms o.kind; callee = callee_id o.kind; vals = vs }

abbrev pub sets : {Val : Type 0} → List Value → List Val → Mem Val Value → Mem Val Value
sets ks vs m = record { env = puts eq_value m.env ks vs; log = m.log }

module _ {Val : Type 0} (W : World Val) where
  -- An op reads its operands and joins the executed list; the n-th there sets its result, if any, from the n-th of the results given.
  abbrev pub set_result : ℕ → (Value → Option Val) → ℕ → ℕ → Value → Option Val
  set_result zero e i n = e
  set_result (suc t) e i n = put eq_value e (data_inst_output i) (W.result n)

  abbrev pub execute : Op → ℕ → List Val → Mem Val Value → Mem Val Value
  execute o i vs m = record { env = set_result o.type m.env i (length m.log); log = m.log ++ (executed_op o vs ∷ []) }

module _ (F : Func) {Val : Type 0} (W : World Val) where
  -- At first only parameters (region 0's inputs) and constants are set.
  abbrev pub at_first : Value → Option Val
  at_first = puts eq_value (puts eq_value (λ v. none) (tabulate const 0 (length F.consts)) (tabulate W.constant 0 (length F.consts)))
      (tabulate (region_input 0) 0 (length F.params)) (tabulate W.arg 0 (length F.params))

  -- Nodes run in order, then what comes at the region's end.
  abbrev pub nodes_then : ℕ → List Task → List Task
  nodes_then r k = map node (region_of F r).nodes ++ k

  -- a block's ops in order; a select reads its scrutinee and runs the case that the rule picks; a loop sets its body's inputs from the
  -- inits and runs the body; an exit reads its values and ends the run
  abbrev pub do_node : Node → ℕ → List Task → Mem Val Value → Out (RegionState Val) (End Val)
  do_node (block is) n k m = go (record { todo = map op is ++ k; mem = m })
  do_node (select s v cs ds u) n k m =
      reading (reads m.env (v ∷ []))
      (λ vs. go (record { todo = nodes_then (get_or cs (pick W s vs (length cs)) 0) (close (out_keys n ds) (get_or cs (pick W s vs (length cs)) 0) ∷ k); mem = m }))
  do_node (loop b c is u) n k m =
      reading (reads m.env is) (λ vs. go (record { todo = nodes_then b (again b c ∷ k); mem = sets (ins_keys F b) vs m }))
  do_node (exit i vs) n k m = reading (reads m.env vs) (λ ws. halt (exited i ws))

  -- the values for the target taken are read into that region's inputs, and that region runs
  abbrev pub enter : ControlInst → ℕ → Mem Val Value → Out (RegionState Val) (End Val)
  enter c r m = reading (reads m.env (vals_for c r)) (λ ws. go (record { todo = nodes_then r (leave r ∷ []); mem = sets (ins_keys F r) ws m }))

  abbrev pub leave_by : ControlInstKind → ControlInst → List Val → Mem Val Value → Out (RegionState Val) (End Val)
  leave_by unreachable c vs m = halt dead
  leave_by return c vs m = halt (returned vs)
  leave_by branch c vs m = enter c (get_or c.to 0 0) m
  leave_by (select_branch k) c vs m = enter c (get_or c.to (pick W k vs (length c.to)) 0) m
  leave_by (exit_invocation i) c vs m = halt (exited i vs)

  -- A ctrl reads its inputs; without ctrl lines region 0's output, if any, is returned at its end.
  abbrev pub do_leave : Option ControlInst → ℕ → Mem Val Value → Out (RegionState Val) (End Val)
  do_leave none r m = reading (reads m.env (region_of F r).outs) (λ vs. halt (returned vs))
  do_leave (some c) r m = reading (reads m.env c.ins) (λ vs. leave_by c.kind c vs m)

  -- after a case its outputs set the outs; after a lap the condition is read, and only if it is true are the body's outputs read into its
  -- inputs for another lap
  abbrev pub do_tasks : List Task → Mem Val Value → Out (RegionState Val) (End Val)
  do_tasks [] m = halt stuck
  do_tasks (op i ∷ k) m = reading (reads m.env (op_of F i).operands) (λ vs. go (record { todo = k; mem = execute W (op_of F i) i vs m }))
  do_tasks (node n ∷ k) m = do_node (node_of F n) n k m
  do_tasks (close ks c ∷ k) m = reading (reads m.env (region_of F c).outs) (λ vs. go (record { todo = k; mem = sets ks vs m }))
  do_tasks (again b c ∷ k) m = reading (reads m.env (c ∷ [])) (λ vs. cond (truths W vs)
      (reading (reads m.env (region_of F b).outs) (λ ws. go (record { todo = nodes_then b (again b c ∷ k); mem = sets (ins_keys F b) ws m })))
      (go (record { todo = k; mem = m })))
  do_tasks (leave r ∷ k) m = do_leave (ctrl_of F r) r m

  abbrev pub region_step : RegionState Val → Out (RegionState Val) (End Val)
  region_step s = do_tasks s.todo s.mem

  abbrev pub region_log : RegionState Val → List (Executed Val)
  region_log s = s.mem.log

  -- Region 0 runs first.
  abbrev pub region_start : RegionState Val
  region_start = record { todo = nodes_then 0 (leave 0 ∷ []); mem = record { env = at_first; log = [] } }
