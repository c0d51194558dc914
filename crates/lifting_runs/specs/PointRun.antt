-- Blocks at points, and the run of blocks over any table of them.
use Rattle.std.specs.Prelude.{List, [], ◌∷◌, ℕ, get_or, length}
use Rattle.general_laws.specs.Lists.{find}
use Rattle.lifting.specs.Ast.{ControlInstKind, Func, Value, branch, exit_invocation, return, select_branch, unreachable}
use Rattle.lifting.specs.Parts.{op_of, vals_or}
use Rattle.lifting.specs.Points.{BlockLifting, CfgPoint, Terminator, eq_point, region_entry}
use Rattle.lifting.specs.Machine.{Out, go, halt}
use Rattle.lifting.specs.World.{End, Executed, Mem, World, dead, exited, pick, reading, reads, returned}
use Rattle.lifting.specs.RegionRun.{at_first, execute, sets}

pub record PointState (Val : Type 0) : Type 0 where
  pub at : CfgPoint
  pub ops : List ℕ
  pub mem : Mem Val Value

module _ (F : Func) {Val : Type 0} (W : World Val) (B : CfgPoint → BlockLifting) where
  -- the values that move along the edge of terminator t to q
  abbrev pub edge : Terminator → CfgPoint → List Value
  edge t q = vals_or (find eq_point q t.vals) (B q).defaults

  abbrev pub jump : Terminator → CfgPoint → Mem Val Value → Out (PointState Val) (End Val)
  jump t q m = reading (reads m.env (edge t q)) (λ ws. go (record { at = q; ops = (B q).ops; mem = sets (B q).keys ws m }))

  abbrev pub point_way : ControlInstKind → Terminator → List Val → Mem Val Value → Out (PointState Val) (End Val)
  point_way unreachable t vs m = halt dead
  point_way return t vs m = halt (returned vs)
  point_way branch t vs m = jump t (get_or t.targets 0 (region_entry 0)) m
  point_way (select_branch k) t vs m = jump t (get_or t.targets (pick W k vs (length t.targets)) (region_entry 0)) m
  point_way (exit_invocation i) t vs m = halt (exited i vs)

  abbrev pub leave_point : Terminator → Mem Val Value → Out (PointState Val) (End Val)
  leave_point t m = reading (reads m.env t.ins) (λ vs. point_way t.kind t vs m)

  abbrev pub do_ops : List ℕ → CfgPoint → Mem Val Value → Out (PointState Val) (End Val)
  do_ops [] p m = leave_point (B p).term m
  do_ops (i ∷ is) p m = reading (reads m.env (op_of F i).operands) (λ vs. go (record { at = p; ops = is; mem = execute W (op_of F i) i vs m }))

  abbrev pub point_step : PointState Val → Out (PointState Val) (End Val)
  point_step s = do_ops s.ops s.at s.mem

  abbrev pub point_log : PointState Val → List (Executed Val)
  point_log s = s.mem.log

  abbrev pub point_start : PointState Val
  point_start = record { at = region_entry 0; ops = (B (region_entry 0)).ops; mem = record { env = at_first F W; log = [] } }
