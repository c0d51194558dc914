-- Document 02, W4: execution never depends on the control numbers of merges. Two functions that differ in them only have the same region run, step by
-- step, in any world. So, by demand 3, in each world where constants of opcode 41 are true the regions of one run as the blocks of the other's list
-- do, and the blocks of their two lists run alike. Assumes nothing.
use Rattle.std.specs.Prelude.{◌≡◌, refl, true, List, [], ◌∷◌, ℕ}
use Rattle.std.proofs.Common.{sym, ap, ◌∙◌, subst}
use Rattle.std.proofs.Math.Option.{some}
use Rattle.lifting.specs.Ast.{Value, Node, block, select, loop, exit, Region, Func}
use Rattle.lifting.specs.Grammar.{read}
use Rattle.lifting.specs.Parts.{has_body, node_of}
use Rattle.lifting.specs.Words.{list_from}
use Rattle.lifting.specs.Answer.{answer, listed}
use Rattle.lifting.specs.Machine.{Out, Alike}
use Rattle.lifting.specs.World.{End, Mem, World}
use Rattle.lifting.specs.RegionRun.{RegionState, Task, op, node, close, again, leave, do_node, do_tasks, region_log, region_start, region_step}
use Rattle.lifting.specs.BlockRun.{block_log, block_start, block_step, parts}
use Rattle.lifting.specs.Instructions.{Instruction}
use Rattle.lifting.specs.Runs.{AlikeRuns, TrueConstants}
use Rattle.lifting_runs.proofs.Demand3.{demand_3}
use Rattle.lifting_runs.specs.Controls.{cleared_node, controls_cleared, SameButControls, node_cleared}

module _ (F : Func) {Val : Type 0} (W : World Val) where
  cleared_node_law : (d : Node) (n : ℕ) (k : List Task) (m : Mem Val Value) → do_node (controls_cleared F) W (cleared_node d) n k m ≡ do_node F W d n k m
  cleared_node_law (block is) n k m = refl
  cleared_node_law (select s v cs ds u) n k m = refl
  cleared_node_law (loop b c is u) n k m = refl
  cleared_node_law (exit i vs) n k m = refl

  cleared_tasks : (k : List Task) (m : Mem Val Value) → do_tasks (controls_cleared F) W k m ≡ do_tasks F W k m
  cleared_tasks [] m = refl
  cleared_tasks (op i ∷ k) m = refl
  cleared_tasks (node n ∷ k) m =
      ap (λ (d : Node). do_node (controls_cleared F) W d n k m) (node_cleared F n) ∙ cleared_node_law (node_of F n) n k m
  cleared_tasks (close ks c ∷ k) m = refl
  cleared_tasks (again b c ∷ k) m = refl
  cleared_tasks (leave r ∷ k) m = refl

  cleared_step : (s : RegionState Val) → region_step (controls_cleared F) W s ≡ region_step F W s
  cleared_step s = cleared_tasks s.todo s.mem

  cleared_runs : (l : List Instruction) → AlikeRuns (controls_cleared F) l W ≡ AlikeRuns F l W
  cleared_runs l = ap (λ (step : RegionState Val → Out (RegionState Val) (End Val)). Alike step (region_log F W) (block_step W (parts l).blocks) (block_log W (parts l).blocks) (region_start F W) (block_start W F.consts l)) (λ i s. cleared_step s i)

module _ (F G : Func) (same : SameButControls F G) {Val : Type 0} (W : World Val) where
  -- the same region run: from the same state, by the same steps
  pub same_start : region_start F W ≡ region_start G W
  same_start = ap (λ (H : Func). region_start H W) same

  pub same_step : (s : RegionState Val) → region_step F W s ≡ region_step G W s
  same_step s = sym (cleared_step F W s) ∙ ap (λ (H : Func). region_step H W s) same ∙ cleared_step G W s

  same_runs : (l : List Instruction) → AlikeRuns F l W → AlikeRuns G l W
  same_runs l h = subst (λ (A : Type 0). A) (sym (cleared_runs F W l) ∙ ap (λ (H : Func). AlikeRuns H l W) same ∙ cleared_runs G W l) h

-- two runs that are like a third
both_alike : {R S T H L : Type 0} {step_r : R → Out R H} {log_r : R → L} {step_s : S → Out S H} {log_s : S → L} {step_t : T → Out T H} {log_t : T → L} {r : R} {s : S} {t : T}
    → Alike step_r log_r step_s log_s r s → Alike step_r log_r step_t log_t r t → Alike step_s log_s step_t log_t s t
both_alike a b = record {
  reach_right = λ l x. b.reach_right l (a.reach_left l x);
  reach_left = λ l x. a.reach_right l (b.reach_left l x);
  end_right = λ h l x. b.end_right h l (a.end_left h l x);
  end_left = λ h l x. a.end_right h l (b.end_left h l x);
}

-- The list of an accepted text F, run beside the regions of a function G that differs from F in control numbers only.
module _ (text : List ℕ) (first func work out : ℕ) (ws : List ℕ) (next : ℕ) (ok : answer text first func work out ≡ listed ws next)
    (F : Func) (is : read text ≡ some F) (body : has_body F.regions ≡ true) (G : Func) (same : SameButControls F G) {Val : Type 0} (W : World Val) where
  pub regions_of_another : TrueConstants G W → AlikeRuns G (list_from ws) W
  regions_of_another t =
      same_runs F G same W (list_from ws)
      (demand_3 text first func work out ws next ok F is body W (subst (λ (H : Func). TrueConstants H W) (sym same) t))

-- Two accepted texts that differ in control numbers only: the blocks of their lists run alike.
pub blocks_of_both : (text : List ℕ) (first func work out : ℕ) (ws : List ℕ) (next : ℕ) → answer text first func work out ≡ listed ws next → (F : Func) → read text ≡ some F
    → (text2 : List ℕ) (first2 func2 work2 out2 : ℕ) (ws2 : List ℕ) (next2 : ℕ) → answer text2 first2 func2 work2 out2 ≡ listed ws2 next2 → (G : Func) → read text2 ≡ some G
    → SameButControls F G → has_body G.regions ≡ true → {Val : Type 0} (W : World Val) → TrueConstants G W
    → Alike (block_step W (parts (list_from ws)).blocks) (block_log W (parts (list_from ws)).blocks) (block_step W (parts (list_from ws2)).blocks) (block_log W (parts (list_from ws2)).blocks)
    (block_start W G.consts (list_from ws)) (block_start W G.consts (list_from ws2))
blocks_of_both text first func work out ws next ok F is text2 first2 func2 work2 out2 ws2 next2 ok2 G is2 same body W t =
    both_alike
    (regions_of_another text first func work out ws next ok F is (subst (λ (rs : List Region). has_body rs ≡ true) (sym (ap (λ (H : Func). H.regions) same)) body) G same W t)
    (demand_3 text2 first2 func2 work2 out2 ws2 next2 ok2 G is2 body W t)
