-- All absorptions, then the drop: the kept table runs like the walk's.
use Rattle.std.specs.Prelude.{◌≡◌, refl, ◌⊎◌, List, [], ◌∷◌, ℕ, zero, suc, ◌<◌, get_or, length}
use Rattle.std.proofs.Common.{sym, ◌∙◌, subst, inl, inr, arith}
use Rattle.std.proofs.Math.Path.{ap}
use Rattle.std.proofs.Math.Option.{Option, some}
use Rattle.general_laws.specs.Lists.{choose, choose_no, find}
use Rattle.lifting.specs.Ast.{ControlInstKind, Func, Value, branch, exit_invocation, return, select_branch, unreachable}
use Rattle.lifting.specs.Parts.{op_of, vals_or}
use Rattle.lifting.specs.Points.{BlockLifting, CfgPoint, Table, Terminator, block_at, block_or, eq_point, region_entry, straight}
use Rattle.lifting.specs.Absorb.{Absorbing, absorb, first_use, absorb_into, keep, keep_if, kept, sole_target, use_count}
use Rattle.lifting.specs.Machine.{Alike, go}
use Rattle.lifting.specs.World.{Mem, World, pick, reading, reads}
use Rattle.lifting.specs.RegionRun.{at_first, execute, sets}
use Rattle.general_laws.specs.Members.{In}
use Rattle.lifting_runs.specs.Each.{after_all, absorbed_by}
use Rattle.lifting_runs.specs.Simulation.{Macro, MeetOut, alike_of, alike_refl, alike_trans, at_once, out_go, out_halt}
use Rattle.lifting_runs.specs.PointRun.{PointState, do_ops, edge, jump, leave_point, point_log, point_start, point_step, point_way}
use Rattle.lifting_runs.specs.Structure.{meet_reading}
use Rattle.lifting_runs.specs.AbsorbRun.{absorbed_alike, in_or_default}
use Rattle.lifting_runs.specs.AbsorbCount.{Unique, absorbed_of, at_uses, block_keys, counts_after, first_after, in_labels, sole_straight, unique_after}

-- two tables that agree at every point that a run can come to
module _ (F : Func) {Val : Type 0} (W : World Val) (B Joined : CfgPoint → BlockLifting) (P : CfgPoint → Type 0)
    (start : P (region_entry 0)) (closed : (q p : CfgPoint) → P q → In p (B q).term.targets → P p) (agree : (q : CfgPoint) → P q → B q ≡ Joined q) where
  data Same : PointState Val → PointState Val → Type 0 where
    same : (q : CfgPoint) (is : List ℕ) (m : Mem Val Value) → P q → Same (record { at = q; ops = is; mem = m }) (record { at = q; ops = is; mem = m })

  same_jump : (e : Terminator) (q : CfgPoint) (m : Mem Val Value) → P q → MeetOut Same (jump F W B e q m) (jump F W Joined e q m)
  same_jump e q m h = subst (λ (x : BlockLifting). MeetOut Same (jump F W B e q m)
      (reading (reads m.env (vals_or (find eq_point q e.vals) x.defaults)) (λ ws. go (record { at = q; ops = x.ops; mem = sets x.keys ws m })))) (agree q h)
      (meet_reading Same (reads m.env (edge F W B e q)) _ _ (λ ws. out_go (same q (B q).ops (sets (B q).keys ws m) h)))

  same_nth : (e : Terminator) (i : ℕ) (m : Mem Val Value) → ((p : CfgPoint) → In p e.targets → P p)
      → MeetOut Same (jump F W B e (get_or e.targets i (region_entry 0)) m) (jump F W Joined e (get_or e.targets i (region_entry 0)) m)
  same_nth e i m h = same_jump e (get_or e.targets i (region_entry 0)) m (by_case (in_or_default e.targets i (region_entry 0)))
    where
      by_case : In (get_or e.targets i (region_entry 0)) e.targets ⊎ (get_or e.targets i (region_entry 0) ≡ region_entry 0) → P (get_or e.targets i (region_entry 0))
      by_case (inl x) = h _ x
      by_case (inr x) = subst P (sym x) start

  same_out : (k : ControlInstKind) (e : Terminator) (vs : List Val) (m : Mem Val Value) → ((p : CfgPoint) → In p e.targets → P p) → MeetOut Same (point_way F W B k e vs m) (point_way F W Joined k e vs m)
  same_out unreachable e vs m h = out_halt
  same_out return e vs m h = out_halt
  same_out branch e vs m h = same_nth e 0 m h
  same_out (select_branch k) e vs m h = same_nth e (pick W k vs (length e.targets)) m h
  same_out (exit_invocation i) e vs m h = out_halt

  same_run : (is : List ℕ) (q : CfgPoint) (m : Mem Val Value) → P q → MeetOut Same (do_ops F W B is q m) (do_ops F W Joined is q m)
  same_run [] q m h = subst (λ (x : BlockLifting). MeetOut Same (leave_point F W B (B q).term m) (leave_point F W Joined x.term m)) (agree q h)
      (meet_reading Same (reads m.env (B q).term.ins) _ _ (λ vs. same_out (B q).term.kind (B q).term vs m (λ p i. closed q p h i)))
  same_run (i ∷ is) q m h = meet_reading Same (reads m.env (op_of F i).operands) _ _ (λ vs. out_go (same q is (execute W (op_of F i) i vs m) h))

  same_log : {x y : PointState Val} → Same x y → point_log F W B x ≡ point_log F W Joined y
  same_log (same q is m h) = refl

  same_macro : {x y : PointState Val} → Same x y → Macro (point_step F W B) (point_log F W B) (point_step F W Joined) (point_log F W Joined) Same x y
  same_macro (same q is m h) = at_once _ _ _ _ _ _ _ (same_run is q m h)

  pub agree_alike : Alike (point_step F W B) (point_log F W B) (point_step F W Joined) (point_log F W Joined) (point_start F W B) (point_start F W Joined)
  agree_alike =
      let m : Mem Val Value = record { env = at_first F W; log = [] } in
      subst (λ (x : BlockLifting). Alike (point_step F W B) (point_log F W B) (point_step F W Joined) (point_log F W Joined) (point_start F W B) (record { at = region_entry 0; ops = x.ops; mem = m })) (agree (region_entry 0) start)
      (alike_of _ _ _ _ Same (record { same_log = same_log; macro = same_macro }) (same (region_entry 0) (B (region_entry 0)).ops m start))

-- what stays true while blocks are absorbed
pub record Tidy (T : Table) : Type 0 where
  pub starts : first_use T (region_entry 0) ≡ 1
  pub unique : Unique T
  pub no_phis : (q : CfgPoint) → (block_at T q).keys ≡ [] → (block_at T q).defaults ≡ []

pub record Kept (F : Func) {Val : Type 0} (W : World Val) (T : Table) (s : Absorbing) : Type 0 where
  pub tidy : Tidy s.table
  pub counted : (q : CfgPoint) → s.counts q ≡ use_count s.table q
  pub alike : Alike (point_step F W (block_at T)) (point_log F W (block_at T)) (point_step F W (block_at s.table)) (point_log F W (block_at s.table))
      (point_start F W (block_at T)) (point_start F W (block_at s.table))

module _ (F : Func) {Val : Type 0} (W : World Val) (T : Table) where
  one_more : (b t : CfgPoint) (s : Absorbing) → Kept F W T s → sole_target (block_at s.table b).term ≡ some t → s.counts t ≡ 1 → (block_at s.table t).keys ≡ [] → Kept F W T (absorbed_by b t s)
  one_more b t s k e u ks =
      let U = s.table in
      let c = block_at U t in
      let l : (block_at U b).term ≡ straight t = sole_straight (block_at U b).term t e in
      let u_right : use_count U t ≡ 1 = sym (k.counted t) ∙ u in
      record {
        tidy = record {
          starts = first_after b t c U (region_entry 0) ∙ k.tidy.starts;
          unique = unique_after b t c U k.tidy.unique;
          no_phis = λ q h. let w = block_keys b t c U q in w.1 ∙ k.tidy.no_phis q (sym w.0 ∙ h);
        };
        counted = λ q. ap (λ (n : ℕ). choose (eq_point q t) 0 n) (k.counted q) ∙ counts_after U b t q k.tidy.unique l u_right;
        alike = alike_trans k.alike
            (absorbed_alike F W (block_at U) (block_at (absorb_into b t c U)) b t (absorbed_of U b t k.tidy.starts l u_right ks (k.tidy.no_phis t ks)));
      }

  pub absorb_kept : Tidy T → Kept F W T (absorb T)
  unfolding use_count
  absorb_kept t = after_all (Kept F W T) one_more T (record { tidy = t; counted = λ q. refl; alike = alike_refl })

-- dropping points of count 0
pub find_keep : (c : CfgPoint → ℕ) (T : Table) (q : CfgPoint) → 0 < c q → find eq_point q (keep c T) ≡ find eq_point q T
find_keep c [] q h = refl
find_keep c (x ∷ T) q h = by_case (c x.0) refl (find_keep c T q h)
  where
    by_case : (n : ℕ) → c x.0 ≡ n → find eq_point q (keep c T) ≡ find eq_point q T
        → find eq_point q (keep_if n x (keep c T)) ≡ choose (eq_point q x.0) (some x.1) (find eq_point q T)
    by_case zero e ih = ih ∙ sym (choose_no (eq_point q x.0) (some x.1) (find eq_point q T) (λ y. omega (arith, ap c y)))
    by_case (suc n) e ih = ap (λ (o : Option BlockLifting). choose (eq_point q x.0) (some x.1) o) ih

module _ (F : Func) {Val : Type 0} (W : World Val) where
  keep_alike : (T : Table) (c : CfgPoint → ℕ) → ((q : CfgPoint) → c q ≡ use_count T q) → first_use T (region_entry 0) ≡ 1
      → Alike (point_step F W (block_at T)) (point_log F W (block_at T)) (point_step F W (block_at (keep c T))) (point_log F W (block_at (keep c T)))
      (point_start F W (block_at T)) (point_start F W (block_at (keep c T)))
  unfolding use_count
  keep_alike T c h st = agree_alike F W (block_at T) (block_at (keep c T)) (λ q. 0 < c q)
      (omega (arith, h (region_entry 0), st))
      (λ q p n i. omega (arith, h p, in_labels p (block_at T q).term i, at_uses T q p))
      (λ q n. ap block_or (sym (find_keep c T q n)))

  -- the run of the points and that of the kept blocks are alike
  pub points_kept : (T : Table) → Tidy T → Alike (point_step F W (block_at T)) (point_log F W (block_at T)) (point_step F W (block_at (kept T))) (point_log F W (block_at (kept T)))
      (point_start F W (block_at T)) (point_start F W (block_at (kept T)))
  unfolding kept
  points_kept T t =
      let k = absorb_kept F W T t in
      alike_trans k.alike (keep_alike (absorb T).table (absorb T).counts k.counted k.tidy.starts)
