-- A table in which a block has absorbed its target runs like the table before.
use Rattle.std.specs.Prelude.{◌≡◌, refl, ◌⊎◌, List, [], ◌∷◌, ◌++◌, ℕ, zero, suc, get_or, length}
use Rattle.std.proofs.Common.{sym, ap, ◌∙◌, subst, inl, inr}
use Rattle.general_laws.specs.Lists.{find}
use Rattle.lifting.specs.Ast.{ControlInstKind, Func, Value, branch, exit_invocation, return, select_branch, unreachable}
use Rattle.lifting.specs.Parts.{op_of, vals_or}
use Rattle.lifting.specs.Points.{BlockLifting, CfgPoint, Terminator, eq_point, region_entry, straight}
use Rattle.lifting.specs.Absorb.{joined}
use Rattle.lifting.specs.Machine.{Alike, Out, go}
use Rattle.lifting.specs.World.{End, Mem, World, pick, reading, reads}
use Rattle.lifting.specs.RegionRun.{at_first, execute, sets}
use Rattle.general_laws.specs.Members.{In, here, there}
use Rattle.lifting_runs.specs.Simulation.{Macro, MeetOut, alike_of, at_once, left_first, out_go, out_halt}
use Rattle.lifting_runs.specs.PointRun.{PointState, edge, jump, leave_point, point_log, point_start, point_step, point_way}
use Rattle.lifting_runs.specs.Structure.{meet_reading}

pub in_or_default : {A : Type 0} (l : List A) (i : ℕ) (d : A) → In (get_or l i d) l ⊎ (get_or l i d ≡ d)
in_or_default [] i d = inr refl
in_or_default (x ∷ l) zero d = inl here
in_or_default (x ∷ l) (suc i) d = elim (in_or_default l i d) [ inl h ↦ inl (there h) | inr e ↦ inr e ]

-- Joined is B after b has absorbed t
pub record Absorbed (B Joined : CfgPoint → BlockLifting) (b t : CfgPoint) : Type 0 where
  pub leads : (B b).term ≡ straight t
  pub no_keys_law : (B t).keys ≡ []
  pub no_defaults : (B t).defaults ≡ []
  pub only : (q p : CfgPoint) → ¬ (q ≡ b) → In p (B q).term.targets → ¬ (p ≡ t)
  pub not_first : ¬ (region_entry 0 ≡ t)
  pub at_b : ¬ (b ≡ t) → Joined b ≡ joined (B b) (B t)
  pub elsewhere : (q : CfgPoint) → ¬ (q ≡ t) → ¬ (q ≡ b) → Joined q ≡ B q

module _ (F : Func) {Val : Type 0} (W : World Val) (B Joined : CfgPoint → BlockLifting) (b t : CfgPoint) (ab : Absorbed B Joined b t) where
  data AbsorbedInto : PointState Val → PointState Val → Type 0 where
    alone : (q : CfgPoint) (is : List ℕ) (m : Mem Val Value) → ¬ (q ≡ t) → ¬ (q ≡ b) → AbsorbedInto (record { at = q; ops = is; mem = m }) (record { at = q; ops = is; mem = m })
    head : (is : List ℕ) (m : Mem Val Value) → ¬ (b ≡ t) → AbsorbedInto (record { at = b; ops = is; mem = m }) (record { at = b; ops = is ++ (B t).ops; mem = m })
    inner : (is : List ℕ) (m : Mem Val Value) → ¬ (b ≡ t) → AbsorbedInto (record { at = t; ops = is; mem = m }) (record { at = b; ops = is; mem = m })

  abbrev jump_to : BlockLifting → Terminator → CfgPoint → Mem Val Value → Out (PointState Val) (End Val)
  jump_to x e q m = reading (reads m.env (vals_or (find eq_point q e.vals) x.defaults)) (λ ws. go (record { at = q; ops = x.ops; mem = sets x.keys ws m }))

  jump_b : (e : Terminator) (m : Mem Val Value) → ¬ (b ≡ t) → MeetOut AbsorbedInto (jump F W B e b m) (jump F W Joined e b m)
  jump_b e m n = subst (λ (x : BlockLifting). MeetOut AbsorbedInto (jump F W B e b m) (jump_to x e b m)) (sym (ab.at_b n))
      (meet_reading AbsorbedInto (reads m.env (edge F W B e b)) _ _ (λ ws. out_go (head (B b).ops (sets (B b).keys ws m) n)))

  jump_q : (e : Terminator) (q : CfgPoint) (m : Mem Val Value) → ¬ (q ≡ t) → MeetOut AbsorbedInto (jump F W B e q m) (jump F W Joined e q m)
  jump_q e q m n = by_case (eq_point q b)
    where
      by_case : Dec (q ≡ b) → MeetOut AbsorbedInto (jump F W B e q m) (jump F W Joined e q m)
      by_case (yes p) = subst (λ (x : CfgPoint). MeetOut AbsorbedInto (jump F W B e x m) (jump F W Joined e x m)) (sym p) (jump_b e m (λ bt. n (p ∙ bt)))
      by_case (no np) = subst (λ (x : BlockLifting). MeetOut AbsorbedInto (jump F W B e q m) (jump_to x e q m)) (sym (ab.elsewhere q n np))
          (meet_reading AbsorbedInto (reads m.env (edge F W B e q)) _ _ (λ ws. out_go (alone q (B q).ops (sets (B q).keys ws m) n np)))

  jump_nth : (e : Terminator) (i : ℕ) (m : Mem Val Value) → ((p : CfgPoint) → In p e.targets → ¬ (p ≡ t))
      → MeetOut AbsorbedInto (jump F W B e (get_or e.targets i (region_entry 0)) m) (jump F W Joined e (get_or e.targets i (region_entry 0)) m)
  jump_nth e i m h = jump_q e (get_or e.targets i (region_entry 0)) m (by_case (in_or_default e.targets i (region_entry 0)))
    where
      by_case : In (get_or e.targets i (region_entry 0)) e.targets ⊎ (get_or e.targets i (region_entry 0) ≡ region_entry 0) → ¬ (get_or e.targets i (region_entry 0) ≡ t)
      by_case (inl x) = h _ x
      by_case (inr x) = λ y. ab.not_first (sym x ∙ y)

  out_by : (k : ControlInstKind) (e : Terminator) (vs : List Val) (m : Mem Val Value) → ((p : CfgPoint) → In p e.targets → ¬ (p ≡ t))
      → MeetOut AbsorbedInto (point_way F W B k e vs m) (point_way F W Joined k e vs m)
  out_by unreachable e vs m h = out_halt
  out_by return e vs m h = out_halt
  out_by branch e vs m h = jump_nth e 0 m h
  out_by (select_branch k) e vs m h = jump_nth e (pick W k vs (length e.targets)) m h
  out_by (exit_invocation i) e vs m h = out_halt

  leaving : (e : Terminator) (m : Mem Val Value) → ((p : CfgPoint) → In p e.targets → ¬ (p ≡ t)) → MeetOut AbsorbedInto (leave_point F W B e m) (leave_point F W Joined e m)
  leaving e m h = meet_reading AbsorbedInto (reads m.env e.ins) _ _ (λ vs. out_by e.kind e vs m h)

  abbrev Big : PointState Val → PointState Val → Type 0
  Big = Macro (point_step F W B) (point_log F W B) (point_step F W Joined) (point_log F W Joined) AbsorbedInto

  hop : (m : Mem Val Value) → point_step F W B (record { at = b; ops = []; mem = m }) ≡ go (record { at = t; ops = (B t).ops; mem = m })
  hop m = ap (λ (e : Terminator). leave_point F W B e m) ab.leads
      ∙ ap (λ (vs : List Value). reading (reads m.env vs) (λ ws. go (record { at = t; ops = (B t).ops; mem = sets (B t).keys ws m }))) ab.no_defaults
      ∙ ap (λ (ks : List Value). go (record { at = t; ops = (B t).ops; mem = sets ks [] m })) ab.no_keys_law

  run_inner : (is : List ℕ) (m : Mem Val Value) → ¬ (b ≡ t) → Big (record { at = t; ops = is; mem = m }) (record { at = b; ops = is; mem = m })
  run_inner [] m n = at_once _ _ _ _ _ _ _
      (subst (λ (x : BlockLifting). MeetOut AbsorbedInto (leave_point F W B (B t).term m) (leave_point F W Joined x.term m)) (sym (ab.at_b n))
      (leaving (B t).term m (λ p i. ab.only t p (λ e. n (sym e)) i)))
  run_inner (i ∷ is) m n = at_once _ _ _ _ _ _ _ (meet_reading AbsorbedInto (reads m.env (op_of F i).operands) _ _ (λ vs. out_go (inner is (execute W (op_of F i) i vs m) n)))

  run_head : (is : List ℕ) (m : Mem Val Value) → ¬ (b ≡ t) → Big (record { at = b; ops = is; mem = m }) (record { at = b; ops = is ++ (B t).ops; mem = m })
  run_head [] m n = left_first _ _ _ _ _ (hop m) refl (run_inner (B t).ops m n)
  run_head (i ∷ is) m n = at_once _ _ _ _ _ _ _ (meet_reading AbsorbedInto (reads m.env (op_of F i).operands) _ _ (λ vs. out_go (head is (execute W (op_of F i) i vs m) n)))

  run_alone : (q : CfgPoint) (is : List ℕ) (m : Mem Val Value) → ¬ (q ≡ t) → ¬ (q ≡ b) → Big (record { at = q; ops = is; mem = m }) (record { at = q; ops = is; mem = m })
  run_alone q [] m nt nb = at_once _ _ _ _ _ _ _
      (subst (λ (x : BlockLifting). MeetOut AbsorbedInto (leave_point F W B (B q).term m) (leave_point F W Joined x.term m)) (sym (ab.elsewhere q nt nb))
      (leaving (B q).term m (λ p i. ab.only q p nb i)))
  run_alone q (i ∷ is) m nt nb = at_once _ _ _ _ _ _ _ (meet_reading AbsorbedInto (reads m.env (op_of F i).operands) _ _ (λ vs. out_go (alone q is (execute W (op_of F i) i vs m) nt nb)))

  into_log : {x y : PointState Val} → AbsorbedInto x y → point_log F W B x ≡ point_log F W Joined y
  into_log (alone q is m nt nb) = refl
  into_log (head is m n) = refl
  into_log (inner is m n) = refl

  into_macro : {x y : PointState Val} → AbsorbedInto x y → Big x y
  into_macro (alone q is m nt nb) = run_alone q is m nt nb
  into_macro (head is m n) = run_head is m n
  into_macro (inner is m n) = run_inner is m n

  at_start : Dec (region_entry 0 ≡ b) → AbsorbedInto (point_start F W B) (point_start F W Joined)
  at_start (yes e) =
      let m : Mem Val Value = record { env = at_first F W; log = [] } in
      let n : ¬ (b ≡ t) = λ x. ab.not_first (e ∙ x) in
      let f : AbsorbedInto (record { at = b; ops = (B b).ops; mem = m }) (record { at = b; ops = (Joined b).ops; mem = m })
      = subst (λ (x : BlockLifting). AbsorbedInto (record { at = b; ops = (B b).ops; mem = m }) (record { at = b; ops = x.ops; mem = m })) (sym (ab.at_b n)) (head (B b).ops m n) in
      subst (λ (q : CfgPoint). AbsorbedInto (record { at = q; ops = (B q).ops; mem = m }) (record { at = q; ops = (Joined q).ops; mem = m })) (sym e) f
  at_start (no n) =
      let m : Mem Val Value = record { env = at_first F W; log = [] } in
      subst (λ (x : BlockLifting). AbsorbedInto (record { at = region_entry 0; ops = (B (region_entry 0)).ops; mem = m }) (record { at = region_entry 0; ops = x.ops; mem = m }))
      (sym (ab.elsewhere (region_entry 0) ab.not_first n)) (alone (region_entry 0) (B (region_entry 0)).ops m ab.not_first n)

  pub absorbed_alike : Alike (point_step F W B) (point_log F W B) (point_step F W Joined) (point_log F W Joined) (point_start F W B) (point_start F W Joined)
  absorbed_alike = alike_of _ _ _ _ AbsorbedInto (record { same_log = into_log; macro = into_macro }) (at_start (eq_point (region_entry 0) b))
