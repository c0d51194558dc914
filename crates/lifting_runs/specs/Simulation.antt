-- Two machines run alike where a relation between their states is kept: each side may take quiet steps, which leave the log alone, and
-- then both step, or both end in the same way. Assumes nothing.
use Rattle.std.specs.Prelude.{◌≡◌, refl, ℕ, zero, suc, ◌≤◌}
use Rattle.std.proofs.Common.{sym, ap, ◌∙◌, arith}
use Rattle.lifting.specs.Machine.{Alike, Ends, Out, Reaches, state_after, go, halt, onward}

module _ {S H L : Type 0} (step : S → Out S H) (log : S → L) where
  -- steps that leave the log alone
  pub data Quiet : S → S → Type 0 where
    rest : {s : S} → Quiet s s
    tick : {s t u : S} → step s ≡ go t → log t ≡ log s → Quiet t u → Quiet s u

  pub after_go : (k : ℕ) {s t : S} → step s ≡ go t → state_after step (suc k) s ≡ state_after step k t
  after_go k {s} {t} e = ap (λ (o : Out S H). state_after step k (onward o s)) e

  pub after_halt : (k : ℕ) {s : S} {h : H} → step s ≡ halt h → state_after step k s ≡ s
  after_halt zero e = refl
  after_halt (suc k) {s} e = ap (λ (o : Out S H). state_after step k (onward o s)) e ∙ after_halt k e

  pub quiet_log : {s t : S} → Quiet s t → log t ≡ log s
  quiet_log rest = refl
  quiet_log (tick e l q) = quiet_log q ∙ l

  pub quiet_after : {s t : S} → Quiet s t → (j : ℕ) → (k : ℕ) × (state_after step k s ≡ state_after step j t)
  quiet_after rest j = (j, refl)
  quiet_after (tick e l q) j = let r = quiet_after q j in (suc r.0, after_go r.0 e ∙ r.1)

  pub quiet_join : {s t u : S} → Quiet s t → Quiet t u → Quiet s u
  quiet_join rest r = r
  quiet_join (tick e l q) r = tick e l (quiet_join q r)

module _ {S T H L : Type 0} (step_s : S → Out S H) (log_s : S → L) (step_t : T → Out T H) (log_t : T → L) where
  -- where the two come together again: both step and stay related, or both end alike
  pub data Meet (R : S → T → Type 0) : S → T → Type 0 where
    both_go : {s : S} {t : T} (s_next : S) (t_next : T) → step_s s ≡ go s_next → step_t t ≡ go t_next → R s_next t_next → Meet R s t
    both_halt : {s : S} {t : T} (h : H) → step_s s ≡ halt h → step_t t ≡ halt h → Meet R s t

  pub record Macro (R : S → T → Type 0) (s : S) (t : T) : Type 0 where
    pub left : S
    pub right : T
    pub quiet_left : Quiet step_s log_s s left
    pub quiet_right : Quiet step_t log_t t right
    pub meet : Meet R left right

  pub record Simulation (R : S → T → Type 0) : Type 0 where
    pub same_log : {s : S} {t : T} → R s t → log_s s ≡ log_t t
    pub macro : {s : S} {t : T} → R s t → Macro R s t

go_halt : {S H : Type 0} {t : S} {h : H} → go t ≡ halt h → ⊥
go_halt {S} {H} {t} {h} e = let z : ◌≡◌ {A = ℕ} 0 1 = cc in omega arith

halt_inj : {S H : Type 0} {h g : H} → ◌≡◌ {A = Out S H} (halt h) (halt g) → h ≡ g
halt_inj e = cc

-- what one side does in k steps, the other does too
module _ {S T H L : Type 0} (step_s : S → Out S H) (log_s : S → L) (step_t : T → Out T H) (log_t : T → L) (R : S → T → Type 0) where
  reach_by_quiet : {s s_next : S} {t t_next : T} (k : ℕ) → Quiet step_s log_s s s_next → Quiet step_t log_t t t_next → log_s s ≡ log_t t
      → Meet step_s log_s step_t log_t R s_next t_next
      → ((m : ℕ) → suc m ≤ k → (a : S) (b : T) → R a b → Reaches step_t log_t b (log_s (state_after step_s m a)))
      → Reaches step_t log_t t (log_s (state_after step_s k s))
  reach_by_quiet zero q r l m ih = (0, sym l)
  reach_by_quiet {t} (suc k) rest r l (both_go a b e f ab) ih =
      let w = ih k (omega arith) a b ab in
      let z = quiet_after step_t log_t r (suc w.0) in
      (z.0, ap log_t (z.1 ∙ after_go step_t log_t w.0 f) ∙ w.1 ∙ ap log_s (sym (after_go step_s log_s k e)))
  reach_by_quiet (suc k) rest r l (both_halt h e f) ih = (0, sym l ∙ ap log_s (sym (after_halt step_s log_s (suc k) e)))
  reach_by_quiet {s = s} {s_next = s_next} {t = t} {t_next = t_next} (suc k) (tick {t = t'} e g q) r l m ih =
      let w = reach_by_quiet {s = t'} {s_next = s_next} {t = t} {t_next = t_next} k q r (g ∙ l) m (λ m h. ih m (omega arith)) in
      (w.0, w.1 ∙ ap log_s (sym (after_go step_s log_s k e)))

  end_by_quiet : {s s_next : S} {t t_next : T} (h : H) (k : ℕ) → Quiet step_s log_s s s_next → Quiet step_t log_t t t_next → log_s s ≡ log_t t
      → Meet step_s log_s step_t log_t R s_next t_next
      → ((m : ℕ) → suc m ≤ k → (a : S) (b : T) → R a b → step_s (state_after step_s m a) ≡ halt h
      → Ends step_t log_t b h (log_s (state_after step_s m a)))
      → step_s (state_after step_s k s) ≡ halt h
      → Ends step_t log_t t h (log_s (state_after step_s k s))
  end_by_quiet h zero rest r l (both_go a b e f ab) ih x = absurd (go_halt (sym e ∙ x))
  end_by_quiet h (suc k) rest r l (both_go a b e f ab) ih x =
      let w = ih k (omega arith) a b ab (ap step_s (sym (after_go step_s log_s k e)) ∙ x) in
      let z = quiet_after step_t log_t r (suc w.0) in
      let p = z.1 ∙ after_go step_t log_t w.0 f in
      (z.0, ap step_t p ∙ w.1, ap log_t p ∙ w.2 ∙ ap log_s (sym (after_go step_s log_s k e)))
  end_by_quiet h k rest r l (both_halt g e f) ih x =
      let c = halt_inj (sym e ∙ ap step_s (sym (after_halt step_s log_s k e)) ∙ x) in
      let z = quiet_after step_t log_t r 0 in
      (z.0, ap step_t z.1 ∙ f ∙ ap halt c, ap log_t z.1 ∙ quiet_log step_t log_t r ∙ sym l ∙ ap log_s (sym (after_halt step_s log_s k e)))
  end_by_quiet h zero (tick e g q) r l m ih x = absurd (go_halt (sym e ∙ x))
  end_by_quiet h (suc k) (tick e g q) r l m ih x =
      let w = end_by_quiet h k q r (g ∙ l) m (λ m n. ih m (omega arith)) (ap step_s (sym (after_go step_s log_s k e)) ∙ x) in
      (w.0, w.1, w.2 ∙ ap log_s (sym (after_go step_s log_s k e)))

  module _ (sim : Simulation step_s log_s step_t log_t R) where
    reach_n : (n k : ℕ) → k ≤ n → (s : S) (t : T) → R s t → Reaches step_t log_t t (log_s (state_after step_s k s))
    reach_n zero k h s t r =
        let m = sim.macro r in
        reach_by_quiet k m.quiet_left m.quiet_right (sim.same_log r) m.meet (λ m c. absurd (omega arith))
    reach_n (suc n) k h s t r =
        let m = sim.macro r in
        reach_by_quiet k m.quiet_left m.quiet_right (sim.same_log r) m.meet (λ m c. reach_n n m (omega arith))

    end_n : (h : H) (n k : ℕ) → k ≤ n → (s : S) (t : T) → R s t → step_s (state_after step_s k s) ≡ halt h
        → Ends step_t log_t t h (log_s (state_after step_s k s))
    end_n h zero k b s t r =
        let m = sim.macro r in
        end_by_quiet h k m.quiet_left m.quiet_right (sim.same_log r) m.meet (λ m c. absurd (omega arith))
    end_n h (suc n) k b s t r =
        let m = sim.macro r in
        end_by_quiet h k m.quiet_left m.quiet_right (sim.same_log r) m.meet (λ m c. end_n h n m (omega arith))

    pub reach_along : {s : S} {t : T} → R s t → (l : L) → Reaches step_s log_s s l → Reaches step_t log_t t l
    reach_along {s} {t} r l w = let z = reach_n w.0 w.0 (omega arith) s t r in (z.0, z.1 ∙ w.1)

    pub end_along : {s : S} {t : T} → R s t → (h : H) (l : L) → Ends step_s log_s s h l → Ends step_t log_t t h l
    end_along {s} {t} r h l w = let z = end_n h w.0 w.0 (omega arith) s t r w.1 in (z.0, z.1, z.2 ∙ w.2)

module _ {S T H L : Type 0} (step_s : S → Out S H) (log_s : S → L) (step_t : T → Out T H) (log_t : T → L) (R : S → T → Type 0)
    (sim : Simulation step_s log_s step_t log_t R) where
  abbrev Back : T → S → Type 0
  Back t s = R s t

  flip_meet : {s : S} {t : T} → Meet step_s log_s step_t log_t R s t → Meet step_t log_t step_s log_s Back t s
  flip_meet (both_go a b e f r) = both_go b a f e r
  flip_meet (both_halt h e f) = both_halt h f e

  flip : Simulation step_t log_t step_s log_s Back
  flip = record {
    same_log = λ r. sym (sim.same_log r);
    macro = λ r. let m = sim.macro r in record { left = m.right; right = m.left; quiet_left = m.quiet_right; quiet_right = m.quiet_left; meet = flip_meet m.meet };
  }

  pub alike_of : {s : S} {t : T} → R s t → Alike step_s log_s step_t log_t s t
  alike_of r = record {
    reach_right = reach_along step_s log_s step_t log_t R sim r;
    reach_left = reach_along step_t log_t step_s log_s Back flip r;
    end_right = end_along step_s log_s step_t log_t R sim r;
    end_left = end_along step_t log_t step_s log_s Back flip r;
  }

pub alike_refl : {S H L : Type 0} {step : S → Out S H} {log : S → L} {s : S} → Alike step log step log s s
alike_refl = record { reach_right = λ l x. x; reach_left = λ l x. x; end_right = λ h l x. x; end_left = λ h l x. x }

pub alike_trans : {S T U H L : Type 0} {step_s : S → Out S H} {log_s : S → L} {step_t : T → Out T H} {log_t : T → L} {step_u : U → Out U H} {log_u : U → L}
    {s : S} {t : T} {u : U} → Alike step_s log_s step_t log_t s t → Alike step_t log_t step_u log_u t u → Alike step_s log_s step_u log_u s u
alike_trans a b = record {
  reach_right = λ l x. b.reach_right l (a.reach_right l x);
  reach_left = λ l x. a.reach_left l (b.reach_left l x);
  end_right = λ h l x. b.end_right h l (a.end_right h l x);
  end_left = λ h l x. a.end_left h l (b.end_left h l x);
}

-- the same by what the two steps give
pub data MeetOut {S T H : Type 0} (R : S → T → Type 0) : Out S H → Out T H → Type 0 where
  out_go : {s : S} {t : T} → R s t → MeetOut R (go s) (go t)
  out_halt : {h : H} → MeetOut R (halt h) (halt h)

module _ {S T H L : Type 0} (step_s : S → Out S H) (log_s : S → L) (step_t : T → Out T H) (log_t : T → L) (R : S → T → Type 0) where
  meet_eq : {s : S} {t : T} {x : Out S H} {y : Out T H} → step_s s ≡ x → step_t t ≡ y → MeetOut R x y → Meet step_s log_s step_t log_t R s t
  meet_eq e f (out_go {s = a} {t = b} r) = both_go a b e f r
  meet_eq e f (out_halt {h}) = both_halt h e f

  -- both step at once
  pub at_once : (s : S) (t : T) → MeetOut R (step_s s) (step_t t) → Macro step_s log_s step_t log_t R s t
  at_once s t m = record { left = s; right = t; quiet_left = rest; quiet_right = rest; meet = meet_eq refl refl m }

  -- the right side goes ahead by a quiet step
  pub right_first : {s : S} {t t_next : T} → step_t t ≡ go t_next → log_t t_next ≡ log_t t → Macro step_s log_s step_t log_t R s t_next → Macro step_s log_s step_t log_t R s t
  right_first e l m = record { left = m.left; right = m.right; quiet_left = m.quiet_left; quiet_right = tick e l m.quiet_right; meet = m.meet }

  pub left_first : {s s_next : S} {t : T} → step_s s ≡ go s_next → log_s s_next ≡ log_s s → Macro step_s log_s step_t log_t R s_next t → Macro step_s log_s step_t log_t R s t
  left_first e l m = record { left = m.left; right = m.right; quiet_left = tick e l m.quiet_left; quiet_right = m.quiet_right; meet = m.meet }
