-- Runs of deterministic machines with a log: what a run reaches, how it ends, and when two runs are alike. Assumes nothing.
use Rattle.std.specs.Prelude.{◌≡◌, ℕ, zero, suc}

-- one step: on to a state, or the end in a way
pub data Out (S H : Type 0) : Type 0 where
  go : S → Out S H
  halt : H → Out S H

-- a machine that has come to an end stays where it is
abbrev pub onward : {S H : Type 0} → Out S H → S → S
onward (go t) s = t
onward (halt h) s = s

-- the state after k steps
abbrev pub state_after : {S H : Type 0} → (S → Out S H) → ℕ → S → S
state_after step zero s = s
state_after step (suc k) s = state_after step k (onward (step s) s)

module _ {S H L : Type 0} (step : S → Out S H) (log : S → L) where
  -- A run reaches each list that it holds after some number of steps.
  abbrev pub Reaches : S → L → Type 0
  Reaches s l = (k : ℕ) × (log (state_after step k s) ≡ l)

  -- it ends in a way, holding a list
  abbrev pub Ends : S → H → L → Type 0
  Ends s h l = (k : ℕ) × (step (state_after step k s) ≡ halt h) × (log (state_after step k s) ≡ l)

-- Two runs reach the same lists, and one ends exactly if the other does, alike.
pub record Alike {S T H L : Type 0} (step_s : S → Out S H) (log_s : S → L) (step_t : T → Out T H) (log_t : T → L) (s : S) (t : T) : Type 0 where
  pub reach_right : (l : L) → Reaches step_s log_s s l → Reaches step_t log_t t l
  pub reach_left : (l : L) → Reaches step_t log_t t l → Reaches step_s log_s s l
  pub end_right : (h : H) (l : L) → Ends step_s log_s s h l → Ends step_t log_t t h l
  pub end_left : (h : H) (l : L) → Ends step_t log_t t h l → Ends step_s log_s s h l
