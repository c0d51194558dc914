-- Document 01, 'Running the regions and the blocks': what both runs share. A run has the arguments, each constant's value, an endless list
-- of results and the rule. Assumes nothing.
use Rattle.std.specs.Prelude.{◌≡◌, Bool, false, cond, List, [], ◌∷◌, ℕ, ◌<◌}
use Rattle.std.proofs.Math.Option.{Option, none, some}
use Rattle.general_laws.specs.Lists.{choose}
use Rattle.lifting.specs.Machine.{Out, halt}
use Rattle.lifting.specs.Ast.{Imm, Inst, SelectionKind, bool_cond, spv_inst}

-- Any type of values with a truth test. The rule picks one target's position from the selection's opcode and immediates, input values and
-- count of targets, and stays below that count.
pub record World (Val : Type 0) : Type 0 where
  pub arg : ℕ → Val
  pub constant : ℕ → Val
  pub result : ℕ → Val
  -- what a loop's condition and a `bool` selection ask of a value; nothing ties it to opcodes but `TrueConstants` (Runs), by which constants
  -- of opcode 41 are true
  pub truth : Val → Bool
  pub rule : Inst → List Val → ℕ → ℕ
  pub rule_lt : (i : Inst) (vs : List Val) (n : ℕ) → 0 < n → rule i vs n < n

-- one entry of the executed list: opcode, attributes, result type, immediates, the call's or ext's ID, operand values
pub record Executed (Val : Type 0) : Type 0 where
  pub opcode : ℕ
  pub attrs : ℕ
  pub type : ℕ
  pub imms : List Imm
  pub callee : Option ℕ
  pub vals : List Val

-- How a run ends: it returns, leaves by an exit, comes to what is unreachable, or reads a value not yet set. A machine that cannot go on (no
-- task left, no instruction left, a label that is not there) is stuck: no accepted text comes to that in either run (`never_stuck` of
-- runs/Demand3).
pub data End (Val : Type 0) : Type 0 where
  returned : List Val → End Val
  exited : Inst → List Val → End Val
  dead : End Val
  unset : End Val
  stuck : End Val

-- values by key, and the executed list
pub record Mem (Val K : Type 0) : Type 0 where
  pub env : K → Option Val
  pub log : List (Executed Val)

module _ {Val : Type 0} where
  -- A value keeps its latest setting.
  abbrev pub put : {K : Type 0} → ((x y : K) → Dec (x ≡ y)) → (K → Option Val) → K → Val → K → Option Val
  put eq e k v w = choose (eq w k) (some v) (e w)

  abbrev pub puts : {K : Type 0} → ((x y : K) → Dec (x ≡ y)) → (K → Option Val) → List K → List Val → K → Option Val
  puts eq e [] vs = e
  puts eq e (k ∷ ks) [] = e
  puts eq e (k ∷ ks) (v ∷ vs) = puts eq (put eq e k v) ks vs

  abbrev pub and_some : Option Val → Option (List Val) → Option (List Val)
  and_some none r = none
  and_some (some v) none = none
  and_some (some v) (some vs) = some (v ∷ vs)

  -- Values that move along one edge are read together.
  abbrev pub reads : {K : Type 0} → (K → Option Val) → List K → Option (List Val)
  reads e [] = some []
  reads e (k ∷ ks) = and_some (e k) (reads e ks)

  -- A read of a value not yet set ends the run.
  abbrev pub reading : {S : Type 0} → Option (List Val) → (List Val → Out S (End Val)) → Out S (End Val)
  reading none f = halt unset
  reading (some vs) f = f vs

  module _ (W : World Val) where
    abbrev pub truths : List Val → Bool
    truths [] = false
    truths (v ∷ vs) = W.truth v

    -- for `bool`, true is the first, all else the second
    abbrev pub pick : SelectionKind → List Val → ℕ → ℕ
    pick bool_cond vs n = cond (truths vs) 0 1
    pick (spv_inst i) vs n = W.rule i vs n
