-- The theorem at two witnesses: their runs, which `lifting` computes in one world, are alike in every world. Assumes nothing.
use Rattle.std.specs.Prelude.{◌≡◌, refl, true, List, [], ◌∷◌, ℕ, zero, suc, get_or}
use Rattle.std.proofs.Common.{sym, ap, ◌∙◌, arith}
use Rattle.std.proofs.Math.Option.{some}
use Rattle.lifting.specs.Ast.{Const, Func}
use Rattle.lifting.specs.Grammar.{read}
use Rattle.lifting.specs.Parts.{has_body}
use Rattle.lifting.specs.Limits.{func_words, work_words}
use Rattle.lifting.specs.Words.{list_from}
use Rattle.lifting.specs.Answer.{answer, listed}
use Rattle.lifting.specs.World.{World}
use Rattle.lifting.specs.Runs.{AlikeRuns, TrueConstants}
use Rattle.lifting.specs.Witness
use Rattle.lifting.specs.KilledCase
use Rattle.lifting_runs.proofs.Demand3.{demand_3}

-- the constants of both: none is of opcode 41
abbrev two_consts : List Const
two_consts = record { id = 5; opcode = 43 } ∷ record { id = 6; opcode = 43 } ∷ []

abbrev opcode_at : List Const → ℕ → ℕ
opcode_at cs c = (get_or cs c (record { id = 0; opcode = 0 })).opcode

never_41 : (c : ℕ) → opcode_at two_consts c ≡ 41 → ⊥
never_41 zero e = omega arith
never_41 (suc zero) e = omega arith
never_41 (suc (suc c)) e = omega arith

witness : (text : List ℕ) (ws : List ℕ) (next : ℕ) (F : Func) → answer text 10 func_words work_words 16384 ≡ listed ws next → read text ≡ some F → has_body F.regions ≡ true → F.consts ≡ two_consts
    → {Val : Type 0} (W : World Val) → AlikeRuns F (list_from ws) W
witness text ws next F ok is body consts W = demand_3 text 10 func_words work_words 16384 ws next ok F is body W true_constants
  where
    true_constants : TrueConstants F W
    true_constants c e = absurd (never_41 c (ap (λ (cs : List Const). opcode_at cs c) (sym consts) ∙ e))

pub witness_alike : {Val : Type 0} (W : World Val) → AlikeRuns Witness.function (list_from Witness.written_words) W
unfolding Witness.function
witness_alike = witness Witness.text Witness.written_words 24 Witness.function Witness.is_listed refl refl refl

-- a case ends in an exit
pub killed_alike : {Val : Type 0} (W : World Val) → AlikeRuns KilledCase.function (list_from KilledCase.written_words) W
unfolding KilledCase.function
killed_alike = witness KilledCase.text KilledCase.written_words 22 KilledCase.function KilledCase.is_listed refl refl refl
