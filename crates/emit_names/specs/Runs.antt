-- A run of names gets its ids: only the first one has a word. Assumes nothing.
--     run_some, run_none    the words of a run
--     some_run     a run of inputs or of outputs
use Rattle.std.specs.Prelude.{◌≡◌, refl, List, map, ℕ, zero, suc, ◌+◌, length, set}
use Rattle.std.proofs.Common.{sym, ap, ◌∙◌, arith}
use Rattle.std.proofs.Math.Option.{none, some}
use Rattle.general_laws.specs.Lists.{tabulate}
use Rattle.lifting.specs.Ast.{Value}
use Rattle.lifting.specs.Ids.{value}
use Rattle.general_laws.specs.Members.{length_tabulate}
use Rattle.emit_names.specs.Ids.{slot_of}
use Rattle.emit_names.specs.Names.{length_run}
use Rattle.emit_names.specs.Numbered.{GivesIds, numbered_run, run_words}

pub run_some : (u : List ℕ) (s k n : ℕ) → ¬ (n ≡ 0) → set u s k ≡ run_words u s k n
run_some u s k zero h = absurd (h refl)
run_some u s k (suc n) h = refl

pub run_none : (u : List ℕ) (s k n : ℕ) → n ≡ 0 → u ≡ run_words u s k n
run_none u s k zero h = refl
run_none u s k (suc n) h = absurd (omega arith)

pub some_run : (f : ℕ → Value) {s : ℕ} → slot_of (value (f 0)) ≡ some s → ((i : ℕ) → slot_of (value (f (suc i))) ≡ none) → (c : ℕ) {n k x : ℕ} {u v : List ℕ}
    → n ≡ length (tabulate f 0 c) → x ≡ k + n → v ≡ run_words u s k n → GivesIds (map value (tabulate f 0 c)) k u x v
some_run f {s} first later c {n} {k} {x} {u} e y w =
    let z : n ≡ c = e ∙ length_tabulate f 0 c in
    record { next = omega (arith, length_run f c); words = w ∙ ap (λ (j : ℕ). run_words u s k j) z ∙ sym (numbered_run f first later u k c) }
