-- Refusals 10 and 11 and the list, as the code finds them. Assumes nothing.
--     gives_values, gives_room, gives_list    what is told and what stands in the output slice
--     missing_any, missing_none               refusal 10 by the flag
use mathlib.Core.Path.{◌≡◌, refl, sym, ap, ap₂, ◌∙◌}
use mathlib.Core.Bool.{Bool, true, false, not}
use mathlib.Core.List.{List, ◌++◌}
use Prim.Native.Nat.{ℕ}
use native.Mathlib.Omega.{arith}
use lib.Dec.{leb, ltb}
use lib.ListN.{drop, length}
use Rattle.refusals.specs.declared.Refusal.TheVariants.{Values, Output}
use Rattle.refusals.specs.Numbers.{refusal_number}
use Rattle.general_laws.specs.Lists.{every}
use Rattle.lifting.specs.Ast.{Func}
use Rattle.lifting.specs.Walk.{walk_of}
use Rattle.lifting.specs.Absorb.{kept}
use Rattle.lifting.specs.Ids.{next_id}
use Rattle.lifting.specs.Instructions.{Instruction, list_of}
use Rattle.lifting.specs.Words.{words}
use Rattle.lifting.specs.Answer.{ids_fit, refused, values_set}
use Rattle.check_text.specs.Same.{Passes}
use Rattle.emit_words.specs.declared.Cursor.{Cursor}
use Rattle.emit_words.specs.Put.{Put, missed_mark}
use Rattle.emit_words.specs.Items.{list_items}
use Rattle.std.specs.Prelude.{Ok, Err}
use Rattle.results.specs.declared.Unlifted.{Unlifted}
use Rattle.results.specs.Told.{no_list}
use Rattle.emit_output.specs.Emit.{Gives, by_list, by_room, by_values, emitted, gives, gives_same, refuses}
use Rattle.emit_output.specs.Listed.{all_given_law, missed_is}

module _ (F : Func) (first n : ℕ) (out : List ℕ) where
  pub gives_values : values_set F ≡ false → {r : Unlifted} → r ≡ no_list Values → Gives (emitted F first n) (Err r) out out
  gives_values e is =
      gives_same {a = refused (refusal_number Values)} (record { told = ap (λ (x : Unlifted). refuses (refusal_number x.refusal)) is; words = refl }) (sym (by_values F first n e))

  pub gives_room : values_set F ≡ true → leb (length (words (list_of F first))) n ≡ false → (k : ℕ) → Gives (emitted F first n) (Err (record { refusal = Output; wanted = k })) out out
  gives_room e z k = gives_same {a = refused (refusal_number Output)} (record { told = refl; words = refl }) (sym (by_room F first n e z))

  pub gives_list : values_set F ≡ true → leb (length (words (list_of F first))) n ≡ true → {k next : ℕ} {exit : List ℕ} → k ≡ length (words (list_of F first))
      → next ≡ next_id F first (walk_of F) (kept (walk_of F)) → exit ≡ words (list_of F first) ++ drop (length (words (list_of F first))) out
      → Gives (emitted F first n) (Ok (record { words = k; next = next })) out exit
  gives_list e z ek en ex = gives_same (record { told = ap₂ gives ek en; words = ex }) (sym (by_list F first n e z))

-- 10
false_not : (b : Bool) (s : ℕ) → ¬ (s ≡ 0) → s ≡ missed_mark 0 (not b) → b ≡ false
false_not true s n e = absurd (n e)
false_not false s n e = refl

true_not : (b : Bool) (s : ℕ) → s ≡ 0 → s ≡ missed_mark 0 (not b) → b ≡ true
true_not true s z e = refl
true_not false s z e = absurd (omega arith)

module _ (F : Func) (first : ℕ) (ok : Passes F) (held : ids_fit F first ≡ true) {w u : List ℕ} {r : Cursor}
    (p : Put w (record { at = 0; missed = 0 }) (list_items (list_of F first)) u r) where
  abbrev all : Bool
  all = every (λ (i : Instruction). every (λ n. ltb 0 n) i.ids) (list_of F first)

  pub missing_any : ¬ (r.missed ≡ 0) → values_set F ≡ false
  missing_any e = all_given_law F first ok held ∙ false_not all r.missed e (missed_is (list_of F first) p)

  pub missing_none : r.missed ≡ 0 → values_set F ≡ true
  missing_none e = all_given_law F first ok held ∙ true_not all r.missed e (missed_is (list_of F first) p)
