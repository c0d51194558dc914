-- The answer of a function in its tables, by document 01's numbers. Assumes nothing.
--     told, outcome                 what is told: the word count and the next free id, or a refusal's number
--     Wants, wants_other, wants_not    what refusal 11 tells, and no other
--     Gives                         what is told and what stands in the output slice, by an answer
--     by_ids, by_values, by_room, by_list    refusals 9 to 11 and the list
use Rattle.std.specs.Prelude.{◌≡◌, true, false, List, ℕ, eqb, leb, length, Result, Ok, Err}
use Rattle.std.proofs.Common.{sym, ap, ◌∙◌}
use Rattle.std.proofs.lemmas.Bool.{eqb-false}
use Rattle.refusals.specs.declared.Refusal.{Refusal}
use Rattle.refusals.specs.declared.Refusal.TheVariants.{Ids, Values, Output}
use Rattle.refusals.specs.Numbers.{refusal_number}
use Rattle.lifting.specs.Ast.{Func}
use Rattle.lifting.specs.Walk.{walk_of}
use Rattle.lifting.specs.Absorb.{kept}
use Rattle.lifting.specs.Ids.{next_id}
use Rattle.lifting.specs.Instructions.{list_of}
use Rattle.lifting.specs.Words.{words}
use Rattle.lifting.specs.Answer.{Answer, ids_fit, lifted, listed, out_after, parsed, refused, values_set, written}
use Rattle.results.specs.declared.Lifted.{Lifted}
use Rattle.results.specs.declared.Unlifted.{Unlifted}
use Rattle.results.specs.Told.{no_list}

-- An accepted call gives the word count and the next free id; any other, the refusal's number.
pub data Outcome : Type 0 where
  gives : ℕ → ℕ → Outcome
  refuses : ℕ → Outcome

abbrev pub told : Result Lifted Unlifted → Outcome
told (Ok l) = gives l.words l.next
told (Err e) = refuses (refusal_number e.refusal)

abbrev pub outcome : Answer → Outcome
outcome (listed ws next) = gives (length ws) next
outcome (refused n) = refuses n

-- Refusal 11 tells that k words are wanted; no other answer says anything of them.
abbrev pub Wants : ℕ → Result Lifted Unlifted → Type 0
Wants k (Ok l) = Unit {0}
Wants k (Err e) = refusal_number e.refusal ≡ refusal_number Output → e.wanted ≡ k

-- whatever number it tells
pub wants_other : (e : Unlifted) (k : ℕ) → eqb (refusal_number e.refusal) (refusal_number Output) ≡ false → Wants k (Err e)
wants_other e k other z = absurd (eqb-false (refusal_number e.refusal) (refusal_number Output) other z)

pub wants_not : (r : Refusal) (k : ℕ) {e : Unlifted} → e ≡ no_list r → eqb (refusal_number r) (refusal_number Output) ≡ false → Wants k (Err e)
wants_not r k is other z = absurd (eqb-false (refusal_number r) (refusal_number Output) other (sym (ap (λ (x : Unlifted). refusal_number x.refusal) is) ∙ z))

-- what stands in the output slice and what is told, of an answer
pub record Gives (a : Answer) (r : Result Lifted Unlifted) (out exit : List ℕ) : Type 0 where
  pub told : told r ≡ outcome a
  pub words : exit ≡ out_after a out

pub gives_same : {a b : Answer} {r : Result Lifted Unlifted} {out exit : List ℕ} → Gives a r out exit → a ≡ b → Gives b r out exit
gives_same {out = out} g e = record { told = g.told ∙ ap outcome e; words = g.words ∙ ap (λ (x : Answer). out_after x out) e }

-- ---- the function in its tables

-- refusals 10 and 11, or the list
abbrev pub emitted : Func → ℕ → ℕ → Answer
emitted F first out =
    elim (values_set F) [
      | false ↦ refused (refusal_number Values)
      | true ↦ written (words (list_of F first)) (next_id F first (walk_of F) (kept (walk_of F))) out
    ]

module _ (F : Func) (first out : ℕ) where
  pub by_ids : ids_fit F first ≡ false → lifted (parsed F) first out ≡ refused (refusal_number Ids)
  unfolding lifted
  by_ids e = rw (e, lifted)

  pub past_ids : ids_fit F first ≡ true → lifted (parsed F) first out ≡ emitted F first out
  unfolding lifted
  past_ids e = rw (e, lifted)

  pub by_values : values_set F ≡ false → emitted F first out ≡ refused (refusal_number Values)
  by_values e = rw (e, emitted)

  pub by_room : values_set F ≡ true → leb (length (words (list_of F first))) out ≡ false → emitted F first out ≡ refused (refusal_number Output)
  unfolding written
  by_room e z = rw (e, emitted) (rw (z, written))

  pub by_list : values_set F ≡ true → leb (length (words (list_of F first))) out ≡ true
      → emitted F first out ≡ listed (words (list_of F first)) (next_id F first (walk_of F) (kept (walk_of F)))
  unfolding written
  by_list e z = rw (e, emitted) (rw (z, written))
