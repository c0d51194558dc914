-- The entry's answer, and how the answer of a text follows from its function. Assumes nothing.
--     answer_to                      the answer to a text, a first id and three lent slices
--     wanted, wanted_to              the count of words of the text's list, which refusal 11 tells
--     early, tabled                 a refusal of 8, 1 to 7 and 13, and what a function in its tables is lifted to
--     EndsClear, clear-..           both scratch slices end as zeros, but for refusal 8
use Rattle.std.specs.Prelude.{◌≡◌, Bool, List, ℕ, eqb, leb, length}
use Rattle.std.proofs.Math.Path.{refl, ap}
use Rattle.std.proofs.Math.Bool.{true, false}
use Rattle.std.proofs.Math.ListN.{replicate}
use Rattle.refusals.specs.declared.Refusal.TheVariants.{Scratch, Ids, Values, Output}
use Rattle.refusals.specs.Numbers.{refusal_number}
use Rattle.lifting.specs.Ast.{Func}
use Rattle.lifting.specs.Walk.{walk_of}
use Rattle.lifting.specs.Absorb.{kept}
use Rattle.lifting.specs.Ids.{next_id}
use Rattle.lifting.specs.Instructions.{list_of}
use Rattle.lifting.specs.Words.{words}
use Rattle.lifting.specs.Answer.{Answer, Parsed, answer, denied, ids_fit, lifted, listed, parse, parsed, refused, scratch_after, values_set, written, zeros_unless8}

-- The answer goes by the text's bytes, the first id, and the lengths of the three slices that are lent: function slice, work slice, output slice.
abbrev pub answer_to : List ℕ → ℕ → List ℕ → List ℕ → List ℕ → Answer
answer_to text first func work out = answer text first (length func) (length work) (length out)

-- ---- how long the output slice has to be

-- The list of a parsed function has this many words; a text that is denied has no list.
abbrev pub wanted_by : Parsed → ℕ → ℕ
wanted_by (parsed F) first = length (words (list_of F first))
wanted_by (denied n) first = 0

-- The list of a text has this many words, by the first id and the lengths of the function slice and the work slice.
unfoldable pub wanted : List ℕ → ℕ → ℕ → ℕ → ℕ
unfolding parse
wanted text first func work = wanted_by (parse text func work) first

-- the same of the slices that are lent
abbrev pub wanted_to : List ℕ → ℕ → List ℕ → List ℕ → ℕ
wanted_to text first func work = wanted text first (length func) (length work)

-- ---- what the scratch slices hold at the end

-- both end as zeros
abbrev pub EndsClear : Answer → Type 0
EndsClear a = (w : List ℕ) → scratch_after a w ≡ replicate (length w) 0

-- so it is after every refusal but 8
pub clear_refused : (n : ℕ) → eqb n (refusal_number Scratch) ≡ false → EndsClear (refused n)
clear_refused n e w = ap (λ (b : Bool). zeros_unless8 b w) e

-- ---- the function in its tables

module _ (F : Func) (first out : ℕ) where
  pub clear_tables : EndsClear (lifted (parsed F) first out)
  unfolding lifted written
  clear_tables w = go (ids_fit F first) (values_set F) (leb (length (words (list_of F first))) out)
    where
      go : (a b c : Bool)
          → scratch_after (elim a as (λ x. Answer) [ false ↦ refused (refusal_number Ids) | true ↦ elim b as (λ x. Answer) [ false ↦ refused (refusal_number Values) | true ↦ elim c as (λ x. Answer) [ false ↦ refused (refusal_number Output) | true ↦ listed (words (list_of F first)) (next_id F first (walk_of F) (kept (walk_of F))) ] ] ]) w
          ≡ replicate (length w) 0
      go false b c = refl
      go true false c = refl
      go true true false = refl
      go true true true = refl

-- ---- the text

module _ (text : List ℕ) (first func work out : ℕ) where
  pub early : (n : ℕ) → denied n ≡ parse text func work → refused n ≡ answer text first func work out
  unfolding answer lifted
  early n e = ap (λ (p : Parsed). lifted p first out) e

  pub tabled : (F : Func) → parsed F ≡ parse text func work → lifted (parsed F) first out ≡ answer text first func work out
  unfolding answer
  tabled F e = ap (λ (p : Parsed). lifted p first out) e

  pub wanted_tabled : (F : Func) → parsed F ≡ parse text func work → length (words (list_of F first)) ≡ wanted text first func work
  unfolding wanted
  wanted_tabled F e = ap (λ (p : Parsed). wanted_by p first) e

  pub wanted_denied : (n : ℕ) → denied n ≡ parse text func work → 0 ≡ wanted text first func work
  unfolding wanted
  wanted_denied n e = ap (λ (p : Parsed). wanted_by p first) e
