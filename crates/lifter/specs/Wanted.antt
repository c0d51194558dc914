-- Refusal 11 can be mended by the caller: an output slice of as many words as are wanted holds the list. Assumes nothing.
--     wanted_enough    after refusal 11, the answer with enough room is the list, which has the wanted words
use Rattle.std.specs.Prelude.{◌≡◌, refl, Bool, true, false, List, ℕ, ◌≤◌, leb, length}
use Rattle.std.proofs.Common.{ap, arith, le-leb}
use Rattle.refusals.specs.declared.Refusal.TheVariants.{Ids, Values, Output}
use Rattle.refusals.specs.Numbers.{refusal_number}
use Rattle.lifting.specs.Walk.{walk_of}
use Rattle.lifting.specs.Absorb.{kept}
use Rattle.lifting.specs.Ids.{next_id}
use Rattle.lifting.specs.Instructions.{list_of}
use Rattle.lifting.specs.Words.{words}
use Rattle.lifting.specs.Answer.{Answer, Parsed, answer, denied, ids_fit, lifted, listed, parse, parsed, refused, values_set, written}
use Rattle.lifting_sizes.specs.Parsing.{Denial, by_parse, denial_other}
use Rattle.lifter.specs.Entry.{wanted, wanted_by}

-- what parsing denies, it does not deny by 11
abbrev Denied : Parsed → Type 0
Denied (parsed F) = Unit {0}
Denied (denied n) = Denial n

parse_denied : (text : List ℕ) (func work : ℕ) → Denied (parse text func work)
parse_denied = by_parse Denied (λ n h. h) (λ F limits references tree counts control differ. tt)

enough : (p : Parsed) → Denied p → (first out : ℕ) → lifted p first out ≡ refused (refusal_number Output) → (k : ℕ) → wanted_by p first ≤ k
    → (ws : List ℕ) × (n : ℕ) × (lifted p first k ≡ listed ws n) × (length ws ≡ wanted_by p first)
unfolding lifted written
enough (denied n) d first out e k h = absurd (denial_other n d cc)
enough (parsed F) d first out e k h = go (ids_fit F first) (values_set F) e
  where
    L : List ℕ
    L = words (list_of F first)

    N : ℕ
    N = next_id F first (walk_of F) (kept (walk_of F))

    after : (a b c : Bool) → Answer
    after a b c =
        elim a as (λ x. Answer) [ false ↦ refused (refusal_number Ids) | true ↦ elim b as (λ x. Answer) [ false ↦ refused (refusal_number Values) | true ↦ elim c as (λ x. Answer) [ false ↦ refused (refusal_number Output) | true ↦ listed L N ] ] ]

    go : (a b : Bool) → after a b (leb (length L) out) ≡ refused (refusal_number Output) → (ws : List ℕ) × (n : ℕ) × (after a b (leb (length L) k) ≡ listed ws n) × (length ws ≡ length L)
    go false b e = absurd (let z : ◌≡◌ {A = ℕ} 9 11 = cc in omega arith)
    go true false e = absurd (let z : ◌≡◌ {A = ℕ} 10 11 = cc in omega arith)
    go true true e = (L, N, ap (λ (c : Bool). after true true c) (le-leb (length L) k h), refl)

pub wanted_enough : (text : List ℕ) (first func work out : ℕ) → answer text first func work out ≡ refused (refusal_number Output) → (k : ℕ) → wanted text first func work ≤ k
    → (ws : List ℕ) × (n : ℕ) × (answer text first func work k ≡ listed ws n) × (length ws ≡ wanted text first func work)
unfolding answer wanted
wanted_enough text first func work out e k h = enough (parse text func work) (parse_denied text func work) first out e k h
