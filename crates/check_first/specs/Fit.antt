-- Refusal 9 in two halves: the first id against the ids in the text, and the ids that would be given. Assumes nothing.
--     ids_fit_law     the first half is what `first_fits` answers; the second asks first that the first id itself is no higher than an id may be, so that
--                 adding to it stays small
use Rattle.std.specs.Prelude.{◌≡◌, refl, Bool, true, false, ◌&&◌, ℕ, suc, ◌≤◌, leb, ltb}
use Rattle.std.proofs.Common.{sym, ap, ◌∙◌, arith, leb-true, le-leb}
use Rattle.std.proofs.Math.Bool.{and-false}
use Rattle.general_laws.specs.Lists.{every}
use Rattle.lifting.specs.Ast.{Func}
use Rattle.lifting.specs.Parts.{ids}
use Rattle.lifting.specs.Limits.{highest_id}
use Rattle.lifting.specs.Walk.{walk_of}
use Rattle.lifting.specs.Absorb.{kept}
use Rattle.lifting.specs.Ids.{names, next_id}
use Rattle.lifting.specs.Points.{Table}
use Rattle.lifting.specs.Answer.{ids_fit}

-- the function gets the first id, so that the next free id is above it
after_first : (F : Func) (first : ℕ) (T K : Table) → suc first ≤ next_id F first T K
unfolding next_id names
after_first F first T K = omega arith

-- a bound on the next free id is one on the first id
bounded : (first next : ℕ) → suc first ≤ next → leb next (suc highest_id) ≡ (leb first highest_id && leb next (suc highest_id))
bounded first next h = go (leb next (suc highest_id)) refl
  where
    go : (b : Bool) → leb next (suc highest_id) ≡ b → leb next (suc highest_id) ≡ (leb first highest_id && leb next (suc highest_id))
    go true e = sym (ap (λ (x : Bool). x && leb next (suc highest_id)) (le-leb first highest_id (omega (arith, leb-true next (suc highest_id) e))))
    go false e = e ∙ sym (ap (λ (x : Bool). leb first highest_id && x) e ∙ and-false (leb first highest_id))

pub ids_fit_law : (F : Func) (first : ℕ) → ids_fit F first ≡ (ltb 0 first && every (λ x. ltb x first) (ids F) && (leb first highest_id && leb (next_id F first (walk_of F) (kept (walk_of F))) (suc highest_id)))
unfolding ids_fit
ids_fit_law F first =
    let T = walk_of F in
    ap (λ (b : Bool). ltb 0 first && every (λ x. ltb x first) (ids F) && b) (bounded first (next_id F first T (kept T)) (after_first F first T (kept T)))
