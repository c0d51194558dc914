-- The chain gives the line's bytes, and the first of them that passes the test is where `position` says.
use Rattle.std.proofs.Common.{◌≡◌, Bool, true, false, not, cond, Option, Some, None, ℕ, ◌≤◌, ◌==◌, length, refl, ap, ◌∙◌, arith, rules, ltb, ltb-false}
use Rattle.std.specs.Option.{unwrap_or}
use Rattle.std.proofs.lemmas.Iterator.{YieldsList-from_slice}
use Rattle.std.proofs.lemmas.Iterator.Search.{position_from_yields_List}
use Rattle.std.proofs.lemmas.List.Sums.{prefix_len-le-length}
use borrow.Author.Tests.{tests}
use Rattle.command.proofs.find.Goals as goal

-- a place below the length, or the length
place_or : (n l : ℕ) → n ≤ l → unwrap_or (cond (ltb n l) (Some n) None) l ≡ n
place_or n l h = go (ltb n l) refl
  where
    go : (b : Bool) → ltb n l ≡ b → unwrap_or (cond b (Some n) None) l ≡ n
    go true e = refl
    go false e = omega (arith, ltb-false n l e)

pub returns-clause-place : goal.returns-clause-place
returns-clause-place c =
    let line = c.args.line.now in
    let found = position_from_yields_List (λ x. x == c.args.byte) _ _ c.position.result c.position.ensures.ran (YieldsList-from_slice line cc) (λ x b q k. search (rules, tests)) in
    c.unwrap_or.ensures
    ∙ ap (λ (r : Option ℕ). unwrap_or r (length line)) found
    ∙ place_or _ _ (prefix_len-le-length (λ x. not (x == c.args.byte)) line)
