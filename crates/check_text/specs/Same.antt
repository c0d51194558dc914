-- What the code's answer says of a function, and what holds of a text that passes refusals 3 to 7 and 13: it passes each test, and it stands in the
-- slice whole. Definitions. Assumes nothing.
use Rattle.std.specs.Prelude.{◌≡◌, true, List, ℕ, Result, Ok, Err}
use Rattle.lifting.specs.Ast.{Func}
use Rattle.lifting.specs.Limits.{within_limits}
use Rattle.lifting.specs.References.{references_hold}
use Rattle.lifting.specs.Tree.{is_tree}
use Rattle.lifting.specs.Counts.{counts_agree}
use Rattle.lifting.specs.Control.{control_fits, targets_differ}
use Rattle.lifting.specs.Answer as answer
use Rattle.lifting.specs.Answer.{parsed, denied}
use Rattle.refusals.specs.declared.Refusal.{Refusal}
use Rattle.refusals.specs.Numbers.{refusal_number}
use Rattle.func.specs.Decode.{func_of}
use Rattle.func.specs.Tables.{Tables}
use Rattle.walk_roots.specs.Tables.{RegionsNamed}

-- what the code's answer says of the function
abbrev pub verdict : Result Unit Refusal → Func → answer.Parsed
verdict (Ok u) F = parsed F
verdict (Err x) F = denied (refusal_number x)

-- a text that passes 3 to 7 and 13
pub record Passes (F : Func) : Type 0 where
  pub limits : within_limits F ≡ true
  pub references : references_hold F ≡ true
  pub tree : is_tree F ≡ true
  pub counts : counts_agree F ≡ true
  pub control : control_fits F ≡ true
  pub differ : targets_differ F ≡ true

-- a text that passes stands in these words: all that their readers ask
pub record Stands (F : Func) (w : List ℕ) : Type 0 where
  pub passes : Passes F
  pub func : func_of w ≡ F
  pub tables : Tables w
  pub named : RegionsNamed (func_of w)
