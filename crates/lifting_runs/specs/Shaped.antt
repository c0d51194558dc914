-- What refusals 1 to 7 leave of a text with a body. Ids and refusal 10 come later, so nothing here asks for them. A definition. Assumes nothing.
use Rattle.std.specs.Prelude.{◌≡◌}
use Rattle.std.proofs.Math.Bool.{true}
use Rattle.lifting.specs.Ast.{Func}
use Rattle.lifting.specs.Parts.{has_body}
use Rattle.lifting_runs.specs.Accepted.{Fitting, Forest, Targets}

pub record Shaped (F : Func) : Type 0 where
  pub body : has_body F.regions ≡ true
  pub forest : Forest F
  pub targets : Targets F
  pub fitting : Fitting F
