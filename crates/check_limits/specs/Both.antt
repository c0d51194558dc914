-- Two tests at once. Assumes nothing.
--     joined      what is answered of both, where each of the two is known
use Rattle.std.specs.Prelude.{◌≡◌, Bool, ◌&&◌}
use Rattle.std.proofs.Common.{◌∙◌}

pub joined : {x a b c d : Bool} → x ≡ (a && b) → a ≡ c → b ≡ d → x ≡ (c && d)
joined e p q = e ∙ (λ i. p i && q i)
