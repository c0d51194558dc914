-- The word is set to the larger of the two (`raised`).
use mathlib.Core.Path.{ap, ◌∙◌}
use Prim.Native.Nat.{ℕ, ◌+◌, max}
use lib.ListN.{get_or, set}
use Rattle.func.proofs.Laws.{raised}
use Rattle.func_pools.specs.Pools.{pool_number}
use Rattle.func_pools.proofs.raise.Goals as goal

pub returns-clause-func_after : goal.returns-clause-func_after
returns-clause-func_after c = ap (λ (n : ℕ). set c.args.func.now (18 + n) c.max.result) c.number-at.ensures.0 ∙ raised (pool_number c.args.k) _ _ _ (c.max.ensures ∙ ap (λ (n : ℕ). max (get_or c.args.func.now (18 + n) 0) c.args.n) c.number-at.ensures.0)
