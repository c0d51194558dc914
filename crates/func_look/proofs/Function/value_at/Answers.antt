-- A value of the function stands in the pool (`value_within`), and its words keep it (`value_at`).
use mathlib.Core.Path.{◌∙◌}
use Rattle.lifting.specs.Ast.{const}
use Rattle.func.proofs.Tables.{value_within, value_at}
use Rattle.func_look.proofs.Function.value_at.Goals as goal

pub value-requires : goal.value-requires
value-requires c = value_within c.self.invariant _ (rw (← c.self.view_is) at c.requires)

pub returns : goal.returns
returns c = rw (← c.self.view_is) (c.value.ensures ∙ value_at c.self.invariant _ (rw (← c.self.view_is) at c.requires) (const 0))
