-- The numbers that were read, as the definitions' values. Assumes nothing.
use Rattle.std.specs.Prelude.{ℕ}
use Rattle.lifting.specs.Ast.{Imm, Decl}

-- of `(A T)`
abbrev pub as_decl : ℕ × ℕ → Decl
as_decl x = record { attrs = x.0; type = x.1 }

-- of `(kind operandkind word)`
abbrev pub as_imm : ℕ × (ℕ × ℕ) → Imm
as_imm x = record { kind = x.0; operand = x.1.0; word = x.1.1 }
