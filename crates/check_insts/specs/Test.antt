-- The tests of an opcode, and of the word beside an op's kind. Assumes nothing.
--     opcode_fits                an INST's opcode
--     callee_test, op_inst_test    what an op's kind asks
use Rattle.std.specs.Prelude.{Bool, true, not, ◌&&◌, ℕ, zero, suc, leb, ltb}
use Rattle.std.proofs.Math.Decide.{ℕ_discrete}
use Rattle.opcodes.specs.Table.{table}
use Rattle.general_laws.specs.Lists.{within}
use Rattle.lifting.specs.Limits.{max_opcode}

unfoldable pub opcode_fits : ℕ → Bool
unfolding ℕ_discrete
opcode_fits n = leb n max_opcode && not (within n table)

-- what an op's kind asks of the word beside it: a callee is not 0, an INST's opcode fits
abbrev pub callee_test : ℕ → ℕ → Bool
callee_test zero a = true
callee_test (suc k) a = ltb 0 a

abbrev pub op_inst_test : ℕ → ℕ → Bool
op_inst_test zero a = opcode_fits a
op_inst_test (suc k) a = true
