-- The search of the constant table is membership in the definition's table (`among_within`).
use Rattle.std.proofs.Common.{sym, ap, ◌∙◌, Bool, ◌&&◌, not, le-leb, arith}
use Rattle.opcodes.specs.Table.{table}
use Rattle.general_laws.specs.Lists.{within}
use Rattle.lifting.specs.Limits.{max_opcode}
use Rattle.check_insts.specs.Test.{opcode_fits}
use Rattle.check_insts.proofs.Laws.{among_within}
use Rattle.check_insts.proofs.opcode_fits.Goals as goal

pub returns-then-n-le-MAX_OPCODE : goal.returns-then-n-le-MAX_OPCODE
unfolding opcode_fits
returns-then-n-le-MAX_OPCODE c =
    ap not (c.in_table.ensures ∙ among_within c.args.n table)
    ∙ ap (λ (b : Bool). b && not (within c.args.n table)) (sym (le-leb c.args.n max_opcode (omega arith)))
