-- The bracket, three numbers and the closing bracket, appended one behind the other, are the bytes of the immediate.
use Rattle.print_bytes.specs.Prints.{prints_more}
use Rattle.print_bytes.specs.Lines.{imm_bytes}
use Rattle.print_operands.proofs.put_imm.Goals as goal

pub returns : goal.returns
unfolding imm_bytes
returns c =
    prints_more c.put_bytes.ensures
    (prints_more c.put_number.ensures (prints_more c.put_field.ensures (prints_more c.put_field-2.ensures c.put_byte.ensures)))
