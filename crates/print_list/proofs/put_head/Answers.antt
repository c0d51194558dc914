-- The bracket, the opcode and three fields, appended one behind the other, are the bytes of the head.
use Rattle.print_bytes.specs.Prints.{prints_more}
use Rattle.print_bytes.specs.Lines.{head_bytes}
use Rattle.print_list.proofs.put_head.Goals as goal

pub returns : goal.returns
unfolding head_bytes
returns c =
    prints_more c.put_byte.ensures
    (prints_more c.put_number.ensures (prints_more c.put_field.ensures (prints_more c.put_field-2.ensures c.put_field-3.ensures)))
