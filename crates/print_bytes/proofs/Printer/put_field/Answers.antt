-- A space and the digits, appended one behind the other.
use Rattle.print_bytes.specs.Prints.{prints_more}
use Rattle.print_bytes.proofs.Printer.put_field.Goals as goal

pub returns : goal.returns
returns c = prints_more c.put_byte.ensures c.put_number.ensures
