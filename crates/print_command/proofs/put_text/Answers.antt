-- What the printer put is what the caller's slice holds (`prints_end`).
use Rattle.std.proofs.Common.{arith, rules}
use Rattle.print_bytes.specs.Prints.{prints_end}
use Rattle.print_command.proofs.put_text.Goals as goal

pub returns : goal.returns
returns c = prints_end c.put_bytes.ensures (omega arith) (search rules)
