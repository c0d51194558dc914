-- The bytes before the one that is reached are put.
use Rattle.std.proofs.Common.{take}
use Rattle.print_bytes.specs.Prints.{Prints}
use Rattle.print_bytes.proofs.Printer.put_bytes.Given as goal

abbrev pub invariant-loop-b : goal.invariant-loop-b
invariant-loop-b l = Prints l.initial.self (take l.b-index l.s) l.self
