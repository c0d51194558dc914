-- The immediates that were passed are put, and those of the words that are left are left.
use Prim.Native.Nat.{◌-◌}
use Rattle.lifting.specs.Words.{imms_from}
use Rattle.print_bytes.specs.Prints.{Printing}
use Rattle.print_bytes.specs.Lines.{imms_bytes}
use Rattle.print_operands.proofs.put_imms.Given as goal

abbrev pub invariant-loop : goal.invariant-loop
invariant-loop l = Printing l.initial.out (imms_bytes (imms_from l.n l.words).got) l.out (imms_bytes (imms_from (l.n - l.counter) l.left).got)
