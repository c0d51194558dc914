-- The words before the one that is reached are put, each behind a space, and those from there on are left.
use Rattle.std.proofs.Common.{drop}
use Rattle.print_bytes.specs.Prints.{Printing}
use Rattle.print_bytes.specs.Lines.{ids_bytes}
use Rattle.print_operands.proofs.put_ids.Given as goal

abbrev pub invariant-loop-word : goal.invariant-loop-word
invariant-loop-word l = Printing l.initial.out (ids_bytes l.words) l.out (ids_bytes (drop l.word-index l.words))
