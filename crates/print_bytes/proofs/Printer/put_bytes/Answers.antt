use Rattle.std.proofs.Common.{sym, arith, take_all}
use Rattle.std.proofs.lemmas.List.{take_more}
use Rattle.print_bytes.specs.Prints.{prints_none, prints_more, prints_same}
use Rattle.print_bytes.proofs.Printer.put_bytes.Goals as goal

pub loop-b-init : goal.loop-b-init
loop-b-init c = prints_none (omega arith)

pub loop-b-preserved : goal.loop-b-preserved
loop-b-preserved c = prints_same (prints_more c.loop-b.invariant c.put_byte.ensures) (sym (take_more _ _ 0 c.loop-b-test.true))

pub returns : goal.returns
returns c = prints_same c.loop-b.invariant (take_all _ _ (omega arith))
