-- The line is its word, the number and the end, put one behind the other (`refused_is`).
use Rattle.std.proofs.Common.{sym, arith, rules}
use Rattle.print_bytes.specs.Prints.{prints_end, prints_more, prints_same}
use Rattle.print_bytes.specs.Lines.{refused_is}
use Rattle.print_refusal.proofs.refused.Goals as goal

pub returns : goal.returns
returns c =
    prints_end
    (prints_same (prints_more c.put_bytes.ensures (prints_more c.put_field.ensures c.put_bytes-2.ensures)) (sym (refused_is c.args.n)))
    (omega arith) (search rules)
