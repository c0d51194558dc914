-- The command and the input are those that the case's first line gives.
use Rattle.std.proofs.Common.{List, ◌++◌, ℕ, drop, ap, ◌∙◌, arith, rules}
use Rattle.lifting.specs.Bytes.{bytes}
use Rattle.command.specs.declared.Command.{Command}
use Rattle.print_bytes.specs.Prints.{prints_end}
use Rattle.print_bytes.specs.Put.{put_bytes_more, put_bytes_same}
use Rattle.print_bytes.specs.Taken.{tail_part}
use Rattle.print_command.specs.Printed.{printed_for}
use Rattle.print_command.proofs.put_case.Goals as goal

pub returns : goal.returns
returns c =
    let case = c.args.case.now in
    let opened = c.opened-opened in
    let same =
    ap (printed_for opened.result.command) (tail_part opened.result.at case)
    ∙ ap (λ (x : Command × ℕ). printed_for x.0 (drop x.1 case)) opened.ensures.at_value in
    let end = prints_end c.put_bytes.ensures (omega arith) (search rules) in
    record { printed = put_bytes_same (put_bytes_more c.put-n.ensures.printed end) (ap (λ (l : List ℕ). l ++ bytes "%%\n") same) }
