-- How many bytes are printed at most. Assumes nothing.
use Rattle.std.specs.Prelude.{List, ◌++◌, ℕ, ◌+◌, ◌≤◌, drop, length}
use Rattle.std.proofs.Common.{arith, lit≤, length-append}
use Rattle.lifting.specs.Bytes.{bytes}
use Rattle.lifting.specs.Answer.{parse}
use Rattle.command.specs.declared.Command.{Command}
use Rattle.command.specs.declared.Command.TheVariants.{Lift, Read, Blocks, Help, Unknown}
use Rattle.command.specs.Opened.{opened_of}
use Rattle.print_room.specs.Most.{lent, max_case, max_printed}
use Rattle.print_lifted.specs.Room.{input_room_law}
use Rattle.print_refusal.specs.Line.{read_room}
use Rattle.print_lines.proofs.Room.{text_room_law}
use Rattle.print_command.specs.Printed.{case_bytes, command_bytes, help_bytes, printed_for, unknown_bytes}

pub printed_room : (command : Command) (input : List ℕ) → length (printed_for command input) ≤ max_printed
unfolding command_bytes help_bytes unknown_bytes
printed_room Lift input = input_room_law lent input lent lent
printed_room Read input = omega (arith, read_room (parse input lent lent))
printed_room Blocks input = omega (arith, text_room_law input lent lent)
printed_room Help input = lit≤ tt
printed_room Unknown input = lit≤ tt

-- of a stored case, with the line that ends it
pub case_room : (case : List ℕ) → length (case_bytes case ++ bytes "%%\n") ≤ max_case
case_room case =
    let o = opened_of case in
    omega (arith, length-append (case_bytes case) (bytes "%%\n"), printed_room o.0 (drop o.1 case))
