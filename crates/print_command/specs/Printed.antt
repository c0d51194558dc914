-- What is printed by each command. Definitions. Assumes nothing.
--     command_bytes    with slices of these lengths
--     printed_for      with those of the programs
--     case_bytes       for a stored case
use Rattle.std.specs.Prelude.{List, ℕ, drop}
use Rattle.lifting.specs.Bytes.{bytes}
use Rattle.lifting.specs.Answer.{parse}
use Rattle.command.specs.declared.Command.{Command}
use Rattle.command.specs.declared.Command.TheVariants.{Lift, Read, Blocks, Help, Unknown}
use Rattle.command.specs.Opened.{opened_of}
use Rattle.print_room.specs.Most.{lent}
use Rattle.print_lifted.specs.Input.{input_bytes}
use Rattle.print_refusal.specs.Line.{read_bytes}
use Rattle.print_lines.specs.Lines.{blocks_bytes}

unfoldable pub help_bytes : List ℕ
help_bytes =
    bytes "spv COMMAND reads an input on standard input. The commands:\n  lift    the instruction list of a text behind a line (first N)\n  read    whether the reader accepts a text, or the number of the refusal\n  blocks  the kept blocks of a text\n  help    these lines\n"

unfoldable pub unknown_bytes : List ℕ
unknown_bytes = bytes "spv: no such command (spv help names them)\n"

-- The numbers are the lengths of the function, work and output slice. `lift` takes a first line and a text, `read` and `blocks` a text.
unfoldable pub command_bytes : Command → List ℕ → ℕ → ℕ → ℕ → List ℕ
unfolding help_bytes unknown_bytes
command_bytes Lift input func work out = input_bytes input func work out
command_bytes Read input func work out = read_bytes (parse input func work)
command_bytes Blocks input func work out = blocks_bytes (parse input func work)
command_bytes Help input func work out = help_bytes
command_bytes Unknown input func work out = unknown_bytes

abbrev pub printed_for : Command → List ℕ → List ℕ
printed_for command input = command_bytes command input lent lent lent

-- the command that the first line names, for what follows
abbrev pub case_bytes : List ℕ → List ℕ
case_bytes case = let o = opened_of case in printed_for o.0 (drop o.1 case)
