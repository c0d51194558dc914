-- The commands' names. Assumes nothing.
--     name_of      the command that a word names
--     chosen_by    the one that a program's arguments ask for
use Rattle.std.specs.Prelude.{List, ℕ, cond, eqb}
use Rattle.std.specs.Str.{bytes_eq}
use Rattle.lifting.specs.Bytes.{bytes}
use Rattle.command.specs.declared.Command.{Command}
use Rattle.command.specs.declared.Command.TheVariants.{Lift, Read, Blocks, Help, Unknown}

unfoldable pub name_of : List ℕ → Command
name_of w =
    cond (bytes_eq w (bytes "lift")) Lift
    (cond (bytes_eq w (bytes "read")) Read (cond (bytes_eq w (bytes "blocks")) Blocks (cond (bytes_eq w (bytes "help")) Help Unknown)))

-- A program is started with its own name and the command's. With no other argument, or with more, it tells what there is.
unfoldable pub chosen_by : ℕ → List ℕ → Command
chosen_by count w = cond (eqb count 2) (name_of w) Help
