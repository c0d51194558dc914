-- Each command's bytes are put by its own function.
use Rattle.std.proofs.Common.{◌≡◌, List, ℕ, sym, ap}
use Rattle.command.specs.declared.Command.{Command}
use Rattle.print_bytes.specs.Put.{put_bytes_same}
use Rattle.print_command.specs.Printed.{command_bytes, help_bytes, unknown_bytes}
use Rattle.print_command.proofs.put_of.Goals as goal

-- the command is the one that was matched
same : (input : List ℕ) (func work out : ℕ) {x y : Command} → x ≡ y → command_bytes y input func work out ≡ command_bytes x input func work out
same input func work out e = sym (ap (λ (z : Command). command_bytes z input func work out) e)

pub returns-in-Lift : goal.returns-in-Lift
unfolding command_bytes help_bytes unknown_bytes
returns-in-Lift c = put_bytes_same c.put_input.ensures.printed (same c.args.input.now _ _ _ c.in-Lift.is)

pub returns-in-Read : goal.returns-in-Read
unfolding command_bytes help_bytes unknown_bytes
returns-in-Read c = put_bytes_same c.put_read.ensures.printed (same c.args.input.now _ _ _ c.in-Read.is)

pub returns-in-Blocks : goal.returns-in-Blocks
unfolding command_bytes help_bytes unknown_bytes
returns-in-Blocks c = put_bytes_same c.put_answer.ensures.put_bytes (same c.args.input.now _ _ _ c.in-Blocks.is)

pub returns-in-Help : goal.returns-in-Help
unfolding command_bytes help_bytes unknown_bytes
returns-in-Help c = put_bytes_same c.put_text.ensures (same c.args.input.now _ _ _ c.in-Help.is)

pub returns-in-Unknown : goal.returns-in-Unknown
unfolding command_bytes help_bytes unknown_bytes
returns-in-Unknown c = put_bytes_same c.put_text-in-Unknown.ensures (same c.args.input.now _ _ _ c.in-Unknown.is)
