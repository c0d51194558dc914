-- What was read stands at the start of the input. The measure is the room that is left.
use Rattle.std.proofs.Common.{◌≡◌, ◌≤◌, ◌-◌, length, take}
use Rattle.std.specs.Io.KnownBytes.{Consumes}
use Rattle.read_input.proofs.read.Given as goal

abbrev pub invariant-loop-command : goal.invariant-loop-command
invariant-loop-command g l = record {
  within : l.n ≤ length l.input;
  same_length : length l.input ≡ length l.initial.input;
  came : Consumes (g.R.Read.remaining l.initial.reader) (g.R.Read.remaining l.reader) (take l.n l.input);
}

abbrev pub decreases-loop-command : goal.decreases-loop-command
decreases-loop-command g l = length l.input - l.n
