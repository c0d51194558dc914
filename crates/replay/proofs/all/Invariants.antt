-- What is kept fits the text and what is to be taken the buffer, and both slices keep their lengths; and what was printed so far is what is to be printed of
-- the bytes that were taken, with so many turns left.
use Rattle.std.proofs.Common.{◌≡◌, ◌+◌, ◌-◌, ◌^◌, ◌≤◌, List, ℕ, Some, length}
use Rattle.command.specs.Opened.{line_room}
use Rattle.read_first.specs.Cut.{input_room}
use Rattle.read_cases.specs.Held.{CountsWithin}
use Rattle.read_cases.specs.Kept.{end_mark}
use Rattle.print_room.specs.Most.{max_case}
use Rattle.replay.specs.Batch.{Running}
use Rattle.replay.proofs.all.Given as goal

abbrev pub invariant-loop : goal.invariant-loop
invariant-loop g l = record {
  counts : CountsWithin 65536 (length l.text) l.state;
  text_length : length l.text ≡ length l.initial.text;
  buffer_length : length l.buffer ≡ 65536;
  out_length : max_case ≤ length l.out;
  running : (all : List ℕ) → line_room + input_room + length end_mark ≤ length l.initial.text → g.R.Read.remaining l.initial.reader ≡ Some all
      → Running (g.W.Write.contents l.initial.writer) (g.W.Write.contents l.writer) all (g.R.Read.remaining l.reader) l.buffer l.text l.state (2 ^ 64 - 1 - l.counter);
}
