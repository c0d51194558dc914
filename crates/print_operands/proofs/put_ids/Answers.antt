use Rattle.std.proofs.Common.{ap, arith}
use Rattle.read_cursor.specs.Laws.{text_here}
use Rattle.print_bytes.specs.Prints.{printing_start, printing_more, printing_done}
use Rattle.print_bytes.specs.Lines.{ids_bytes}
use Rattle.print_bytes.specs.Taken.{drop_past}
use Rattle.print_operands.proofs.put_ids.Goals as goal

pub loop-word-init : goal.loop-word-init
loop-word-init c = printing_start (ids_bytes c.args.words.now) (omega arith)

pub loop-word-preserved : goal.loop-word-preserved
unfolding ids_bytes
loop-word-preserved c = printing_more c.loop-word.invariant c.put_field.ensures (ap ids_bytes (text_here c.args.words.now c.loop-word.word-index (omega arith)))

pub returns : goal.returns
unfolding ids_bytes
returns c = printing_done c.loop-word.invariant (ap ids_bytes (drop_past c.loop-word.word-index c.args.words.now (omega arith)))
