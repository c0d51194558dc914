-- Nothing is left of the text just where the place is not below its length, which is what the grammar's `end` reads.
use Rattle.read_cursor.specs.Laws.{ended}
use Rattle.read_cursor.proofs.Cursor.end.Goals as goal

pub returns : goal.returns
returns c = ended c.args.self.text.now c.args.self.at
