-- The first byte decides between no number, a 0 alone and more digits, and the loop's invariant (`Digits`) says that the number goes on from the
-- value so far.
use Rattle.read_cursor.proofs.Laws.{Digits}
use Rattle.read_cursor.proofs.Cursor.number.Given as goal

abbrev pub invariant-loop-i : goal.invariant-loop-i
invariant-loop-i l = Digits l.self.text.now l.self.at l.n l.i
