-- An id that is missing sets the flag, and any other leaves it as it was.
use Rattle.emit_words.specs.Put.{mark_zero, mark_pos}
use Rattle.emit_words.specs.Writes.{writes_id}
use Rattle.emit_words.proofs.Writer.put_id.Goals as goal

pub returns-then-x-eq0 : goal.returns-then-x-eq0
returns-then-x-eq0 c = writes_id _ c.put_word.ensures (mark_zero _ _ c.if-x-eq0.true)

pub returns-else-x-eq0 : goal.returns-else-x-eq0
returns-else-x-eq0 c = writes_id _ c.put_word.ensures (mark_pos _ _ c.if-x-eq0.false)
