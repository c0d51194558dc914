-- An immediate is three words, appended one behind the other.
use Rattle.emit_words.specs.Writes.{writes_more}
use Rattle.emit_insts.proofs.put_imm.Goals as goal

pub returns : goal.returns
returns c = writes_more c.put_word.ensures (writes_more c.put_word-2.ensures c.put_word-3.ensures)
