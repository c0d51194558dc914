-- Five words, appended one behind the other.
use Rattle.emit_words.specs.Writes.{writes_more}
use Rattle.emit_words.proofs.Writer.put_head.Goals as goal

pub returns : goal.returns
returns c =
    writes_more c.put_word.ensures
    (writes_more c.put_word-2.ensures
    (writes_more c.put_word-3.ensures
    (writes_more c.put_word-4.ensures c.put_word-5.ensures)))
