-- The word is stored and the place is the next one; a word that is no id leaves the flag as it was.
use Rattle.std.proofs.Common.{refl, arith}
use Rattle.emit_words.specs.Put.Item.{word}
use Rattle.emit_words.specs.Writes.{writes_one}
use Rattle.emit_words.proofs.Writer.put_word.Goals as goal

pub returns : goal.returns
returns c = writes_one (word c.args.x) (omega arith) refl c.store.ensures (omega arith) refl
