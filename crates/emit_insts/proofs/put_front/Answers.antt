-- The head, the immediates and the count of ids are appended one behind the other; the head's last word is how many immediates follow.
use Rattle.std.proofs.Common.{ap, ℕ}
use Rattle.emit_words.specs.Items.{head_items}
use Rattle.emit_words.specs.Writes.{writes_more, writes_same}
use Rattle.emit_insts.specs.Parts.{front_items}
use Rattle.emit_insts.proofs.put_front.Goals as goal

pub returns : goal.returns
unfolding front_items
returns c = writes_more (writes_same c.put_head.ensures (ap (λ (n : ℕ). head_items c.args.opcode c.args.attrs c.args.ty c.args.res n) c.imm_count.ensures.value)) (writes_more c.put_imms.ensures c.put_word.ensures)
