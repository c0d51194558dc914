-- The head of an instruction is made of its first four words.
use Rattle.std.proofs.Common.{◌≡◌, ℕ}
use Rattle.print_bytes.specs.Lines.{head_bytes}
use Rattle.print_bytes.specs.Prints.{prints_same}
use Rattle.print_list.proofs.put_front.Goals as goal

same : {a b c d e f g h : ℕ} → a ≡ e → b ≡ f → c ≡ g → d ≡ h → head_bytes a b c d ≡ head_bytes e f g h
same p q r s = cc

pub returns : goal.returns
returns c = prints_same c.put_head.ensures (same c.word.ensures c.word-2.ensures c.word-3.ensures c.word-4.ensures)
