-- The line is the head, the two forms and the end, put one behind the other (`inst_is`).
use mathlib.Core.Path.{sym}
use Rattle.lifting.specs.Words.{inst_from}
use Rattle.print_bytes.specs.Prints.{prints_more, prints_same}
use Rattle.print_bytes.specs.Lines.{inst_is}
use Rattle.print_list.proofs.put_inst.Goals as goal

pub returns : goal.returns
returns c =
    prints_same
    (prints_more c.put_front.ensures (prints_more c.put_imm_form.ensures (prints_more c.put_id_form.ensures c.put_bytes.ensures)))
    (sym (inst_is (inst_from c.args.words.now).got))
