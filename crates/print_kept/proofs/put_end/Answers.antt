-- The words of the form, the use count, the targets and the merge labels, put one behind the other, are the bytes of the line's end.
use mathlib.Core.Path.{ap}
use Rattle.print_bytes.specs.Prints.{prints_more, prints_same}
use Rattle.print_bytes.specs.Lines.{field_bytes}
use Rattle.print_lines.specs.Lines.{end_bytes}
use Rattle.print_kept.proofs.put_end.Goals as goal

pub returns : goal.returns
unfolding end_bytes
returns c =
    let used = prints_same c.put_field.ensures (ap field_bytes c.uses.ensures) in
    prints_more c.put_bytes.ensures
    (prints_more used
    (prints_more c.put_bytes-2.ensures
    (prints_more c.put_targets.ensures
    (prints_more c.put_bytes-3.ensures (prints_more c.put_merge.ensures c.put_bytes-4.ensures)))))
