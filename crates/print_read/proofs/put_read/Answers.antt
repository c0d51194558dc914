-- The line of the reader's answer is that of the definition's.
use mathlib.Core.Path.{ap, ◌∙◌}
use Rattle.print_bytes.specs.Put.{put_bytes_same}
use Rattle.print_refusal.specs.Line.{read_bytes}
use Rattle.print_read.specs.Line.{line_is}
use Rattle.print_read.proofs.put_read.Goals as goal

pub returns : goal.returns
returns c =
    let same = line_is c.parse-parsed.result c.parse-parsed.new.work ∙ ap read_bytes c.parse-parsed.ensures.func_after in
    record { printed = put_bytes_same c.put_line.ensures same; func_slice = c.parse-parsed.ensures.func_after_2; work_slice = c.parse-parsed.ensures.work_after }
