-- Four numbers and the end of the line are read one behind the other, and then they are stored as the line says.
use Rattle.lifting.specs.Codec.{seq}
use Rattle.lifting.specs.Grammar.{field, two}
use Rattle.read_cursor.specs.Chains.{seq_reads}
use Rattle.read_lines.specs.Stores.{stored_one}
use Rattle.read_lines.specs.Tails.{ended_by, func_tail}
use Rattle.read_heads.proofs.heads.func_line.Goals as goal

pub returns-clause-stores : goal.returns-clause-stores
unfolding func_tail
returns-clause-stores c =
    stored_one (seq_reads field (seq field (ended_by two)) c.in_ok-a.ensures (seq_reads field (ended_by two) c.in_ok-r.ensures c.in_ok-f.ensures)) c.keep_head.ensures.func_after
