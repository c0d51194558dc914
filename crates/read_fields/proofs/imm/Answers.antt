-- A space, a number behind a bracket, two numbers and the closing bracket are read one behind the other, as the grammar's `imm_codec` lines them up.
use Rattle.lifting.specs.Codec.{seq}
use Rattle.lifting.specs.Grammar.{open1, field, closed, imm_codec}
use Rattle.read_fields.specs.Joins.{closes_reads, follows_reads, spaced_reads, same_as}
use Rattle.read_fields.proofs.imm.Goals as goal

pub returns : goal.returns
unfolding imm_codec
returns c =
    let numbers = follows_reads open1 (seq field field) _ _ _ _ c.opened.ensures c.then.ensures (λ d q p. p.1) in
    same_as _ _ _ _ _ _ _ (spaced_reads (closed (seq open1 (seq field field))) _ c.in_ok-skip_space.ensures (closes_reads (seq open1 (seq field field)) _ _ _ numbers c.closed.ensures))
