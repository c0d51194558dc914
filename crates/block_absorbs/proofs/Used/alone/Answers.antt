-- An unused point is gone (`alone_unused`), and a used one starts a block (`alone_used`).
use Rattle.std.proofs.Common.{sym, ◌∙◌}
use Rattle.terminators.specs.Plain.{visited_plain}
use Rattle.block_absorbs.proofs.AbsorbPass.{alone_unused, alone_used}
use Rattle.block_absorbs.proofs.Used.alone.Goals as goal

pub returns-then-word-eq0 : goal.returns-then-word-eq0
returns-then-word-eq0 c = alone_unused (visited_plain c.args.self.now.visits.visited) c.args.self.now.counted c.args.i c.requires.i_in_bounds c.number-q.ensures (sym c.word.ensures ∙ c.if-word-eq0.true)

pub returns-else-word-eq0 : goal.returns-else-word-eq0
returns-else-word-eq0 c = alone_used (visited_plain c.args.self.now.visits.visited) c.args.self.now.counted c.args.i c.requires.i_in_bounds c.number-q.ensures (λ e. c.if-word-eq0.false (c.word.ensures ∙ e))
