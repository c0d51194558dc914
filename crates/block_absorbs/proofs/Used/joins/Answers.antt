-- Another point does not join (`join_other`); of the same one its uses and its phis decide (`join_uses`, `join_all`).
use Rattle.terminators.specs.Plain.{visited_plain}
use Rattle.block_absorbs.proofs.AbsorbPass.{join_other}
use Rattle.block_absorbs.proofs.Used.joins.Goals as goal

pub returns-then-t-q : goal.returns-then-t-q
returns-then-t-q c = join_other (visited_plain c.args.self.now.visits.visited) c.args.self.now.counted c.args.k c.requires.k_in_bounds c.number-q.ensures c.if-t-q.true
