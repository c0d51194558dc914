-- Where the walk goes on and there is a sole target, the answer is whether the target joins (`absorb_to`).
use Rattle.terminators.specs.Plain.{visited_plain}
use Rattle.block_absorbs.proofs.AbsorbPass.{absorb_to}
use Rattle.block_absorbs.proofs.Used.absorbs_next.Goals as goal

pub returns-in-Some : goal.returns-in-Some
returns-in-Some c = absorb_to (visited_plain c.args.self.now.visits.visited) c.args.i c.requires.i_in_bounds c.if-i-self.false c.sole_target.ensures c.in-Some.is c.joins.ensures
