-- A block goes straight on to its exit (`block_way`).
use Rattle.terminators.specs.Laws.{block_way, low_node}
use Rattle.terminators.specs.Plain.{visited_plain}
use Rattle.term_kinds.proofs.visits.Visits.node_entry.Goals as goal

pub number-requires : goal.number-requires
number-requires c = low_node (visited_plain c.args.self.now.visited).tables c.requires

pub returns-in-Block : goal.returns-in-Block
returns-in-Block c = block_way (visited_plain c.args.self.now.visited).tables c.requires c.node_kind.ensures c.in-Block.is c.number.ensures
