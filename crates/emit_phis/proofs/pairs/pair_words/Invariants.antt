-- The loop's invariant: two words are counted for each edge passed, and the rest of the chain is left. The measure is the number of the next
-- edge, which falls along a chain.
use Rattle.std.proofs.Common.{◌≡◌, ◌+◌, ◌*◌, ◌≤◌, length}
use Rattle.emit_edge_ends.specs.Links.{chain}
use Rattle.emit_chains.specs.Edge.{edge_word}
use Rattle.emit_phis.proofs.pairs.pair_words.Given as goal

abbrev pub invariant-loop-edge : goal.invariant-loop-edge
invariant-loop-edge l = (l.n + 2 * length (chain l.chains.work.now (edge_word l.edge)) ≡ 2 * length (chain l.chains.work.now (edge_word l.fn.from))) × (l.n + 2 * edge_word l.edge ≤ 2048)

abbrev pub decreases-loop-edge : goal.decreases-loop-edge
decreases-loop-edge l = edge_word l.edge
