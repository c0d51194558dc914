-- The loop's invariant: the pairs of the edges passed are appended, and the rest of the chain is left. The measure is the number of the next
-- edge, which falls along a chain.
use Rattle.func.specs.Decode.{func_of}
use Rattle.emit_chains.specs.Edge.{edge_word}
use Rattle.emit_phis.proofs.Steps.{Pairing}
use Rattle.emit_phis.proofs.pairs.put_pairs.Given as goal

abbrev pub invariant-loop-edge : goal.invariant-loop-edge
invariant-loop-edge l = Pairing (func_of l.e.func.now) l.e.first l.i l.j l.e.work.now l.initial.out l.out (edge_word l.edge)

abbrev pub decreases-loop-edge : goal.decreases-loop-edge
decreases-loop-edge l = edge_word l.edge
