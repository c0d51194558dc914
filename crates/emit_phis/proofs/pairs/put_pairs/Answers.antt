-- The loop's invariant: the pairs of the edges passed are appended, and the rest of the chain is left. The measure is the number of the next
-- edge, which falls along a chain.
use Rattle.std.proofs.Common.{ap, arith}
use Rattle.emit_words.specs.Writes.{writes_same}
use Rattle.emit_chains.specs.Edge.{edge_word}
use Rattle.emit_phis.proofs.Steps.{pairing_done, pairing_edge, pairing_first, pairing_next, pairs_put}
use Rattle.emit_insts.specs.Emitting.{emit_ready}
use Rattle.emit_phis.proofs.pairs.put_pairs.Goals as goal

pub loop-edge-init : goal.loop-edge-init
loop-edge-init c = pairing_first (omega arith) c.requires.first_into

pub position-requires : goal.position-requires
position-requires c = omega (arith, c.loop-edge.invariant.rest.low, ap edge_word c.in-Some.is)

pub entry-requires : goal.entry-requires
entry-requires c = omega (arith, c.loop-edge.invariant.rest.low, ap edge_word c.in-Some.is)

pub put_pair-requires : goal.put_pair-requires
put_pair-requires c =
    record {
      i_lt_count = c.requires.i_lt_count;
      fact = pairing_edge c.loop-edge.invariant c.requires.linked.chained _ (ap edge_word c.in-Some.is) c.position.ensures c.entry.ensures;
    }

pub next-edge-requires : goal.next-edge-requires
next-edge-requires c = omega (arith, c.loop-edge.invariant.rest.low, ap edge_word c.in-Some.is)

pub loop-edge-smaller : goal.loop-edge-smaller
loop-edge-smaller c = omega (arith, c.next-edge.ensures.upper_bound, ap edge_word c.in-Some.is)

pub loop-edge-preserved : goal.loop-edge-preserved
loop-edge-preserved c =
    pairing_next c.loop-edge.invariant c.requires.linked.chained _ (ap edge_word c.in-Some.is) c.position.ensures c.entry.ensures c.put_pair.ensures c.next-edge.ensures.value

pub returns : goal.returns
returns c =
    writes_same (pairing_done c.loop-edge.invariant c.requires.linked.chained (ap edge_word c.in_default.is))
    (pairs_put (emit_ready c.args.e.now.ready) c.args.i c.args.j c.requires.i_lt_count.0 c.requires.i_lt_count.1)
