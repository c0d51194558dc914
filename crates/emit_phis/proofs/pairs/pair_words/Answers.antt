-- The loop's invariant: two words are counted for each edge passed, and the rest of the chain is left. The measure is the number of the next
-- edge, which falls along a chain.
use Rattle.std.proofs.Common.{ap, ℕ, length, arith}
use Rattle.emit_edge_ends.specs.Links.{chain, chain_none}
use Rattle.emit_chains.specs.Edge.{edge_word}
use Rattle.emit_phis.proofs.pairs.pair_words.Goals as goal

pub loop-edge-init : goal.loop-edge-init
loop-edge-init c = (omega arith, omega (arith, c.requires))

pub overflow_add-n : goal.overflow_add-n
overflow_add-n c = omega (arith, c.loop-edge.invariant.1, ap edge_word c.in-Some.is)

pub next-edge-requires : goal.next-edge-requires
next-edge-requires c = omega (arith, c.loop-edge.invariant.1, ap edge_word c.in-Some.is)

pub loop-edge-smaller : goal.loop-edge-smaller
loop-edge-smaller c = omega (arith, c.next-edge.ensures.upper_bound, ap edge_word c.in-Some.is)

pub loop-edge-preserved : goal.loop-edge-preserved
loop-edge-preserved c =
    let e = ap edge_word c.in-Some.is in (
      omega (arith, c.loop-edge.invariant.0, ap (λ (x : ℕ). length (chain c.args.chains.now.work.now x)) e, ap length c.next-edge.ensures.e_value),
      omega (arith, c.loop-edge.invariant.1, c.next-edge.ensures.upper_bound, e),
    )

pub returns : goal.returns
returns c =
    let z = ap edge_word c.in_default.is in
    record { value = omega (arith, c.loop-edge.invariant.0, ap (λ (x : ℕ). length (chain c.args.chains.now.work.now x)) z, ap length (chain_none c.args.chains.now.work.now)); upper_bound = omega (arith, c.loop-edge.invariant.1) }
