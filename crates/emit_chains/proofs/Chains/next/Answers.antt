-- A chain goes on with the next edge, whose number is below, since an edge is linked in front of earlier ones (`chain_next`).
use Rattle.std.proofs.Common.{sym, ap, ◌∙◌, ℕ, ◌∷◌, arith}
use Rattle.emit_edge_ends.specs.Links.{chain, chain_next, origin_at}
use Rattle.emit_chains.proofs.Chains.next.Goals as goal

pub returns : goal.returns
returns c =
    let e = chain_next c.args.self.now.chained c.args.e c.requires in
    record {
      value = c.edge_of.ensures;
      e_value = e.0 ∙ ap (λ (x : ℕ). origin_at c.args.self.now.work.now c.args.e ∷ chain c.args.self.now.work.now x) (sym c.edge_of.ensures);
      upper_bound = omega (arith, c.edge_of.ensures, e.1);
    }
