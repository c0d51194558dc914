-- Only a loop has phis at its entry, and they are the inputs of its body, its first child (`loop_keys`).
use Rattle.std.proofs.Common.{ℕ, length, sym, ap, ◌∙◌}
use Rattle.lifting.specs.Parts.{node_of, region_of}
use Rattle.func.specs.Decode.{func_of}
use Rattle.terminators.specs.Laws.{loop_keys}
use Rattle.term_kinds.proofs.in_phis.Goals as goal

pub returns-then-is_loop : goal.returns-then-is_loop
returns-then-is_loop c =
    let F = func_of c.args.func.now in
    c.region_in_count.ensures
    ∙ ap (λ (b : ℕ). length (region_of F b).ins) c.node_child.ensures
    ∙ loop_keys F (node_of F c.args.n) c.args.n (sym c.is_loop.ensures ∙ c.if-is_loop.true)
