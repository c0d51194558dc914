-- A position that ends no kept block has no edges (`here_none`), and one that does has those of its way out (`here_some`).
use mathlib.Core.Path.{◌≡◌, sym, ap, ◌∙◌}
use mathlib.Core.List.{List, []}
use native.Mathlib.Omega.{arith}
use lib.ListN.{length}
use Rattle.func.specs.Decode.{func_of}
use Rattle.emit_edge_ends.specs.Ends.{Edge, position_edges}
use Rattle.emit_edge_ends.specs.Links.{link_all}
use Rattle.emit_edges.proofs.Linking.{here_count, here_none, here_some}
use borrow.Author.Rules.{rules}
use Rattle.emit_edges.proofs.link_at.Goals as goal

pub invariant_of-visits : goal.invariant_of-visits
invariant_of-visits c = record { visited = ∣ c.requires.laid.walked (omega (arith, c.requires.i_lt_m.0)) ∣₁ }

pub link_term-requires : goal.link_term-requires
link_term-requires c =
    let F = func_of c.args.func.now in
    let v = c.requires.laid.walked (omega (arith, c.requires.i_lt_m.0)) in
    let e = here_some F c.args.i c.block_ends.ensures c.if-block_ends.true c.term_kind-w.ensures in
    record { known = record { tables = v.tables; walkable = v.walkable; fits = c.term_kind-w.ensures.fits }; aimed = c.requires.aimed; i_bound = omega (arith, c.requires.i_lt_m.0, c.requires.i_lt_m.1, c.requires.laid.few, c.requires.laid.size, here_count F c.args.i c.term_kind-w.result e) }

pub returns-then-block_ends : goal.returns-then-block_ends
returns-then-block_ends c =
    let F = func_of c.args.func.now in
    let e = here_some F c.args.i c.block_ends.ensures
    c.if-block_ends.true c.term_kind-w.ensures in
    record { work_after = c.link_term.ensures.work_after ∙ ap (λ (l : List Edge). link_all l c.args.e c.args.work.now) (sym e); value = omega (arith, c.link_term.ensures.value, here_count F c.args.i c.term_kind-w.result e); work_len_unchanged = c.link_term.ensures.work_len_unchanged }

pub returns : goal.returns
unfolding link_all
returns c =
    let F = func_of c.args.func.now in
    let e : position_edges F c.args.i ≡ [] = here_none F c.args.i c.block_ends.ensures c.if-block_ends.false in
    record { work_after = sym (ap (λ (l : List Edge). link_all l c.args.e c.args.work.now) e); value = omega (arith, ap length e); work_len_unchanged = search rules }
