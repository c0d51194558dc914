-- The way out that is read is the terminator of the i-th visited point, so its merge and its term are the point's; the tests of the text bound
-- its labels and name its values.
use mathlib.Core.Path.{sym, ap, ap₂, subst, ◌∙◌}
use mathlib.Core.List.{◌++◌}
use native.Mathlib.Omega.{arith}
use Rattle.lifting.specs.Points.{Merge, Terminator}
use Rattle.lifting.specs.Absorb.{merge_labels}
use Rattle.func.specs.Decode.{func_of}
use Rattle.general_laws.specs.Members.{All}
use Rattle.lifting_runs.specs.Refers.{Named, refers}
use Rattle.walk_points.specs.Numbers.{Small}
use Rattle.terminators.specs.Kinds.{merge_of_law}
use Rattle.emit_words.specs.Writes.{writes_more, writes_same}
use Rattle.emit_insts.specs.Parts.{merge_in, term_in}
use Rattle.emit_insts.specs.Ready.{ready_visited}
use Rattle.emit_insts.specs.Fits.{ins_named, merges_small, targets_small}
use Rattle.emit_insts.specs.Emitting.{emit_ready}
use Rattle.emit_ends.proofs.put_end.Goals as goal

pub invariant_of-visits : goal.invariant_of-visits
invariant_of-visits c = record { visited = ∣ ready_visited (emit_ready c.args.e.now.ready) c.args.i c.requires.i_lt_count ∣₁ }

pub put_merge-requires : goal.put_merge-requires
put_merge-requires c =
    let F = func_of c.args.e.now.func.now in
    let k = ready_visited (emit_ready c.args.e.now.ready) c.args.i c.requires.i_lt_count in
    record {
      known = (
        record { tables = k.tables; walkable = k.walkable; fits = c.term_kind-w.ensures.fits },
        subst (λ (g : Merge). All Small (merge_labels g)) (ap (λ (t : Terminator). t.merge) c.term_kind-w.ensures.is ∙ merge_of_law F c.term_kind-w.result) (merges_small k c.args.i c.requires.i_lt_count),
      );
    }

pub put_term-requires : goal.put_term-requires
put_term-requires c =
    let F = func_of c.args.e.now.func.now in
    let k = ready_visited (emit_ready c.args.e.now.ready) c.args.i c.requires.i_lt_count in
    record {
      count_nonzero = (omega (arith, c.requires.i_lt_count), record { tables = k.tables; walkable = k.walkable; fits = c.term_kind-w.ensures.fits });
      all = (
        subst (λ (t : Terminator). All Small t.targets) c.term_kind-w.ensures.is (targets_small k c.args.i c.requires.i_lt_count),
        subst (λ (t : Terminator). All (Named F) t.ins) c.term_kind-w.ensures.is (ins_named F (refers F c.args.e.now.ready.passes.references) k.walkable c.args.i (omega (arith, c.requires.i_lt_count, k.count))),
      );
    }

pub returns : goal.returns
returns c =
    let F = func_of c.args.e.now.func.now in
    let k = ready_visited (emit_ready c.args.e.now.ready) c.args.i c.requires.i_lt_count in
    writes_same (writes_more c.put_merge.ensures c.put_term.ensures)
    (ap₂ (λ (g : Merge) (t : Terminator). merge_in F c.args.e.now.first g ++ term_in F c.args.e.now.first t) (sym (ap (λ (t : Terminator). t.merge) c.term_kind-w.ensures.is ∙ merge_of_law F c.term_kind-w.result)) (sym c.term_kind-w.ensures.is))
