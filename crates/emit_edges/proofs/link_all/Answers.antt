-- The loop's invariant: the edges of the positions from the i-th on are linked, and the tables of the blocks stand. The measure is i; all edges
-- together fit their table (`passing_room`).
use native.Mathlib.Omega.{arith}
use Rattle.emit_edges.proofs.Linking.{passing_aimed, passing_aside, passing_done, passing_first, passing_laid, passing_next, passing_room}
use Rattle.emit_edges.proofs.link_all.Goals as goal

pub loop-i-init : goal.loop-i-init
loop-i-init c = passing_first c.requires.laid c.requires.stands c.requires.unlinked

pub link_at-e-requires : goal.link_at-e-requires
link_at-e-requires c = record { laid = passing_laid c.loop-i.invariant; aimed = passing_aimed c.loop-i.invariant; i_lt_m = passing_room c.loop-i.invariant (omega (arith, c.loop-i-test.true)) }

pub loop-i-preserved : goal.loop-i-preserved
loop-i-preserved c = passing_next c.loop-i.invariant (omega (arith, c.loop-i-test.true)) c.link_at-e.ensures.work_after c.link_at-e.ensures.value c.link_at-e.ensures.work_len_unchanged

pub shape_of-work : goal.shape_of-work
shape_of-work c = c.loop-i.invariant.same

pub returns : goal.returns
returns c =
    let d = passing_done c.loop-i.invariant c.loop-i-test.false in
    record { work_after = d.0; linked = d.1; laid_2 = passing_laid c.loop-i.invariant; aside = passing_aside c.loop-i.invariant; work_len_unchanged = c.loop-i.invariant.same }
