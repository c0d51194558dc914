-- The three tests of the first id are refusal 9; past them the blocks are laid, numbered and linked, which is what the list is written from.
use mathlib.Core.Path.{◌≡◌, refl, sym, ap, ◌∙◌}
use mathlib.Core.Bool.{Bool}
use Prim.Native.Nat.{ℕ, suc}
use lib.Dec.{leb}
use lib.ListN.{length}
use borrow.Author.Tests.{leb-true, not-false, not-true}
use Rattle.refusals.specs.declared.Refusal.TheVariants.{Ids}
use Rattle.lifting.specs.Limits.{highest_id}
use Rattle.func.specs.Decode.{func_of}
use Rattle.blocks.specs.Laid.{laid_kept}
use Rattle.emit_names.specs.Ids.{ids_kept}
use Rattle.emit_output.specs.Emit.{gives_same, past_ids, wants_not}
use Rattle.emit_insts.specs.Emitting.{emitting_of}
use Rattle.emitter.proofs.Giving.{gives_ids, ids_held, ids_high, ids_low, ids_over}
use Rattle.emitter.proofs.emit.Goals as goal

-- what is asked of the next free id is asked of the id that was counted
fits_as : {k n : ℕ} {b : Bool} → k ≡ n → leb k (suc highest_id) ≡ b → leb n (suc highest_id) ≡ b
fits_as e f = ap (λ (i : ℕ). leb i (suc highest_id)) (sym e) ∙ f

pub returns-then-not-first_fits : goal.returns-then-not-first_fits
returns-then-not-first_fits c =
    let F = func_of c.args.func.now in
    record { gives = gives_ids F c.args.first (length c.args.out.now) c.args.out.now (ids_low F c.args.first (sym c.first_fits.ensures ∙ not-true _ c.if-not-first_fits.true-raw)) c.from.ensures; work_len_unchanged = refl; wanted = wants_not Ids _ c.from.ensures refl }

pub returns-then-not-id_fits : goal.returns-then-not-id_fits
returns-then-not-id_fits c =
    let F = func_of c.args.func.now in
    record { gives = gives_ids F c.args.first (length c.args.out.now) c.args.out.now (ids_high F c.args.first (sym c.id_fits.ensures ∙ not-true _ c.if-not-id_fits.true-raw)) c.from-then-not-id_fits.ensures; work_len_unchanged = refl; wanted = wants_not Ids _ c.from-then-not-id_fits.ensures refl }

pub number-next-requires : goal.number-next-requires
number-next-requires c = record { laid = c.lay-count.ensures.laid; first_le_highest_id = leb-true _ highest_id (sym c.id_fits.ensures ∙ not-false _ c.if-not-id_fits.false-raw) }

pub returns-then-not-next_fits : goal.returns-then-not-next_fits
returns-then-not-next_fits c =
    let F = func_of c.args.func.now in
    record { gives = gives_ids F c.args.first (length c.args.out.now) c.args.out.now (ids_over F c.args.first (fits_as c.number-next.ensures.value (sym c.next_fits.ensures ∙ not-true _ c.if-not-next_fits.true-raw))) c.from-then-not-next_fits.ensures; work_len_unchanged = c.number-next.ensures.work_len_unchanged ∙ c.lay-count.ensures.work_len_unchanged; wanted = wants_not Ids _ c.from-then-not-next_fits.ensures refl }

pub link-requires : goal.link-requires
link-requires c = record { laid = laid_kept c.lay-count.ensures.laid (λ x l h. c.number-next.ensures.aside.before x h) c.number-next.ensures.work_len_unchanged; stands = c.requires.stands }

pub invariant_of-emission : goal.invariant_of-emission
invariant_of-emission c =
    let low = sym c.id_fits.ensures ∙ not-false _ c.if-not-id_fits.false-raw in
    record {
      ready = emitting_of (record {
        laid = c.link.ensures.laid_2;
        stands = c.requires.stands;
        ids = ids_kept c.number-next.ensures.ids (λ x l h. c.link.ensures.aside.before x h);
        low = leb-true c.args.first highest_id low;
      });
    }

pub written-requires : goal.written-requires
written-requires c =
    let F = func_of c.args.func.now in
    let low = sym c.id_fits.ensures ∙ not-false _ c.if-not-id_fits.false-raw in
    let held = ids_held F c.args.first (sym c.first_fits.ensures ∙ not-false _ c.if-not-first_fits.false-raw) low (fits_as c.number-next.ensures.value (sym c.next_fits.ensures ∙ not-false _ c.if-not-next_fits.false-raw)) in
    record { first_value = held; next_value = c.number-next.ensures.value }

pub returns : goal.returns
returns c =
    let F = func_of c.args.func.now in
    let low = sym c.id_fits.ensures ∙ not-false _ c.if-not-id_fits.false-raw in
    let held = ids_held F c.args.first (sym c.first_fits.ensures ∙ not-false _ c.if-not-first_fits.false-raw) low (fits_as c.number-next.ensures.value (sym c.next_fits.ensures ∙ not-false _ c.if-not-next_fits.false-raw)) in
    record { gives = gives_same c.written.ensures.gives (sym (past_ids F c.args.first (length c.args.out.now) held)); work_len_unchanged = c.link.ensures.work_len_unchanged ∙ c.number-next.ensures.work_len_unchanged ∙ c.lay-count.ensures.work_len_unchanged; wanted = c.written.ensures.wanted }
