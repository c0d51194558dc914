-- The parameters, the phis, the results and the labels get their ids in this order, each from where the one before left off; that is the order of
-- the names (`number_done`), and they are few enough to fit 32 bits.
use Rattle.std.proofs.Common.{arith}
use Rattle.func.specs.Decode.{func_of}
use Rattle.emit_names.specs.Names.{few_labels, few_phis, few_results}
use Rattle.emit_ids.specs.Passes.{pass_done, pass_first, pass_next, pass_room}
use Rattle.emit_ids.proofs.Numbering.{first_room, gives_first, labels_room, number_done, phis_room, results_room}
use Rattle.emit_ids.proofs.number_all.Goals as goal

pub give-k-requires : goal.give-k-requires
give-k-requires c = first_room c.requires.laid c.requires.first_le_highest_id c.param_total-n.ensures

pub phis-init : goal.phis-init
phis-init c = pass_first (phis_room c.requires.laid c.requires.first_le_highest_id (gives_first (func_of c.args.func.now) c.param_total-n.ensures c.give-k.ensures.value c.give-k.ensures.work_after)).0

pub phi_ids-k-requires : goal.phi_ids-k-requires
phi_ids-k-requires c = record { laid = c.phis.invariant.laid; i_lt_m = (c.phis-test.true, pass_room c.phis.invariant (phis_room c.requires.laid c.requires.first_le_highest_id (gives_first (func_of c.args.func.now) c.param_total-n.ensures c.give-k.ensures.value c.give-k.ensures.work_after)).1 c.phis-test.true) }

pub phis-preserved : goal.phis-preserved
phis-preserved c =
    let few = few_phis c.phis.invariant.laid.tables (c.phis.invariant.laid.walked (omega (arith, c.phis-test.true))).walkable c.phis.i (omega (arith, c.phis-test.true, c.phis.invariant.laid.count)) in
    pass_next c.phis.invariant c.phis-test.true c.phi_ids-k.ensures few

pub results-init : goal.results-init
results-init c = pass_first (results_room c.requires.laid c.requires.first_le_highest_id (gives_first (func_of c.args.func.now) c.param_total-n.ensures c.give-k.ensures.value c.give-k.ensures.work_after) (pass_done c.phis.invariant c.phis-test.false)).0

pub result_ids-k-requires : goal.result_ids-k-requires
result_ids-k-requires c = record { laid = c.results.invariant.laid; i_lt_m = (c.results-test.true, pass_room c.results.invariant (results_room c.requires.laid c.requires.first_le_highest_id (gives_first (func_of c.args.func.now) c.param_total-n.ensures c.give-k.ensures.value c.give-k.ensures.work_after) (pass_done c.phis.invariant c.phis-test.false)).1 c.results-test.true) }

pub results-preserved : goal.results-preserved
results-preserved c =
    let few = few_results c.results.invariant.laid.tables (c.results.invariant.laid.walked (omega (arith, c.results-test.true))).walkable c.results.i (omega (arith, c.results-test.true, c.results.invariant.laid.count)) in
    pass_next c.results.invariant c.results-test.true c.result_ids-k.ensures few

pub labels-init : goal.labels-init
labels-init c = pass_first (labels_room c.requires.laid c.requires.first_le_highest_id (gives_first (func_of c.args.func.now) c.param_total-n.ensures c.give-k.ensures.value c.give-k.ensures.work_after) (pass_done c.phis.invariant c.phis-test.false) (pass_done c.results.invariant c.results-test.false)).0

pub label_ids-k-requires : goal.label_ids-k-requires
label_ids-k-requires c = record { laid = c.labels.invariant.laid; i_lt_m = (c.labels-test.true, pass_room c.labels.invariant (labels_room c.requires.laid c.requires.first_le_highest_id (gives_first (func_of c.args.func.now) c.param_total-n.ensures c.give-k.ensures.value c.give-k.ensures.work_after) (pass_done c.phis.invariant c.phis-test.false) (pass_done c.results.invariant c.results-test.false)).1 c.labels-test.true) }

pub labels-preserved : goal.labels-preserved
labels-preserved c =
    let few = few_labels c.labels.invariant.laid.tables (c.labels.invariant.laid.walked (omega (arith, c.labels-test.true))).walkable c.labels.i (omega (arith, c.labels-test.true, c.labels.invariant.laid.count)) in
    pass_next c.labels.invariant c.labels-test.true c.label_ids-k.ensures few

pub returns : goal.returns
returns c =
    let d = number_done c.requires.laid c.requires.first_le_highest_id (gives_first (func_of c.args.func.now) c.param_total-n.ensures c.give-k.ensures.value c.give-k.ensures.work_after) (pass_done c.phis.invariant c.phis-test.false) (pass_done c.results.invariant c.results-test.false) (pass_done c.labels.invariant c.labels-test.false) c.requires.ids_blank in
    record { value = d.0; ids = d.1.0; aside = d.1.1.0; work_len_unchanged = d.1.1.1 }
