-- The loops' invariants: the names of one kind of the positions before the i-th have their ids.
use Rattle.func.specs.Decode.{func_of}
use Rattle.emit_names.specs.Names.{label_names, phi_names, result_names}
use Rattle.emit_ids.specs.Passes.{Passing}
use Rattle.emit_ids.proofs.number_all.Given as goal

abbrev pub invariant-phis : goal.invariant-phis
invariant-phis l = Passing (phi_names (func_of l.func)) l.func l.initial.work l.m l.initial.k l.i l.work l.k

abbrev pub invariant-results : goal.invariant-results
invariant-results l = Passing (result_names (func_of l.func)) l.func l.initial.work l.m l.initial.k l.i l.work l.k

abbrev pub invariant-labels : goal.invariant-labels
invariant-labels l = Passing (label_names (func_of l.func)) l.func l.initial.work l.m l.initial.k l.i l.work l.k
