-- The phis of a point are one run, of `phi_count` names from word `phi_word` on, so that giving the run its ids gives each phi its own
-- (`gives_phis`).
use native.Mathlib.Omega.{arith}
use Rattle.emit_id_runs.specs.Giving.{gives_phis, phi_room}
use Rattle.emit_id_runs.proofs.phi_ids.Goals as goal

pub invariant_of-visits : goal.invariant_of-visits
invariant_of-visits c = record { visited = ∣ c.requires.laid.walked (omega (arith, c.requires.i_lt_m.0)) ∣₁ }

pub give-requires : goal.give-requires
give-requires c = phi_room c.requires.laid c.args.i c.requires.i_lt_m.0 c.phi_count-n.ensures c.phi_word-s.ensures.value c.phi_word-s.ensures.upper_bound c.requires.i_lt_m.1

pub returns : goal.returns
returns c = gives_phis c.requires.laid c.args.i c.requires.i_lt_m.0 c.phi_count-n.ensures c.phi_word-s.ensures.value c.give.ensures.value c.give.ensures.work_after
