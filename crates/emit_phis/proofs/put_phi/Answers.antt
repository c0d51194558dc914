-- The front and the pairs are appended one behind the other, with the phi's own key and declaration in the front: that is phi j (`phi_runs`), and
-- two ids for each edge are those of its pairs (`ids_are`).
use mathlib.Core.Path.{sym, ap, subst, ◌∙◌}
use native.Mathlib.Omega.{arith}
use Rattle.lifting.specs.Ast.{Decl}
use Rattle.func.specs.Decode.{func_of}
use Rattle.lifting_runs.specs.Refers.{Named}
use Rattle.emit_names.specs.Ids.{id_in}
use Rattle.emit_words.specs.Writes.{writes_more, writes_same}
use Rattle.emit_phis.specs.Items.{phi_runs}
use Rattle.emit_phis.proofs.Steps.{ids_are, key_names}
use Rattle.emit_insts.specs.Ready.{ready_visited}
use Rattle.emit_insts.specs.Emitting.{emit_ready}
use Rattle.emit_phis.proofs.put_phi.Goals as goal

pub invariant_of-visits : goal.invariant_of-visits
invariant_of-visits c = record { visited = ∣ ready_visited (emit_ready c.args.e.now.ready) c.args.i c.requires.i_lt_count.0 ∣₁ }

pub id_of-result-requires : goal.id_of-result-requires
id_of-result-requires c = record { count_nonzero = omega (arith, c.requires.i_lt_count.0); v_value = subst (Named (func_of c.args.e.now.func.now)) (sym c.phi_value.ensures) (key_names (emit_ready c.args.e.now.ready) c.args.i c.args.j c.requires.i_lt_count.0 c.requires.i_lt_count.1) }

pub put_front-requires : goal.put_front-requires
put_front-requires c = record { imms_fit = tt; ids_bound = omega (arith, c.requires.ids_value.1) }

pub returns : goal.returns
returns c =
    let F = func_of c.args.e.now.func.now in
    writes_same (writes_more c.put_front.ensures c.put_pairs.ensures)
    (phi_runs F c.args.e.now.first c.args.i c.args.j c.opcode.ensures (ap (λ (x : Decl). x.attrs) c.phi_decl-decl.ensures) (ap (λ (x : Decl). x.type) c.phi_decl-decl.ensures)
    (c.id_of-result.ensures ∙ ap (id_in F c.args.e.now.first) c.phi_value.ensures)
    (ids_are (emit_ready c.args.e.now.ready) c.args.i c.args.j c.requires.i_lt_count.0 c.requires.i_lt_count.1 c.requires.ids_value.0))
