-- The edge comes from a kept block (`origin_kept`) and what moves along it names something (`value_names`), so that both have ids, which are
-- appended one behind the other.
use mathlib.Core.Path.{sym, ap, ap₂, subst, ◌∙◌}
use mathlib.Core.List.{[], ◌∷◌}
use Prim.Native.Nat.{ℕ}
use native.Mathlib.Omega.{arith}
use Rattle.func.specs.Decode.{func_of}
use Rattle.lifting_runs.specs.Refers.{Named}
use Rattle.emit_names.specs.Ids.{id_in}
use Rattle.emit_words.specs.Put.Item.{id}
use Rattle.emit_words.specs.Writes.{writes_more, writes_same}
use Rattle.emit_insts.specs.Ready.{ready_visited}
use Rattle.emit_phis.specs.Along.{origin_kept}
use Rattle.emit_phis.proofs.Steps.{from_low, value_low, value_names}
use Rattle.emit_insts.specs.Emitting.{emit_ready}
use Rattle.emit_phis.proofs.pairs.put_pair.Goals as goal

pub invariant_of-visits : goal.invariant_of-visits
invariant_of-visits c = record { visited = ∣ ready_visited (emit_ready c.args.e.now.ready) c.args.i c.requires.i_lt_count.0 ∣₁ }

pub edge_value-value-requires : goal.edge_value-value-requires
edge_value-value-requires c = record { i_in_bounds = (c.requires.i_lt_count.0, from_low (emit_ready c.args.e.now.ready) c.args.i c.args.j c.requires.i_lt_count.0 c.requires.i_lt_count.1 c.requires.fact); j_in_bounds = omega (arith, value_low (emit_ready c.args.e.now.ready) c.args.i c.args.j c.requires.i_lt_count.0 c.requires.i_lt_count.1 c.requires.fact) }

pub id_of-requires : goal.id_of-requires
id_of-requires c = record { count_nonzero = omega (arith, c.requires.i_lt_count.0); v_value = subst (Named (func_of c.args.e.now.func.now)) (sym c.edge_value-value.ensures) (value_names (emit_ready c.args.e.now.ready) c.args.i c.args.j c.requires.i_lt_count.0 c.requires.i_lt_count.1 c.requires.fact) }

pub block_label-requires : goal.block_label-requires
block_label-requires c = record { p_lt_count = from_low (emit_ready c.args.e.now.ready) c.args.i c.args.j c.requires.i_lt_count.0 c.requires.i_lt_count.1 c.requires.fact; not_stands = origin_kept (func_of c.args.e.now.func.now) c.args.i c.requires.fact }

pub returns : goal.returns
returns c =
    writes_same (writes_more c.put_id.ensures c.put_id-2.ensures)
    (ap₂ (λ (x y : ℕ). id x ∷ id y ∷ []) (c.id_of.ensures ∙ ap (id_in (func_of c.args.e.now.func.now) c.args.e.now.first) c.edge_value-value.ensures) c.block_label.ensures)
