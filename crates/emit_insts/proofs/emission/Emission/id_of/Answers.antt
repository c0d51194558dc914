-- A value that names something of the text has its id in the tables (`known_stands`), which is what `value_id` asks.
use native.Mathlib.Omega.{arith}
use Rattle.emit_value_ids.specs.Later.{known_stands}
use Rattle.emit_insts.specs.Emitting.{emit_ready}
use Rattle.emit_insts.proofs.emission.Emission.id_of.Goals as goal

pub value_id-requires : goal.value_id-requires
value_id-requires c = record { known_value = known_stands (emit_ready c.args.self.now.ready).stands ((emit_ready c.args.self.now.ready).laid.walked c.requires.count_nonzero).walkable.shaped.targets.some_region _ c.requires.v_value; ids = c.args.self.now.ready.ids; ids_end_in_bounds = (omega (arith, c.args.self.now.ready.size), c.args.self.now.ready.low) }
