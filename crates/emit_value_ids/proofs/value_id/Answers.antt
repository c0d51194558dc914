-- Each kind of value has its id where the tables say: a constant's own, an input's or output's in its run behind the first one, a result's in its
-- word (`read_const` to `read_result`).
use Rattle.std.proofs.Common.{refl, sym, ap, ◌∙◌, arith}
use Rattle.func.specs.Decode.{func_of}
use Rattle.func.specs.Kinds.{as_value}
use Rattle.emit_names.specs.Ids.{id_in}
use Rattle.emit_value_ids.proofs.Reading.{input_room_law, known_as, output_room, read_const, read_input, read_output, read_result, result_low}
use Rattle.emit_value_ids.proofs.value_id.Goals as goal

pub later-requires-clause-i_bound : goal.later-requires-clause-i_bound
later-requires-clause-i_bound c =
    (input_room_law c.requires.ids (known_as c.requires.known_value (ap as_value c.in-Input.is)) c.requires.ids_end_in_bounds.0 c.requires.ids_end_in_bounds.1 refl).1

pub later-requires-in-Output : goal.later-requires-in-Output
later-requires-in-Output c =
    let r = output_room c.requires.ids (known_as c.requires.known_value (ap as_value c.in-Output.is)) c.requires.ids_end_in_bounds.0 c.requires.ids_end_in_bounds.1 refl in
    record { s_in_bounds = r.0; i_bound = r.1 }

pub bounds-work-o : goal.bounds-work-o
bounds-work-o c = omega (arith, result_low c.requires.ids (known_as c.requires.known_value (ap as_value c.in-Result.is)))

pub returns-in-Const : goal.returns-in-Const
returns-in-Const c =
    let e = ap as_value c.in-Const.is in
    read_const (func_of c.args.func.now) c.args.first c.in-Const.n refl c.constant.ensures.id ∙ ap (id_in (func_of c.args.func.now) c.args.first) (sym e)

pub returns-in-Input : goal.returns-in-Input
returns-in-Input c =
    let e = ap as_value c.in-Input.is in
    read_input c.requires.ids (known_as c.requires.known_value e) refl c.later.ensures ∙ ap (id_in (func_of c.args.func.now) c.args.first) (sym e)

pub returns-in-Output : goal.returns-in-Output
returns-in-Output c =
    let e = ap as_value c.in-Output.is in
    read_output c.requires.ids (known_as c.requires.known_value e) refl c.later-in-Output.ensures ∙ ap (id_in (func_of c.args.func.now) c.args.first) (sym e)

pub returns-in-Result : goal.returns-in-Result
returns-in-Result c =
    let e = ap as_value c.in-Result.is in
    read_result c.requires.ids (known_as c.requires.known_value e) refl ∙ ap (id_in (func_of c.args.func.now) c.args.first) (sym e)
