-- The list is counted by the same emitter that writes it: so the flag decides refusal 10, the place refusal 11 and what it tells, and the second pass writes the words.
use mathlib.Core.Path.{refl, sym, ◌∙◌}
use Prim.Native.Nat.{◌*◌, ◌≤◌, ◌<◌}
use native.Mathlib.Omega.{arith}
use lib.ListN.{length}
use borrow.Author.Tests.{le-leb, leb-true, lt-leb}
use Rattle.refusals.specs.declared.Refusal.TheVariants.{Values}
use Rattle.lifting.specs.Instructions.{list_of}
use Rattle.lifting.specs.Words.{words}
use Rattle.func.specs.Decode.{func_of}
use Rattle.lifting_sizes.proofs.Bound.{text_bound}
use Rattle.emit_output.specs.Emit.{wants_not}
use Rattle.emit_output.specs.Listed.{count_is, list_stands, room_is}
use Rattle.emit_output.proofs.Giving.{gives_list, gives_room, gives_values, missing_any, missing_none}
use Rattle.emit_output.proofs.counted_first.Goals as goal

pub returns-then-counted-ne0 : goal.returns-then-counted-ne0
returns-then-counted-ne0 c =
    let F = func_of c.args.l.now.emission.func.now in
    let p = c.args.l.now.emission.ready.passes in
    let n = length c.args.out.now in
    let L = list_of F c.args.l.now.emission.first in
    let g : n * 4 < 9223372036854775808 = c.well_formed.1.0.1 in
    record { gives = gives_values F c.args.l.now.emission.first n c.args.out.now (missing_any F c.args.l.now.emission.first p c.requires.first_value c.put_list-counted.ensures c.if-counted-ne0.true) c.from.ensures; wanted = wants_not Values _ c.from.ensures refl }

pub returns-then-out-counted : goal.returns-then-out-counted
returns-then-out-counted c =
    let F = func_of c.args.l.now.emission.func.now in
    let p = c.args.l.now.emission.ready.passes in
    let n = length c.args.out.now in
    let L = list_of F c.args.l.now.emission.first in
    let g : n * 4 < 9223372036854775808 = c.well_formed.1.0.1 in
    record { gives = gives_room F c.args.l.now.emission.first n c.args.out.now (missing_none F c.args.l.now.emission.first p c.requires.first_value c.put_list-counted.ensures c.if-counted-ne0.false) (sym (room_is L c.put_list-counted.ensures n (omega arith)) ∙ lt-leb _ n c.if-out-counted.true) _; wanted = λ z. count_is L c.put_list-counted.ensures (omega (arith, text_bound F c.args.l.now.emission.first p.limits p.references p.tree p.counts p.control)) }

pub returns : goal.returns
returns c =
    let F = func_of c.args.l.now.emission.func.now in
    let p = c.args.l.now.emission.ready.passes in
    let n = length c.args.out.now in
    let L = list_of F c.args.l.now.emission.first in
    let g : n * 4 < 9223372036854775808 = c.well_formed.1.0.1 in
    let l : c.put_list-counted.result.at ≤ n = omega arith in
    let f = sym (room_is L c.put_list-counted.ensures n (omega arith)) ∙ le-leb _ n l in
    let w : length (words L) ≤ n = leb-true (length (words L)) n f in
    record { gives = gives_list F c.args.l.now.emission.first n c.args.out.now (missing_none F c.args.l.now.emission.first p c.requires.first_value c.put_list-counted.ensures c.if-counted-ne0.false) f (count_is L c.put_list-counted.ensures (omega arith)) c.requires.next_value (list_stands L c.put_list.ensures w); wanted = tt }
