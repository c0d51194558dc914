-- Where the slice has room for any list and every value has an id, the list fits (`sure_room`) and no value that is used is missing (`sure_set`).
use native.Mathlib.Omega.{arith}
use lib.ListN.{length}
use borrow.Author.Tests.{le-leb}
use Rattle.lifting.specs.Instructions.{list_of}
use Rattle.func.specs.Decode.{func_of}
use Rattle.lifting_sizes.proofs.Bound.{text_bound}
use Rattle.emit_output.specs.Listed.{count_is, list_stands}
use Rattle.emit_output.specs.Sure.{sure_room, sure_set}
use Rattle.emit_output.proofs.Giving.{gives_list}
use Rattle.emit_output.proofs.at_once.Goals as goal

pub returns : goal.returns
returns c =
    let F = func_of c.args.l.now.emission.func.now in
    let p = c.args.l.now.emission.ready.passes in
    let n = length c.args.out.now in
    let L = list_of F c.args.l.now.emission.first in
    let room = sure_room F c.args.l.now.emission.first n c.requires.out_value p in
    record {
      gives = gives_list F c.args.l.now.emission.first n c.args.out.now (sure_set F c.args.l.now.emission.first n c.requires.out_value p c.requires.first_value) (le-leb _ n room)
          (count_is L c.put_list-end.ensures (omega (arith, text_bound F c.args.l.now.emission.first p.limits p.references p.tree p.counts p.control))) c.requires.next_value (list_stands L c.put_list-end.ensures room);
      wanted = tt;
    }
