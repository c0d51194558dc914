-- The four parts are appended one behind the other, and of a function that passes the tests the list is these parts in this order (`list_is`).
use mathlib.Core.Path.{sym, ap}
use Rattle.func.specs.Decode.{func_of}
use Rattle.lifting_blocks.specs.Flat.{up_to}
use Rattle.std.proofs.Common.{arith, rules}
use Rattle.emit_words.specs.Writes.{writes_end, writes_more, writes_same}
use Rattle.emit_list.specs.Points.{list_is, point_items}
use Rattle.emit_list.specs.Over.{shaped_passes}
use Rattle.emit_list.proofs.put_list.Goals as goal

pub returns : goal.returns
returns c =
    let F = func_of c.args.l.now.emission.func.now in
    writes_end
    (writes_same
    (writes_more c.put_function.ensures (writes_more c.put_params.ensures
    (writes_more (writes_same c.put_points.ensures (ap (up_to (point_items F c.args.l.now.emission.first)) c.args.l.now.emission.ready.count)) c.put_last.ensures)))
    (sym (list_is F c.args.l.now.emission.first (shaped_passes F c.args.l.now.emission.ready.passes))))
    (omega arith) (search rules)
