-- The word of the i-th visited point is its number, so that the label is the point's own, and its phis come behind it.
use mathlib.Core.Path.{sym, ap, ◌∙◌}
use native.Mathlib.Omega.{arith}
use Rattle.func.specs.Decode.{func_of}
use Rattle.walk_points.specs.Numbers.{point_low, point_of}
use Rattle.terminators.specs.At.{point_at}
use Rattle.terminators.specs.Visited.{point_small, point_word, point_read}
use Rattle.emit_words.specs.Writes.{writes_more, writes_same}
use Rattle.emit_insts.specs.Parts.{start_in}
use Rattle.emit_insts.specs.Ready.{ready_visited}
use Rattle.emit_insts.specs.Emitting.{emit_ready}
use Rattle.emit_list.proofs.put_start.Goals as goal

pub put_label-requires : goal.put_label-requires
put_label-requires c =
    let F = func_of c.args.l.now.emission.func.now in
    let k = ready_visited (emit_ready c.args.l.now.emission.ready) c.args.i c.requires.i_lt_count.0 in
    record { q_bound = omega (arith, c.number-q.ensures, point_word k c.args.i c.requires.i_lt_count.0, point_low (point_at F c.args.i) (point_small k c.args.i c.requires.i_lt_count.0)) }

pub put_phis-requires : goal.put_phis-requires
put_phis-requires c = record { linked = c.args.l.now.linked; i_lt_count = c.requires.i_lt_count.0 }

pub returns : goal.returns
returns c =
    let F = func_of c.args.l.now.emission.func.now in
    let k = ready_visited (emit_ready c.args.l.now.emission.ready) c.args.i c.requires.i_lt_count.0 in
    writes_more (writes_same c.put_label.ensures (ap (start_in F c.args.l.now.emission.first) (ap point_of c.number-q.ensures ∙ sym (point_read k c.args.i c.requires.i_lt_count.0)))) c.put_phis.ensures
