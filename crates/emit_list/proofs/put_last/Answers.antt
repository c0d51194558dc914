-- The function's end is a front alone, with no ids behind it (`last_is`).
use mathlib.Core.Path.{refl, ◌∙◌}
use Rattle.func.specs.Decode.{func_of}
use Rattle.emit_words.specs.Writes.{writes_same}
use Rattle.emit_insts.specs.Parts.{front_same}
use Rattle.emit_list.specs.Points.{last_is}
use Rattle.emit_list.proofs.put_last.Goals as goal

pub returns : goal.returns
returns c =
    let F = func_of c.args.e.now.func.now in
    writes_same c.put_front.ensures (front_same _ c.opcode.ensures refl refl refl refl ∙ last_is F c.args.e.now.first)
