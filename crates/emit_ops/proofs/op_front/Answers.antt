-- Each field that is looked up is the op's own, and the result is the one for the op's type, so that the front is the op's.
use mathlib.Core.Path.{ap, ◌∙◌}
use Prim.Native.Nat.{ℕ}
use Rattle.lifting.specs.Walk.{walk_of}
use Rattle.lifting.specs.Absorb.{kept}
use Rattle.lifting.specs.Instructions.{result_id}
use Rattle.func.specs.Decode.{func_of}
use Rattle.emit_words.specs.Writes.{writes_same}
use Rattle.emit_insts.specs.Parts.{front_same}
use Rattle.emit_ops.proofs.op_front.Goals as goal

pub returns : goal.returns
returns c =
    let F = func_of c.args.e.now.func.now in
    writes_same c.put_front.ensures
    (front_same _ c.op_opcode.ensures c.op_slot-slot.ensures.attrs c.op_slot-slot.ensures.ty
    (c.result_of-result.ensures ∙ ap (λ (t : ℕ). result_id F c.args.e.now.first (walk_of F) (kept (walk_of F)) t c.args.o) c.op_slot-slot.ensures.ty) c.op_imms-imms.ensures.is)
