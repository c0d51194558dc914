-- The front and the function type's id are appended one behind the other, and with the fields of the func line for their words they are the head
-- (`head_is`).
use mathlib.Core.Path.{refl, ap}
use mathlib.Core.List.{[], ◌∷◌}
use Prim.Native.Nat.{ℕ}
use Rattle.func.specs.Decode.{func_of}
use Rattle.emit_words.specs.Put.Item.{id}
use Rattle.emit_words.specs.Writes.{writes_more, writes_same}
use Rattle.emit_insts.specs.Parts.{front_same}
use Rattle.lifting.specs.Instructions.{function_control, short}
use Rattle.emit_list.specs.Points.{head_is}
use Rattle.emit_list.proofs.put_function.Goals as goal

pub returns : goal.returns
returns c =
    let F = func_of c.args.e.now.func.now in
    writes_same
    (writes_more (writes_same c.put_front.ensures (front_same _ c.opcode.ensures c.head-head.ensures.attrs c.head-head.ensures.ret refl (ap (short function_control) c.head-head.ensures.control)))
    (writes_same c.put_id.ensures (ap (λ (x : ℕ). id x ∷ []) c.head-head.ensures.ty))) (head_is F c.args.e.now.first)
