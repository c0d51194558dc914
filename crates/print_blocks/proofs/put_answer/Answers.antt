-- An accepted text stands in the function slice over a clear work slice (`accepted`, `work_cleared`), which is what its lines ask; of any other the
-- refusal's line is put.
use mathlib.Core.Path.{sym, ap, subst, ◌∙◌}
use Prim.Native.Nat.{ℕ}
use mathlib.Core.List.{List}
use lib.ListN.{length}
use Rattle.lifting.specs.Answer as answer
use Rattle.func.specs.Decode.{func_of}
use Rattle.refusals.specs.declared.Refusal.{Refusal}
use Rattle.std.specs.Prelude.{Result}
use Rattle.check_text.specs.Same.{Stands}
use Rattle.reader.specs.Parse.{answer_of, work_after}
use Rattle.reader.specs.Same.{accepted, work_cleared}
use Rattle.print_bytes.specs.Put.{put_bytes_same}
use Rattle.print_bytes.specs.Shown.{refused_bytes}
use Rattle.print_lines.specs.Lines.{block_lines, blocks_bytes}
use Rattle.print_blocks.specs.Stand.{LaidOut, WorkAfter}
use Rattle.print_blocks.proofs.put_answer.Goals as goal

pub new-requires : goal.new-requires
new-requires c =
    let e = ap (λ (r : Result Unit Refusal). answer_of r c.parse.new.func) (sym c.in-Ok.is) ∙ c.parse.ensures.func_after in
    (accepted c.args.text.now c.args.func.now c.parse.new.func (length c.args.work.now) e c.parse.ensures.func_after_2).tables

pub put_function-requires : goal.put_function-requires
put_function-requires c =
    let e = ap (λ (r : Result Unit Refusal). answer_of r c.parse.new.func) (sym c.in-Ok.is) ∙ c.parse.ensures.func_after in
    let z = work_cleared c.args.text.now c.args.func.now c.parse.new.func c.args.work.now c.parse.new.work e c.parse.ensures.work_after in
    record { stands = subst (λ (w : List ℕ). Stands (func_of w) w) (sym c.new.ensures) (accepted c.args.text.now c.args.func.now c.parse.new.func (length c.args.work.now) e c.parse.ensures.func_after_2); work_need_in_bounds = z.0 }

pub returns-in-Ok : goal.returns-in-Ok
unfolding blocks_bytes
returns-in-Ok c =
    let e = ap (λ (r : Result Unit Refusal). answer_of r c.parse.new.func) (sym c.in-Ok.is) ∙ c.parse.ensures.func_after in
    record {
      put_bytes = put_bytes_same c.put_function.ensures.put_bytes (ap (λ (w : List ℕ). block_lines (func_of w)) c.new.ensures ∙ ap blocks_bytes e);
      func_after = c.parse.ensures.func_after_2;
      work_after = subst (λ (r : answer.Parsed). WorkAfter r c.args.work.now c.put_function.new.work) e
          (subst (λ (z : List ℕ). LaidOut (func_of c.parse.new.func) (func_of c.parse.new.func).regions z c.put_function.new.work) (c.parse.ensures.work_after ∙ ap (λ (r : answer.Parsed). work_after r c.args.work.now) (sym e)) (subst (λ (w : List ℕ). LaidOut (func_of w) (func_of w).regions c.parse.new.work c.put_function.new.work) c.new.ensures c.put_function.ensures.laid_out));
    }

pub returns-in-Err : goal.returns-in-Err
unfolding blocks_bytes
returns-in-Err c =
    let e = ap (λ (r : Result Unit Refusal). answer_of r c.parse.new.func) (sym c.in-Err.is) ∙ c.parse.ensures.func_after in
    record { put_bytes = put_bytes_same c.refused.ensures (ap refused_bytes c.from.ensures ∙ ap blocks_bytes e); func_after = c.parse.ensures.func_after_2; work_after = subst (λ (r : answer.Parsed). WorkAfter r c.args.work.now c.parse.new.work) e (c.parse.ensures.work_after ∙ ap (λ (r : answer.Parsed). work_after r c.args.work.now) (sym e)) }
