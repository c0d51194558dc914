-- What the lifter promises of its answer tells that a list's words stand in the output slice, and the bytes of the answer are those of that list
-- or of the refusal (`lifted_bytes_law`).
use Rattle.print_bytes.specs.Put.{put_bytes_same}
use Rattle.print_lifted.specs.Input.{lifted_bytes_law, lifted_stands}
use Rattle.print_lifted.proofs.put_text.Goals as goal

pub put_lifted-requires : goal.put_lifted-requires
put_lifted-requires c = lifted_stands c.args.text.now c.args.func.now c.args.work.now c.args.out.now _ c.args.first c.lift_function-r.result c.lift_function-r.ensures.told c.lift_function-r.ensures.out_slice

pub returns : goal.returns
returns c = record { put_bytes = put_bytes_same c.put_lifted.ensures (lifted_bytes_law c.args.text.now c.args.func.now c.args.work.now c.args.out.now _ c.args.first c.lift_function-r.result c.lift_function-r.ensures.told c.lift_function-r.ensures.out_slice); func_after = c.lift_function-r.ensures.func_slice; work_after = c.lift_function-r.ensures.work_slice; out_after = c.lift_function-r.ensures.out_slice }
