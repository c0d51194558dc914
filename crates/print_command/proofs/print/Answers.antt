-- All is printed: the buffer has room for it.
use Rattle.std.proofs.Common.{◌≡◌, ℕ, take, sym, ap, subst, ◌∙◌, arith}
use Rattle.std.proofs.Math.Seq.{length-take-le}
use Rattle.std.proofs.lemmas.Result.{on_ok_weaker}
use Rattle.std.specs.Io.KnownBytes.{Appends}
use Rattle.print_bytes.specs.Put.{put_bytes_length, put_fits, put_low}
use Rattle.print_command.specs.Printed.{printed_for}
use Rattle.print_command.specs.Room.{printed_room}
use Rattle.print_command.proofs.print.Goals as goal

pub slice_bounds-out-end : goal.slice_bounds-out-end
slice_bounds-out-end g c = let p = c.put-n.ensures.printed in omega (arith, put_low p (printed_room _ _), put_bytes_length p)

pub slice_bounds-write_all-end : goal.slice_bounds-write_all-end
slice_bounds-write_all-end g c =
    let p = c.put-n.ensures.printed in
    sym (length-take-le _ _ (omega (arith, put_low p (printed_room _ _), put_bytes_length p)))

pub returns : goal.returns
returns g c =
    let p = c.put-n.ensures.printed in
    let fits = put_fits p (omega (arith, printed_room c.args.command c.args.input.now)) in
    let same : take c.put-n.result c.put-n.new.out ≡ printed_for c.args.command c.args.input.now =
    ap (λ (n : ℕ). take n c.put-n.new.out) fits.0 ∙ fits.1 in
    record { printed = on_ok_weaker c.write_all.result (subst (Appends _ _) same) c.write_all.ensures.bytes }
