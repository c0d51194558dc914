-- All is printed: the buffer has room for it.
use Rattle.std.proofs.Common.{◌≡◌, ℕ, ◌++◌, take, sym, ap, subst, ◌∙◌, arith}
use Rattle.std.proofs.Math.Seq.{length-take-le}
use Rattle.std.proofs.lemmas.Result.{on_ok_weaker}
use Rattle.std.specs.Io.KnownBytes.{Appends}
use Rattle.lifting.specs.Bytes.{bytes}
use Rattle.print_bytes.specs.Put.{put_bytes_length, put_fits, put_low}
use Rattle.print_command.specs.Printed.{case_bytes}
use Rattle.print_command.specs.Room.{case_room}
use Rattle.print_command.proofs.print_case_by.Goals as goal

pub slice_bounds-write_all-end : goal.slice_bounds-write_all-end
slice_bounds-write_all-end g c = let p = c.put_case-n.ensures.printed in omega (arith, put_low p (case_room c.args.case.now), put_bytes_length p, c.requires)

pub slice_bounds-write_all-end-2 : goal.slice_bounds-write_all-end-2
slice_bounds-write_all-end-2 g c =
    let p = c.put_case-n.ensures.printed in
    sym (length-take-le _ _ (omega (arith, put_low p (case_room c.args.case.now), put_bytes_length p, c.requires)))

pub returns : goal.returns
returns g c =
    let p = c.put_case-n.ensures.printed in
    let fits = put_fits p (omega (arith, case_room c.args.case.now, c.requires)) in
    let same : take c.put_case-n.result c.put_case-n.new.out ≡ case_bytes c.args.case.now ++ bytes "%%\n" =
    ap (λ (n : ℕ). take n c.put_case-n.new.out) fits.0 ∙ fits.1 in
    record { printed = on_ok_weaker c.write_all.result (subst (Appends _ _) same) c.write_all.ensures.bytes; out_len_unchanged = put_bytes_length p }
