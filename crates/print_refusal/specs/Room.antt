-- How many bytes a refusal's line has. Assumes nothing.
--     refused_room    at most 21
use Rattle.std.proofs.Common.{ap, arith, length-append}
use Rattle.std.specs.Prelude.{◌++◌, ℕ, ◌≤◌, length}
use Rattle.lifting.specs.Bytes.{bytes}
use Rattle.print_bytes.specs.Shown.{refused_bytes}
use Rattle.print_bytes.specs.Lines.{digits_length, field_bytes, refused_is}

pub refused_room : (n : ℕ) → length (refused_bytes n) ≤ 21
refused_room n =
    omega (
      arith,
      ap length (refused_is n),
      length-append (bytes "(refused") (field_bytes n ++ bytes ")\n"),
      length-append (field_bytes n) (bytes ")\n"),
      digits_length n,
    )
