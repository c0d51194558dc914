-- The kind's word, the number and the sign are put one behind the other; an even number is an entry, with `+`, an odd one an exit, with `-`.
use mathlib.Core.Path.{sym, ap}
use mathlib.Core.Bool.{Bool, cond}
use mathlib.Core.List.{◌++◌}
use Prim.Native.Nat.{◌/◌, ◌%◌}
use borrow.Author.Tests.{eq-eqb, ne_eqb}
use Rattle.lifting.specs.Bytes.{bytes}
use Rattle.lifting.specs.Digits.{digits}
use Rattle.print_bytes.specs.Prints.{prints_more, prints_same}
use Rattle.print_points.proofs.put_side.Goals as goal

pub returns-then-x-eq0 : goal.returns-then-x-eq0
returns-then-x-eq0 c =
    prints_same (prints_more c.put_bytes.ensures (prints_more c.put_number.ensures c.put_byte.ensures))
    (ap (λ (t : Bool). c.args.kind.now ++ (digits (c.args.x / 2) ++ cond t (bytes "+") (bytes "-"))) (sym (eq-eqb (c.args.x % 2) 0 c.if-x-eq0.true)))

pub returns-else-x-eq0 : goal.returns-else-x-eq0
returns-else-x-eq0 c =
    prints_same (prints_more c.put_bytes.ensures (prints_more c.put_number.ensures c.put_byte-else-x-eq0.ensures))
    (ap (λ (t : Bool). c.args.kind.now ++ (digits (c.args.x / 2) ++ cond t (bytes "+") (bytes "-"))) (sym (ne_eqb (c.args.x % 2) 0 c.if-x-eq0.false)))
