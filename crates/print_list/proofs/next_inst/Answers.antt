-- Where more words follow, the next place is behind the instruction; where none do, it is the end, behind which as little is left (`drop_past`).
-- Either way the place moves on.
use mathlib.Core.Path.{◌≡◌, ap, sym, ◌∙◌}
use Prim.Native.Nat.{ℕ, ◌+◌, ◌≤◌}
use native.Mathlib.Omega.{arith}
use lib.ListN.{length, drop}
use Rattle.print_bytes.specs.Taken.{drop_past, inst_size}
use Rattle.print_bytes.specs.Taken.{tail_part}
use Rattle.print_list.proofs.next_inst.Goals as goal

pub returns-then-size-words : goal.returns-then-size-words
returns-then-size-words c =
    let e : c.inst_size-size.result ≡ inst_size (drop c.args.from c.args.words.now) = c.inst_size-size.ensures ∙ ap inst_size (tail_part c.args.from c.args.words.now) in
    record { moved = omega arith; fits = omega arith; same = ap (λ (n : ℕ). drop (c.args.from + n) c.args.words.now) e }

pub returns : goal.returns
returns c =
    let e : c.inst_size-size.result ≡ inst_size (drop c.args.from c.args.words.now) = c.inst_size-size.ensures ∙ ap inst_size (tail_part c.args.from c.args.words.now) in
    let h : length c.args.words.now ≤ c.args.from + inst_size (drop c.args.from c.args.words.now) = omega arith in
    record { moved = omega arith; fits = omega arith; same = drop_past (length c.args.words.now) c.args.words.now (omega arith) ∙ sym (drop_past _ c.args.words.now h) }
