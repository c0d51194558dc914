use Rattle.std.proofs.Common.{◌≡◌, List, ℕ, ◌+◌, ◌-◌, ◌<◌, ◌≤◌, ◌++◌, sym, ap, ◌∙◌, inl, inr, arith, length, take, drop}
use Rattle.lifting.specs.Words.{imms_from}
use Rattle.print_bytes.specs.Prints.{printing_more, printing_done}
use Rattle.print_bytes.specs.Lines.{imm_bytes, imms_bytes}
use Rattle.print_bytes.specs.Taken.{imm_at, imms_next, imms_none, tail_part}
use Rattle.print_operands.proofs.put_imms.Goals as goal

-- the next immediate, and those of the words behind it
next : (n k : ℕ) (w : List ℕ) → k < n → 3 ≤ length w
    → imms_bytes (imms_from (n - k) w).got ≡ imm_bytes (imm_at w 0) ++ imms_bytes (imms_from (n - (k + 1)) (take (length w - 3) (drop 3 w))).got
unfolding imms_bytes
next n k w h l =
    let one_less : n - k - 1 ≡ n - (k + 1) = omega arith in
    ap imms_bytes (imms_next (n - k) 0 w (omega arith) l)
    ∙ ap (λ (m : ℕ). imm_bytes (imm_at w 0) ++ imms_bytes (imms_from m (drop 3 w)).got) one_less
    ∙ ap (λ (v : List ℕ). imm_bytes (imm_at w 0) ++ imms_bytes (imms_from (n - (k + 1)) v).got) (sym (tail_part 3 w))

pub loop-preserved : goal.loop-preserved
loop-preserved c = printing_more c.loop.invariant c.put_imm.ensures (next c.args.n c.loop.counter c.loop.left.now (omega arith) c.in-len3-up.len_at_least)

pub returns-after-loop : goal.returns-after-loop
unfolding imms_bytes
returns-after-loop c = printing_done c.loop.invariant (ap imms_bytes (imms_none (c.args.n - c.loop.counter) c.loop.left.now (inl (omega arith))))

pub returns-in_default : goal.returns-in_default
unfolding imms_bytes
returns-in_default c = printing_done c.loop.invariant (ap imms_bytes (imms_none (c.args.n - c.loop.counter) c.loop.left.now (inr c.in_default.len_below)))
