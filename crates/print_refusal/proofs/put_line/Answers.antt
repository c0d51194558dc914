-- Of each answer the bytes that are put, one piece behind the other, are those of its line.
use Rattle.std.proofs.Common.{◌≡◌, List, ◌++◌, ℕ, sym, ap, subst, ◌∙◌, arith, rules}
use Rattle.lifting.specs.Bytes.{bytes}
use Rattle.lifting.specs.Digits.{digits}
use Rattle.print_bytes.specs.declared.Printer.{Printer}
use Rattle.print_bytes.specs.Prints.{Prints, prints_end, prints_more, prints_same}
use Rattle.print_refusal.specs.Line.{line_of}
use Rattle.print_refusal.proofs.put_line.Goals as goal
use Rattle.print_refusal.proofs.put_line.Goals.{in-Ok, in-Err}

-- the printer behind the cases is the one that the case left
left : {a b r : Printer} {l : List ℕ} → Prints a l b → r ≡ b → Prints a l r
left {a} {l = l} p e = subst (λ (x : Printer). Prints a l x) (sym e) p

pub returns : goal.returns
unfolding line_of
returns c = elim c.match-parsed.branch [
  | in-Ok w ↦ prints_end (left (prints_same w.put_bytes.ensures (sym (ap line_of w.in-Ok.is))) w.line-is) (omega arith) (search rules)
  | in-Err w ↦
      let line = ap (λ (k : ℕ). digits k ++ bytes "\n") w.from.ensures ∙ sym (ap line_of w.in-Err.is) in
      prints_end (left (prints_same (prints_more w.put_number.ensures w.put_byte.ensures) line) w.line-is) (omega arith) (search rules)
]
