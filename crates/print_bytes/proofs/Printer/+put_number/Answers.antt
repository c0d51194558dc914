-- A number below ten is one digit (`digits_small`), and any other the digits of its tenth and its last one (`digits_large`).
use Rattle.std.proofs.Common.{◌≡◌, ℕ, ◌+◌, ◌%◌, ◌∷◌, [], sym, ap, subst, ◌∙◌, arith}
use Rattle.print_bytes.specs.declared.Printer.{Printer}
use Rattle.print_bytes.specs.Prints.{Prints, prints_more, prints_same}
use Rattle.print_bytes.specs.Lines.{digits_small, digits_large}
use Rattle.print_bytes.proofs.Printer.+put_number.Goals as goal
use Rattle.print_bytes.proofs.Printer.+put_number.Goals.{then-n-ge10, else-n-ge10}

pub returns : goal.returns
returns t c = elim c.if-n-ge10.branch [
  | then-n-ge10 w ↦
      let last = subst (λ (p : Printer). Prints p ((48 + c.args.n % 10) ∷ []) c.put_byte.new.self) w.self-is c.put_byte.ensures in
      prints_same (prints_more w.put_number.ensures last) (sym (digits_large c.args.n (omega arith) (omega arith)))
  | else-n-ge10 w ↦
      let one = subst (λ (p : Printer). Prints p ((48 + c.args.n % 10) ∷ []) c.put_byte.new.self) w.self-is c.put_byte.ensures in
      let digit : c.args.n % 10 ≡ c.args.n = omega arith in
      prints_same one (ap (λ (n : ℕ). (48 + n) ∷ []) digit ∙ sym (digits_small c.args.n (omega arith)))
]
