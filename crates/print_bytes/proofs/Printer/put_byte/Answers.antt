-- Within the slice the byte is stored, and to set one past the end changes nothing (`set_out`); the place is the next one.
use Rattle.std.proofs.Common.{sym, ap, ◌∙◌, arith}
use lib.Seq.{set_out}
use Rattle.print_bytes.specs.declared.Printer.{Printer}
use Rattle.print_bytes.specs.Prints.{prints_one}
use Rattle.print_bytes.proofs.Printer.put_byte.Goals as goal
use Rattle.print_bytes.proofs.Printer.put_byte.Goals.{then-at-self, else-at-self}

pub returns : goal.returns
returns c = elim c.if-at-self.branch [
  | then-at-self w ↦
      prints_one c.args.b (omega arith) (ap (λ (p : Printer). p.out.ghost_name) w.self-is) (ap (λ (p : Printer). p.out.now) w.self-is)
      (omega (arith, ap (λ (p : Printer). p.at) w.self-is))
  | else-at-self w ↦
      prints_one c.args.b (omega arith) (ap (λ (p : Printer). p.out.ghost_name) w.self-is)
      (ap (λ (p : Printer). p.out.now) w.self-is ∙ sym (set_out _ _ _ (omega (arith, w.if-at-self.false))))
      (omega (arith, ap (λ (p : Printer). p.at) w.self-is))
]
