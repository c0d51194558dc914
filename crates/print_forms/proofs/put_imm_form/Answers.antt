-- The immediates stand behind the first five words, the last of which counts them, and the form is put around them piece by piece.
use mathlib.Core.Path.{ap, ◌∙◌}
use mathlib.Core.List.{List}
use Prim.Native.Nat.{ℕ}
use lib.ListN.{drop}
use Rattle.lifting.specs.Words.{imms_from}
use Rattle.print_bytes.specs.Prints.{prints_more, prints_same}
use Rattle.print_bytes.specs.Lines.{imms_bytes, imm_form_bytes}
use Rattle.print_forms.proofs.put_imm_form.Goals as goal

pub returns : goal.returns
unfolding imm_form_bytes
returns c =
    let here =
    prints_same c.put_imms.ensures
    (ap (λ (w : List ℕ). imms_bytes (imms_from c.word.result w).got) c.rest.ensures
    ∙ ap (λ (n : ℕ). imms_bytes (imms_from n (drop 5 c.args.words.now)).got) c.word.ensures) in
    prints_more c.put_bytes.ensures (prints_more here c.put_byte.ensures)
