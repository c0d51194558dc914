-- The ids stand behind the immediates and their own count (`inst_ids`), and the form is put around them piece by piece.
use mathlib.Core.Path.{◌≡◌, sym, ap, ◌∙◌}
use Prim.Native.Nat.{ℕ, ◌+◌, ◌*◌}
use lib.ListN.{get_or, take, drop}
use Rattle.print_bytes.specs.Prints.{prints_more, prints_same}
use Rattle.print_bytes.specs.Lines.{ids_bytes, id_form_bytes}
use Rattle.print_bytes.specs.Taken.{imm_count, id_count, inst_ids}
use Rattle.print_forms.proofs.put_id_form.Goals as goal

pub returns : goal.returns
unfolding id_form_bytes
returns c =
    let imms : c.word-imms.result ≡ imm_count c.args.words.now = c.word-imms.ensures in
    let ids : c.word-ids.result ≡ id_count c.args.words.now =
    c.word-ids.ensures ∙ ap (λ (n : ℕ). get_or c.args.words.now (5 + 3 * n) 0) imms in
    let here =
    prints_same c.put_ids.ensures
    (ap ids_bytes
    (c.front.ensures
    ∙ ap (take c.word-ids.result) (c.rest.ensures ∙ ap (λ (n : ℕ). drop (6 + 3 * n) c.args.words.now) imms)
    ∙ ap (λ (n : ℕ). take n (drop (6 + 3 * imm_count c.args.words.now) c.args.words.now)) ids
    ∙ sym (inst_ids c.args.words.now))) in
    prints_more c.put_bytes.ensures (prints_more here c.put_byte.ensures)
