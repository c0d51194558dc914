-- How many bytes a printed list has: at most twelve for each of its words. Assumes nothing.
--     list_room    a list's bytes by its words
use Rattle.std.proofs.Common.{ap, arith, length-append}
use Rattle.std.specs.Prelude.{List, [], ◌∷◌, ℕ, ◌*◌, ◌≤◌, length}
use Rattle.lifting.specs.Ast.{Imm}
use Rattle.lifting.specs.Instructions.{Instruction}
use Rattle.lifting.specs.Words.{imms_words, inst_words, words}
use Rattle.print_bytes.specs.Shown.{inst_bytes, list_bytes}
use Rattle.print_bytes.specs.Lines.{digits_length, field_bytes, imm_bytes, imms_bytes, ids_bytes, head_bytes, imm_form_bytes, id_form_bytes, inst_is}

imm_room : (m : Imm) → length (imm_bytes m) ≤ 35
unfolding imm_bytes
imm_room m = simp length-append (omega (arith, digits_length m.kind, digits_length m.operand, digits_length m.word))

imms_room : (l : List Imm) → length (imms_bytes l) ≤ 12 * length (imms_words l)
unfolding imms_bytes
imms_room [] = omega arith
imms_room (m ∷ l) = omega (arith, length-append (imm_bytes m) (imms_bytes l), imm_room m, imms_room l)

ids_room : (l : List ℕ) → length (ids_bytes l) ≤ 12 * length l
unfolding ids_bytes
ids_room [] = omega arith
ids_room (x ∷ l) = omega (arith, length-append (field_bytes x) (ids_bytes l), digits_length x, ids_room l)

head_room : (o a t r : ℕ) → length (head_bytes o a t r) ≤ 44
unfolding head_bytes
head_room o a t r = simp length-append (omega (arith, digits_length o, digits_length a, digits_length t, digits_length r))

inst_room : (i : Instruction) → length (inst_bytes i) ≤ 12 * length (inst_words i)
unfolding inst_words imm_form_bytes id_form_bytes
inst_room i =
    let e = simp length-append at (ap length (inst_is i)) in
    omega (
      arith,
      head_room i.opcode i.attrs i.type i.result,
      imms_room i.imms,
      ids_room i.ids,
      length-append (imms_words i.imms) (length i.ids ∷ i.ids),
    )

pub list_room : (l : List Instruction) → length (list_bytes l) ≤ 12 * length (words l)
unfolding list_bytes words
list_room [] = omega arith
list_room (i ∷ l) = omega (arith, length-append (inst_bytes i) (list_bytes l), length-append (inst_words i) (words l), inst_room i, list_room l)
