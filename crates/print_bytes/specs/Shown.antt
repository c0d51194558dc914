-- Document 01, 'The instruction list': what the program prints. A line is a format of the text's own kinds, so that what is printed can be
-- read back: numbers in base ten, forms in brackets, single spaces, byte 10 at each line's end. Assumes nothing.
--     inst_bytes, list_bytes, refused_bytes     the bytes of an instruction's line, of a list, and of a refusal
--     list_read                              a printed list, read, is the list
--     listing_printed                        document 01's listing
use Rattle.std.specs.Prelude.{◌≡◌, refl, List, [], ◌∷◌, ◌++◌, ℕ}
use Rattle.std.proofs.Common.{ap}
use Rattle.std.proofs.Math.Option.{some}
use Rattle.lifting.specs.Bytes.{bytes}
use Rattle.lifting.specs.Digits.{digits, digits_to}
use Rattle.lifting.specs.Codec.{Codec, Whole, strip, lit, num, seq, same, view_as, many, list}
use Rattle.lifting.specs.Whole.{end, read_whole}
use Rattle.lifting.specs.Ast.{Imm}
use Rattle.lifting.specs.Grammar.{before, after_word, spaced, sub, closed, line, field, open1, one_codec, numbers_codec, imm_codec, imms_codec}
use Rattle.lifting.specs.Instructions.{Instruction, short, function_control}
use Rattle.lifting.proofs.Codec.{Inverse, many_inverse, same_inverse, seq_inverse}
use Rattle.lifting.proofs.Grammar.{after_word_inverse, closed_inverse, field_inverse, imms_codec_inverse, numbers_codec_inverse, open1_inverse, sub_inverse}
use Rattle.lifting.proofs.Whole.{end_inverse, whole_full}

-- `(OPCODE ATTRS TYPE RESULT (imms (KIND OPERANDKIND WORD)..) (ids ID..))` and byte 10
abbrev pub InstForm : Type 0
InstForm = ℕ × (ℕ × (ℕ × (ℕ × (List Imm × List ℕ))))

unfoldable pub instruction_form : Codec InstForm
instruction_form = after_word (closed (seq open1 (seq field (seq field (seq field (seq (sub "imms" imms_codec) (sub "ids" numbers_codec))))))) (bytes "\n") refl

-- the line of an instruction
unfoldable pub inst_line : Codec Instruction
inst_line =
    same instruction_form
    (λ x. record { opcode = x.0; attrs = x.1.0; type = x.1.1.0; result = x.1.1.1.0; imms = x.1.1.1.1.0; ids = x.1.1.1.1.1 })
    (λ i. (i.opcode, (i.attrs, (i.type, (i.result, (i.imms, i.ids)))))) (λ i. refl) (λ x. refl)

pub inst_form_inverse : Inverse instruction_form
unfolding instruction_form
inst_form_inverse =
    after_word_inverse
    (closed_inverse (seq_inverse open1_inverse (seq_inverse field_inverse (seq_inverse field_inverse (seq_inverse field_inverse (seq_inverse (sub_inverse "imms" imms_codec_inverse) (sub_inverse "ids" numbers_codec_inverse)))))))
    (bytes "\n") refl

pub inst_line_inverse : Inverse inst_line
unfolding inst_line
inst_line_inverse =
    same_inverse inst_form_inverse
    (λ x. record { opcode = x.0; attrs = x.1.0; type = x.1.1.0; result = x.1.1.1.0; imms = x.1.1.1.1.0; ids = x.1.1.1.1.1 })
    (λ i. (i.opcode, (i.attrs, (i.type, (i.result, (i.imms, i.ids)))))) (λ i. refl) (λ x. refl)

-- its bytes
unfoldable pub inst_bytes : Instruction → List ℕ
inst_bytes i = inst_line.print i

-- a line for each instruction, as a format
unfoldable pub listing : Whole (List Instruction × Unit {0})
unfolding end inst_line instruction_form closed after_word open1 lit num seq same view_as strip
listing = many inst_line end (λ u r. refl)

pub listing_inverse : Inverse listing
unfolding listing end inst_line instruction_form closed after_word open1 lit num seq same view_as strip
listing_inverse = many_inverse inst_line_inverse end_inverse (λ u r. refl)

-- the bytes of a list
unfoldable pub list_bytes : List Instruction → List ℕ
unfolding inst_bytes
list_bytes [] = []
list_bytes (i ∷ l) = inst_bytes i ++ list_bytes l

-- `(refused N)` and byte 10
unfoldable pub refused_bytes : ℕ → List ℕ
refused_bytes n = (line "refused" one_codec).print n

-- a printed list can be read: where its numbers fit 32 bits, it is the list again
pub printed_listing : (l : List Instruction) → listing.print (l, tt) ≡ list_bytes l
unfolding listing many end list_bytes inst_bytes
printed_listing [] = refl
printed_listing (i ∷ l) = ap (λ (t : List ℕ). inst_bytes i ++ t) (printed_listing l)

pub list_read : (l : List Instruction) → listing.Ok (l, tt) → read_whole listing (list_bytes l) ≡ some (l, tt)
list_read l ok = rw (printed_listing l) at (whole_full listing_inverse (l, tt) ok)

-- document 01's listing
abbrev inst_of : ℕ → ℕ → ℕ → ℕ → List Imm → List ℕ → Instruction
inst_of o a t r ms xs = record { opcode = o; attrs = a; type = t; result = r; imms = ms; ids = xs }

abbrev pub listed : List Instruction
listed =
    inst_of 54 0 2 10 (short function_control 0) (3 ∷ [])
    ∷ inst_of 248 0 0 12 [] []
    ∷ inst_of 128 0 4 11 [] (5 ∷ 5 ∷ [])
    ∷ inst_of 253 0 0 0 [] []
    ∷ inst_of 56 0 0 0 [] []
    ∷ []

pub listing_printed : list_bytes listed ≡ bytes "(54 0 2 10 (imms (0 1 0)) (ids 3))\n(248 0 0 12 (imms) (ids))\n(128 0 4 11 (imms) (ids 5 5))\n(253 0 0 0 (imms) (ids))\n(56 0 0 0 (imms) (ids))\n"
unfolding list_bytes inst_bytes inst_line instruction_form field open1 numbers_codec imm_codec imms_codec sub spaced closed before after_word lit num seq same view_as list many digits digits_to
listing_printed = refl

pub refusal_printed : refused_bytes 11 ≡ bytes "(refused 11)\n"
unfolding refused_bytes line one_codec field closed before after_word lit num seq same view_as digits digits_to
refusal_printed = refl
