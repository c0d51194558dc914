-- The bytes of a line in the order in which they are put: what stands in brackets, without the bracket that ends it. Assumes nothing.
--     digits_small, digits_large           a number of one digit, and one of more
--     digits_length                        a number has at most ten digits
--     imm_is, imms_are, ids_are            the forms of the immediates and of the ids
--     inst_is, refused_is                  a line, piece by piece
use Rattle.std.specs.Prelude.{◌≡◌, refl, Bool, true, false, List, [], ◌∷◌, ◌++◌, ℕ, zero, suc, ◌+◌, ◌*◌, ◌/◌, ◌%◌, ◌≤◌, ◌<◌, ltb, length}
use Rattle.std.proofs.Common.{sym, ap, ◌∙◌, append_assoc, arith, length-append, lt-ltb}
use Rattle.lifting.specs.Bytes.{bytes}
use Rattle.lifting.specs.Digits.{word_bound, digits, digits_to, digits_more}
use Rattle.lifting.specs.Codec.{lit, num, seq, same, view_as, many, list}
use Rattle.lifting.specs.Ast.{Imm}
use Rattle.lifting.specs.Grammar.{before, after_word, spaced, sub, closed, line, field, open1, one_codec, numbers_codec, imm_codec, imms_codec}
use Rattle.lifting.specs.Instructions.{Instruction}
use Rattle.print_bytes.specs.Shown.{instruction_form, inst_line, inst_bytes, refused_bytes}

pub digits_small : (n : ℕ) → n < 10 → digits n ≡ (48 + n) ∷ []
unfolding digits digits_to
digits_small n h = rw (lt-ltb n 10 h, digits_to)

pub digits_large : (n : ℕ) → 10 ≤ n → n < word_bound → digits n ≡ digits (n / 10) ++ ((48 + n % 10) ∷ [])
digits_large n h b =
    let w : n ≡ n / 10 * 10 + n % 10 = omega arith in
    ap digits w ∙ digits_more (n / 10) (n % 10) (omega arith) (omega arith) (omega arith)

digits_to_length : (k n : ℕ) → length (digits_to k n) ≤ k
unfolding digits_to
digits_to_length zero n = omega arith
digits_to_length (suc k) n = go (digits_to_length k (n / 10)) (ltb n 10)
  where
    go : length (digits_to k (n / 10)) ≤ k → (q : Bool) → length {A = ℕ} (elim q as (λ x. List ℕ) [ true ↦ (48 + n) ∷ [] | false ↦ digits_to k (n / 10) ++ ((48 + n % 10) ∷ []) ]) ≤ suc k
    go ih true = omega arith
    go ih false = omega (arith, length-append (digits_to k (n / 10)) ((48 + n % 10) ∷ []))

pub digits_length : (n : ℕ) → length (digits n) ≤ 10
unfolding digits
digits_length n = digits_to_length 10 n

-- a number after a space
abbrev pub field_bytes : ℕ → List ℕ
field_bytes n = 32 ∷ digits n

-- ` (KIND OPERANDKIND WORD)`
unfoldable pub imm_bytes : Imm → List ℕ
imm_bytes m = bytes " (" ++ (digits m.kind ++ (field_bytes m.operand ++ (field_bytes m.word ++ bytes ")")))

-- immediates, and ids, one after the other
unfoldable pub imms_bytes : List Imm → List ℕ
unfolding imm_bytes
imms_bytes [] = []
imms_bytes (m ∷ l) = imm_bytes m ++ imms_bytes l

unfoldable pub ids_bytes : List ℕ → List ℕ
ids_bytes [] = []
ids_bytes (x ∷ l) = field_bytes x ++ ids_bytes l

-- `(OPCODE ATTRS TYPE RESULT`
unfoldable pub head_bytes : ℕ → ℕ → ℕ → ℕ → List ℕ
head_bytes o a t r = bytes "(" ++ (digits o ++ (field_bytes a ++ (field_bytes t ++ field_bytes r)))

pub imm_is : (m : Imm) → imm_codec.print m ≡ imm_bytes m
unfolding imm_bytes imm_codec spaced closed before after_word field open1 lit num seq same view_as
imm_is m = simp append_assoc

pub imms_are : (l : List Imm) → imms_codec.print l ≡ imms_bytes l ++ bytes ")"
unfolding imms_bytes imms_codec lit same view_as list many
imms_are [] = refl
imms_are (m ∷ l) =
    ap (λ (t : List ℕ). t ++ imms_codec.print l) (imm_is m)
    ∙ ap (λ (t : List ℕ). imm_bytes m ++ t) (imms_are l)
    ∙ sym (append_assoc (imm_bytes m) (imms_bytes l) (bytes ")"))

pub ids_are : (l : List ℕ) → numbers_codec.print l ≡ ids_bytes l ++ bytes ")"
unfolding ids_bytes numbers_codec field num lit same view_as list many
ids_are [] = refl
ids_are (x ∷ l) =
    ap (λ (t : List ℕ). field_bytes x ++ t) (ids_are l) ∙ sym (append_assoc (field_bytes x) (ids_bytes l) (bytes ")"))

-- ` (imms (KIND OPERANDKIND WORD)..)` and ` (ids ID..)`
unfoldable pub imm_form_bytes : List Imm → List ℕ
imm_form_bytes l = bytes " (imms" ++ (imms_bytes l ++ bytes ")")

unfoldable pub id_form_bytes : List ℕ → List ℕ
id_form_bytes l = bytes " (ids" ++ (ids_bytes l ++ bytes ")")

-- the format's own grouping
regroup : (o a t r m k s z : List ℕ) → ((o ++ (a ++ (t ++ (r ++ (m ++ k))))) ++ s) ++ z ≡ (o ++ (a ++ (t ++ r))) ++ (m ++ (k ++ (s ++ z)))
regroup o a t r m k s z = simp append_assoc

pub inst_is : (i : Instruction) → inst_bytes i ≡ head_bytes i.opcode i.attrs i.type i.result ++ (imm_form_bytes i.imms ++ (id_form_bytes i.ids ++ bytes ")\n"))
unfolding inst_bytes inst_line instruction_form head_bytes imm_form_bytes id_form_bytes sub closed before after_word field open1 lit num seq same view_as
inst_is i =
    let front = head_bytes i.opcode i.attrs i.type i.result in
    regroup (40 ∷ digits i.opcode) (field_bytes i.attrs) (field_bytes i.type) (field_bytes i.result) (bytes " (imms" ++ imms_codec.print i.imms)
    (bytes " (ids" ++ numbers_codec.print i.ids) (bytes ")") (bytes "\n")
    ∙ ap (λ (m : List ℕ). front ++ ((bytes " (imms" ++ m) ++ ((bytes " (ids" ++ numbers_codec.print i.ids) ++ bytes ")\n"))) (imms_are i.imms)
    ∙ ap (λ (k : List ℕ). front ++ (imm_form_bytes i.imms ++ ((bytes " (ids" ++ k) ++ bytes ")\n"))) (ids_are i.ids)

pub refused_is : (n : ℕ) → refused_bytes n ≡ bytes "(refused" ++ (field_bytes n ++ bytes ")\n")
unfolding refused_bytes line one_codec closed before after_word field lit num seq same view_as
refused_is n = simp append_assoc
