-- Document 01, 'The instruction list': the list as words, and the words read back. Assumes nothing.
-- To believe: `words`, with `inst_words` and `imms_words`. `list_from` is held to them by the law `list_from_law`; the rest proves it.
use Rattle.std.specs.Prelude.{◌≡◌, refl, List, [], ◌∷◌, ◌++◌, ℕ, zero, suc, ◌≤◌, get_or, length, take, drop}
use Rattle.std.proofs.Common.{ap, ◌∙◌, append_assoc, arith, length-append}
use Rattle.std.proofs.Math.Seq.{take-append_seam, drop-append_seam}
use Rattle.lifting.specs.Ast.{Imm}
use Rattle.lifting.specs.Instructions.{Instruction}

abbrev pub imms_words : List Imm → List ℕ
imms_words [] = []
imms_words (m ∷ l) = m.kind ∷ m.operand ∷ m.word ∷ imms_words l

-- opcode, attributes, result type id, result id, count of immediates, three words each, count of ids, ids
unfoldable pub inst_words : Instruction → List ℕ
inst_words i =
    i.opcode ∷ i.attrs ∷ i.type ∷ i.result ∷ length i.imms ∷ (imms_words i.imms ++ (length i.ids ∷ i.ids))

unfoldable pub words : List Instruction → List ℕ
unfolding inst_words
words [] = []
words (i ∷ l) = inst_words i ++ words l

-- what was read, and the words that are left
pub record Got (A : Type 0) : Type 0 where
  pub got : A
  pub left : List ℕ

abbrev add_imm : Imm → Got (List Imm) → Got (List Imm)
add_imm m g = record { got = m ∷ g.got; left = g.left }

abbrev pub imms_from : ℕ → List ℕ → Got (List Imm)
imms_from zero l = record { got = []; left = l }
imms_from (suc n) [] = record { got = []; left = [] }
imms_from (suc n) (a ∷ []) = record { got = []; left = [] }
imms_from (suc n) (a ∷ b ∷ []) = record { got = []; left = [] }
imms_from (suc n) (a ∷ b ∷ c ∷ l) = add_imm (record { kind = a; operand = b; word = c }) (imms_from n l)

abbrev pub head_or : List ℕ → ℕ
head_or [] = 0
head_or (x ∷ l) = x

abbrev pub inst_with : ℕ → ℕ → ℕ → ℕ → Got (List Imm) → Got Instruction
inst_with op at t r m = record {
  got = record { opcode = op; attrs = at; type = t; result = r; imms = m.got; ids = take (head_or m.left) (drop 1 m.left) };
  left = drop (head_or m.left) (drop 1 m.left);
}

abbrev pub inst_from : List ℕ → Got Instruction
inst_from l = inst_with (get_or l 0 0) (get_or l 1 0) (get_or l 2 0) (get_or l 3 0) (imms_from (get_or l 4 0) (drop 5 l))

-- at most k instructions
abbrev pub insts_from : ℕ → List ℕ → List Instruction
insts_from zero l = []
insts_from (suc k) [] = []
insts_from (suc k) (x ∷ l) = let g = inst_from (x ∷ l) in g.got ∷ insts_from k g.left

-- the instructions whose words stand there; none has fewer words than one
unfoldable pub list_from : List ℕ → List Instruction
list_from ws = insts_from (length ws) ws

-- what was written is read
imms_back : (l : List Imm) (r : List ℕ) → imms_from (length l) (imms_words l ++ r) ≡ record { got = l; left = r }
imms_back [] r = refl
imms_back (m ∷ l) r = ap (add_imm m) (imms_back l r)

inst_back : (i : Instruction) (r : List ℕ) → inst_from (inst_words i ++ r) ≡ record { got = i; left = r }
unfolding inst_words
inst_back i r =
    ap (λ (w : List ℕ). inst_with i.opcode i.attrs i.type i.result (imms_from (length i.imms) w)) (append_assoc (imms_words i.imms) (length i.ids ∷ i.ids) r)
    ∙ ap (inst_with i.opcode i.attrs i.type i.result) (imms_back i.imms (length i.ids ∷ (i.ids ++ r)))
    ∙ ap (λ (t : List ℕ). record { got = record { opcode = i.opcode; attrs = i.attrs; type = i.type; result = i.result; imms = i.imms; ids = t }; left = drop (length i.ids) (i.ids ++ r) })
    (take-append_seam i.ids r)
    ∙ ap (λ (t : List ℕ). record { got = i; left = t }) (drop-append_seam i.ids r)

insts_back : (k : ℕ) (l : List Instruction) → length l ≤ k → insts_from k (words l) ≡ l
unfolding words inst_words
insts_back zero [] h = refl
insts_back zero (i ∷ l) h = absurd (omega arith)
insts_back (suc k) [] h = refl
insts_back (suc k) (i ∷ l) h =
    ap (λ (g : Got Instruction). g.got ∷ insts_from k g.left) (inst_back i (words l)) ∙ ap (λ (t : List Instruction). i ∷ t) (insts_back k l (omega arith))

words_many : (l : List Instruction) → length l ≤ length (words l)
unfolding words inst_words
words_many [] = omega arith
words_many (i ∷ l) = omega (arith, words_many l, length-append (inst_words i) (words l))

pub list_from_law : (l : List Instruction) → list_from (words l) ≡ l
unfolding list_from
list_from_law l = insts_back (length (words l)) l (words_many l)
