-- The list that stands in words, one instruction at a time: which words it is read from, and where the next one starts. Assumes nothing.
--     tail_part                         the part of a slice from a place on
--     imms_none, imms_next              the immediates from a place on
--     inst_size, inst_left, inst_ids     how many words an instruction has, the words behind it, and its ids
--     list_next, list_end               the list from a place on
use Rattle.std.specs.Prelude.{◌≡◌, refl, List, [], ◌∷◌, ◌⊎◌, ℕ, zero, suc, ◌+◌, ◌-◌, ◌*◌, ◌≤◌, ◌<◌, length, get_or, take, drop}
use Rattle.std.proofs.Common.{sym, ap, ◌∙◌, ⊎_elim, add-zero, arith, length-drop, drop_of_length-le, get_or-drop, drop-drop, take_all}
use Rattle.lifting.specs.Ast.{Imm}
use Rattle.lifting.specs.Instructions.{Instruction}
use Rattle.lifting.specs.Words.{imms_from, head_or, inst_from, insts_from, list_from}
use Rattle.print_bytes.specs.Lines.{head_bytes}

-- no words past the end
pub drop_past : (k : ℕ) (l : List ℕ) → length l ≤ k → drop k l ≡ []
drop_past k l h = drop_of_length-le l h

-- the part of a slice from a place on
pub tail_part : (n : ℕ) (l : List ℕ) → take (length l - n) (drop n l) ≡ drop n l
tail_part n l = take_all (length l - n) (drop n l) (omega (arith, length-drop n l))

-- the words behind the immediates
pub imms_left : (n : ℕ) (l : List ℕ) → (imms_from n l).left ≡ drop (3 * n) l
imms_left zero l = refl
imms_left (suc n) [] = sym (drop_past (3 * suc n) [] (omega arith))
imms_left (suc n) (a ∷ []) = sym (drop_past (3 * suc n) (a ∷ []) (omega arith))
imms_left (suc n) (a ∷ b ∷ []) = sym (drop_past (3 * suc n) (a ∷ b ∷ []) (omega arith))
imms_left (suc n) (a ∷ b ∷ c ∷ l) =
    let k : suc (suc (suc (3 * n))) ≡ 3 * suc n = omega arith in
    imms_left n l ∙ ap (λ (k : ℕ). drop k (a ∷ b ∷ c ∷ l)) k

-- the immediates from a place on: none where none is asked for or three words are not left, or the next one
pub imms_none : (n : ℕ) (l : List ℕ) → (n ≡ 0) ⊎ (length l < 3) → (imms_from n l).got ≡ []
imms_none zero l e = refl
imms_none (suc n) [] e = refl
imms_none (suc n) (a ∷ []) e = refl
imms_none (suc n) (a ∷ b ∷ []) e = refl
imms_none (suc n) (a ∷ b ∷ c ∷ l) e = absurd (⊎_elim (λ z. omega arith) (λ h. omega arith) e)

-- an immediate of three words, and the one whose words stand at a place
abbrev pub taken_imm : ℕ → ℕ → ℕ → Imm
taken_imm k o w = record { kind = k; operand = o; word = w }

abbrev pub imm_at : List ℕ → ℕ → Imm
imm_at l i = taken_imm (get_or l i 0) (get_or l (i + 1) 0) (get_or l (i + 2) 0)

imms_more : (n : ℕ) (l : List ℕ) → 0 < n → 3 ≤ length l → (imms_from n l).got ≡ imm_at l 0 ∷ (imms_from (n - 1) (drop 3 l)).got
imms_more zero l p h = absurd (omega arith)
imms_more (suc n) [] p h = absurd (omega arith)
imms_more (suc n) (a ∷ []) p h = absurd (omega arith)
imms_more (suc n) (a ∷ b ∷ []) p h = absurd (omega arith)
imms_more (suc n) (a ∷ b ∷ c ∷ l) p h =
    let e : n ≡ suc n - 1 = omega arith in
    ap (λ (k : ℕ). imm_at (a ∷ b ∷ c ∷ l) 0 ∷ (imms_from k l).got) e

pub imms_next : (n i : ℕ) (l : List ℕ) → 0 < n → i + 3 ≤ length l → (imms_from n (drop i l)).got ≡ imm_at l i ∷ (imms_from (n - 1) (drop (i + 3) l)).got
imms_next n i l p h =
    imms_more n (drop i l) p (omega (arith, length-drop i l))
    ∙ simp (get_or-drop, drop-drop, add-zero)

-- how many immediates and ids the instruction at the front of these words has, and how many words: six, three for each immediate, and the ids
abbrev pub imm_count : List ℕ → ℕ
imm_count l = get_or l 4 0

abbrev pub id_count : List ℕ → ℕ
id_count l = get_or l (5 + 3 * imm_count l) 0

abbrev pub inst_size : List ℕ → ℕ
inst_size l = 6 + 3 * imm_count l + id_count l

-- a count is 0 where the words end before it
head_at_law : (l : List ℕ) → head_or l ≡ get_or l 0 0
head_at_law [] = refl
head_at_law (x ∷ l) = refl

count_at : (l : List ℕ) (i : ℕ) → head_or (drop i l) ≡ get_or l i 0
count_at l i = head_at_law (drop i l) ∙ simp (get_or-drop, add-zero)

-- what is left behind the immediates
behind : (l : List ℕ) → (imms_from (imm_count l) (drop 5 l)).left ≡ drop (5 + 3 * imm_count l) l
behind l = imms_left (imm_count l) (drop 5 l) ∙ drop-drop (3 * imm_count l) 5 l

pub inst_left : (l : List ℕ) → (inst_from l).left ≡ drop (inst_size l) l
inst_left l =
    let k : 5 + 3 * imm_count l + 1 + id_count l ≡ inst_size l = omega arith in
    ap (λ (m : List ℕ). drop (head_or m) (drop 1 m)) (behind l)
    ∙ ap (λ (n : ℕ). drop n (drop 1 (drop (5 + 3 * imm_count l) l))) (count_at l (5 + 3 * imm_count l))
    ∙ ap (drop (id_count l)) (drop-drop 1 (5 + 3 * imm_count l) l)
    ∙ drop-drop (id_count l) (5 + 3 * imm_count l + 1) l
    ∙ ap (λ (n : ℕ). drop n l) k

pub inst_ids : (l : List ℕ) → (inst_from l).got.ids ≡ take (id_count l) (drop (6 + 3 * imm_count l) l)
inst_ids l =
    let k : 5 + 3 * imm_count l + 1 ≡ 6 + 3 * imm_count l = omega arith in
    ap (λ (m : List ℕ). take (head_or m) (drop 1 m)) (behind l)
    ∙ ap (λ (n : ℕ). take n (drop 1 (drop (5 + 3 * imm_count l) l))) (count_at l (5 + 3 * imm_count l))
    ∙ ap (take (id_count l)) (drop-drop 1 (5 + 3 * imm_count l) l ∙ ap (λ (n : ℕ). drop n l) k)

-- the bytes of its opcode, attributes, result type and result
abbrev pub head_from : List ℕ → List ℕ
head_from l = head_bytes (get_or l 0 0) (get_or l 1 0) (get_or l 2 0) (get_or l 3 0)

-- the place where the next instruction starts, at most the end of the words
pub record Next (l : List ℕ) (from next : ℕ) : Type 0 where
  pub moved : from < next
  pub fits : next ≤ length l
  pub same : drop next l ≡ drop (from + inst_size (drop from l)) l

-- any number of turns that is no less than that of the words reads alike
turns_alike : (m n : ℕ) (l : List ℕ) → length l ≤ m → length l ≤ n → insts_from m l ≡ insts_from n l
turns_alike zero zero l h k = refl
turns_alike zero (suc n) [] h k = refl
turns_alike zero (suc n) (x ∷ l) h k = absurd (omega arith)
turns_alike (suc m) zero [] h k = refl
turns_alike (suc m) zero (x ∷ l) h k = absurd (omega arith)
turns_alike (suc m) (suc n) [] h k = refl
turns_alike (suc m) (suc n) (x ∷ l) h k =
    let e = ap length (inst_left (x ∷ l)) ∙ length-drop (inst_size (x ∷ l)) (x ∷ l) in
    ap (λ (t : List Instruction). (inst_from (x ∷ l)).got ∷ t) (turns_alike m n (inst_from (x ∷ l)).left (omega arith) (omega arith))

list_more : (l : List ℕ) → 0 < length l → list_from l ≡ (inst_from l).got ∷ list_from (inst_from l).left
unfolding list_from
list_more [] h = absurd (omega arith)
list_more (x ∷ l) h =
    let e = ap length (inst_left (x ∷ l)) ∙ length-drop (inst_size (x ∷ l)) (x ∷ l) in
    ap (λ (t : List Instruction). (inst_from (x ∷ l)).got ∷ t)
    (turns_alike (length l) (length (inst_from (x ∷ l)).left) (inst_from (x ∷ l)).left (omega arith) (omega arith))

-- the list from a place on
pub list_next : (l : List ℕ) (i : ℕ) → i < length l
    → list_from (drop i l) ≡ (inst_from (drop i l)).got ∷ list_from (drop (i + inst_size (drop i l)) l)
list_next l i h =
    list_more (drop i l) (omega (arith, length-drop i l))
    ∙ ap (λ (t : List ℕ). (inst_from (drop i l)).got ∷ list_from t) (inst_left (drop i l) ∙ drop-drop (inst_size (drop i l)) i l)

pub list_end : (l : List ℕ) (i : ℕ) → length l ≤ i → list_from (drop i l) ≡ []
unfolding list_from
list_end l i h = ap list_from (drop_past i l h)
