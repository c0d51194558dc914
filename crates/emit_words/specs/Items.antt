-- The items of an instruction: every word but the ids of its last part, which are ids. Assumes nothing.
--     list_words, list_length, list_missing    the items of a list are its words, as many, and one is missing exactly if some id of the list is 0
use Rattle.std.specs.Prelude.{◌≡◌, refl, Bool, true, false, not, ◌&&◌, ◌||◌, List, [], ◌∷◌, ◌++◌, map, ℕ, zero, suc, ltb, length}
use Rattle.std.proofs.Common.{sym, ap, ap₂, ◌∙◌, arith, lt-ltb}
use Rattle.general_laws.specs.Lists.{every, gather}
use Rattle.lifting.specs.Instructions.{Instruction}
use Rattle.lifting.specs.Words.{imms_words, inst_words, words}
use Rattle.emit_words.specs.Put.{Item, any_missing, id, is_zero, missing_append, word, words_append, words_length, item_words}

-- opcode, attributes, result type, result, and the count of immediates
abbrev pub head_items : ℕ → ℕ → ℕ → ℕ → ℕ → List Item
head_items o a t r n = word o ∷ word a ∷ word t ∷ word r ∷ word n ∷ []

unfoldable pub inst_items : Instruction → List Item
inst_items i =
    head_items i.opcode i.attrs i.type i.result (length i.imms) ++ (map word (imms_words i.imms) ++ (word (length i.ids) ∷ map id i.ids))

unfoldable pub list_items : List Instruction → List Item
unfolding inst_items
list_items l = gather inst_items l

word_items : (l : List ℕ) → item_words (map word l) ≡ l
unfolding item_words
word_items [] = refl
word_items (x ∷ l) = ap (λ (t : List ℕ). x ∷ t) (word_items l)

id_items : (l : List ℕ) → item_words (map id l) ≡ l
unfolding item_words
id_items [] = refl
id_items (x ∷ l) = ap (λ (t : List ℕ). x ∷ t) (id_items l)

inst_words_law : (i : Instruction) → item_words (inst_items i) ≡ inst_words i
unfolding inst_items inst_words item_words
inst_words_law i =
    ap (λ (t : List ℕ). i.opcode ∷ i.attrs ∷ i.type ∷ i.result ∷ length i.imms ∷ t)
    (words_append (map word (imms_words i.imms)) (word (length i.ids) ∷ map id i.ids)
    ∙ ap₂ (λ (s t : List ℕ). s ++ (length i.ids ∷ t)) (word_items (imms_words i.imms)) (id_items i.ids))

pub list_words : (l : List Instruction) → item_words (list_items l) ≡ words l
unfolding list_items words item_words
list_words [] = refl
list_words (i ∷ l) = words_append (inst_items i) (list_items l) ∙ ap₂ (λ (s t : List ℕ). s ++ t) (inst_words_law i) (list_words l)

pub list_length : (l : List Instruction) → length (list_items l) ≡ length (words l)
list_length l = sym (words_length (list_items l)) ∙ ap length (list_words l)

none_missing : (l : List ℕ) → any_missing (map word l) ≡ false
unfolding any_missing
none_missing [] = refl
none_missing (x ∷ l) = none_missing l

zero_missing : (n : ℕ) → is_zero n ≡ not (ltb 0 n)
zero_missing zero = refl
zero_missing (suc n) = ap not (sym (lt-ltb 0 (suc n) (omega arith)))

not_and : (a b : Bool) → (not a || not b) ≡ not (a && b)
not_and true b = refl
not_and false b = refl

ids_missing : (l : List ℕ) → any_missing (map id l) ≡ not (every (λ n. ltb 0 n) l)
unfolding any_missing
ids_missing [] = refl
ids_missing (x ∷ l) = ap₂ (λ (a b : Bool). a || b) (zero_missing x) (ids_missing l) ∙ not_and (ltb 0 x) (every (λ n. ltb 0 n) l)

inst_missing : (i : Instruction) → any_missing (inst_items i) ≡ not (every (λ n. ltb 0 n) i.ids)
unfolding inst_items any_missing
inst_missing i =
    missing_append (map word (imms_words i.imms)) (word (length i.ids) ∷ map id i.ids)
    ∙ ap₂ (λ (a b : Bool). a || b) (none_missing (imms_words i.imms)) (ids_missing i.ids)

pub list_missing : (l : List Instruction) → any_missing (list_items l) ≡ not (every (λ i. every (λ n. ltb 0 n) i.ids) l)
unfolding list_items any_missing
list_missing [] = refl
list_missing (i ∷ l) =
    missing_append (inst_items i) (list_items l)
    ∙ ap₂ (λ (a b : Bool). a || b) (inst_missing i) (list_missing l)
    ∙ not_and (every (λ n. ltb 0 n) i.ids) (every (λ i. every (λ n. ltb 0 n) i.ids) l)
