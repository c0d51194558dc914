-- A value as the part between its brackets: its words are read to the end of the part. Assumes nothing.
--     value_parts, value_part    what stands between a value's brackets, in a text and alone
--     value_by_part_law            reading a value by its part is reading it by its words, as the grammar does
use Rattle.std.specs.Prelude.{◌≡◌, refl, List, [], ◌∷◌, ◌++◌, ◌↔◌, ℕ}
use Rattle.std.proofs.Common.{append_assoc, inl, inr}
use Rattle.std.proofs.Math.Option.{some}
use Rattle.lifting.specs.Bytes.{bytes}
use Rattle.lifting.specs.Digits.{digits}
use Rattle.lifting.specs.Codec.{Codec, Whole, Led, strip, lit, num, seq, view_as, same, alt}
use Rattle.lifting.specs.Whole.{end}
use Rattle.lifting.specs.Grammar.{ValueForm, value_form, before, after_word, closed, sub, field, one_codec, two}
use Rattle.lifting.proofs.Codec.{Inverse, alt_inverse, same_inverse, seq_inverse}
use Rattle.lifting.proofs.Grammar.{before_inverse, field_inverse, value_form_inverse}
use Rattle.lifting.proofs.Whole.{end_inverse}
use Rattle.read_values.specs.Alike.{ReadBack, alike, settled_after, settled_before}
use Rattle.read_values.specs.Formed.{Plain, plain_append, plain_digits, formed_by, settled_formed, formed_by_inverse}

-- `c N`, `r R I`, `n N I` or `d I`
unfoldable pub value_parts : Codec ValueForm
unfolding before lit seq same view_as alt strip
value_parts =
    alt (alt (alt (before (bytes "c") refl field) (before (bytes "r") refl (seq field field)) (λ b r. refl)) (before (bytes "n") refl (seq field field)) (λ b r. refl))
    (before (bytes "d") refl field) (λ b r. refl)

-- these words, and nothing more
unfoldable pub value_part : Whole ValueForm
value_part = same (seq value_parts end) (λ x. x.0) (λ v. (v, tt)) (λ v. refl) (λ x. refl)

pub value_parts_inverse : Inverse value_parts
unfolding value_parts before lit seq same view_as alt strip
value_parts_inverse =
    alt_inverse (alt_inverse (alt_inverse (before_inverse (bytes "c") refl field_inverse) (before_inverse (bytes "r") refl (seq_inverse field_inverse field_inverse)) (λ b r. refl)) (before_inverse (bytes "n") refl (seq_inverse field_inverse field_inverse)) (λ b r. refl))
    (before_inverse (bytes "d") refl field_inverse) (λ b r. refl)

pub value_part_inverse : Inverse value_part
unfolding value_part
value_part_inverse = same_inverse (seq_inverse value_parts_inverse end_inverse) (λ x. x.0) (λ v. (v, tt)) (λ v. refl) (λ x. refl)

-- there is no bracket among them
plain_one : (b n : ℕ) → Plain (b ∷ []) → Plain ((b ∷ 32 ∷ digits n) ++ [])
plain_one b n p = (p.0, p.1, (refl, refl, plain_append (digits n) [] (plain_digits n) tt))

plain_two : (b m n : ℕ) → Plain (b ∷ []) → Plain ((b ∷ 32 ∷ (digits m ++ (32 ∷ digits n))) ++ [])
plain_two b m n p =
    (p.0, p.1, (refl, refl, plain_append (digits m ++ (32 ∷ digits n)) [] (plain_append (digits m) (32 ∷ digits n) (plain_digits m) (refl, refl, plain_digits n)) tt))

pub plain_part : (x : ValueForm) → Plain (value_part.print x)
unfolding value_part value_parts field num before lit seq same view_as alt end
plain_part (inl (inl (inl n))) = plain_one 99 n (refl, refl, tt)
plain_part (inl (inl (inr x))) = plain_two 114 x.0 x.1 (refl, refl, tt)
plain_part (inl (inr x)) = plain_two 110 x.0 x.1 (refl, refl, tt)
plain_part (inr i) = plain_one 100 i (refl, refl, tt)

-- the form of a value, read by its part
unfoldable pub value_by_part : Codec ValueForm
value_by_part = formed_by (bytes " (") refl value_part plain_part

pub value_by_part_inverse : Inverse value_by_part
unfolding value_by_part
value_by_part_inverse = formed_by_inverse (bytes " (") refl value_part plain_part value_part_inverse

-- the same printer, for the same values
same_print : (x : ValueForm) → value_form.print x ≡ value_by_part.print x
unfolding value_by_part formed_by value_part value_parts value_form sub one_codec two closed after_word before field num lit seq same view_as alt end
same_print (inl (inl (inl n))) = simp append_assoc
same_print (inl (inl (inr x))) = simp append_assoc
same_print (inl (inr x)) = simp append_assoc
same_print (inr i) = simp append_assoc

regrouped : {P : Type 0} → (Unit {0} × (P × Unit {0})) ↔ ((Unit {0} × P) × Unit {0})
regrouped = (λ x. ((tt, x.1.0), tt), λ x. (tt, (x.0.1, tt)))

same_values : (x : ValueForm) → value_form.Ok x ↔ value_by_part.Ok x
unfolding value_by_part formed_by value_part value_parts value_form sub one_codec two closed after_word before lit seq same view_as alt end
same_values (inl (inl (inl n))) = regrouped
same_values (inl (inl (inr x))) = regrouped
same_values (inl (inr x)) = regrouped
same_values (inr i) = regrouped

-- each form ends with its bracket
settled_one : (s : List ℕ) (h : Led s) → ReadBack (before s h one_codec)
unfolding one_codec closed
settled_one s h = settled_before s h (settled_after field_inverse (bytes ")") refl)

settled_two : (s : List ℕ) (h : Led s) → ReadBack (before s h two)
unfolding two closed
settled_two s h = settled_before s h (settled_after (seq_inverse field_inverse field_inverse) (bytes ")") refl)

settled_words : ReadBack value_form
unfolding value_form sub before lit seq same view_as alt strip
settled_words = record { full = go }
  where
    go : (x : ValueForm) → value_form.Ok x → (r : List ℕ) → value_form.read (value_form.print x ++ r) ≡ some (x, r)
    go (inl (inl (inl n))) ok r = rw ((settled_one (bytes " (c") refl).full n ok r)
    go (inl (inl (inr x))) ok r = rw ((settled_two (bytes " (r") refl).full x ok r)
    go (inl (inr x)) ok r = rw ((settled_two (bytes " (n") refl).full x ok r)
    go (inr i) ok r = rw ((settled_one (bytes " (d") refl).full i ok r)

pub value_by_part_law : (t : List ℕ) → value_form.read t ≡ value_by_part.read t
unfolding value_by_part
value_by_part_law = alike value_form_inverse value_by_part_inverse same_print same_values settled_words (settled_formed (bytes " (") refl value_part plain_part value_part_inverse)
