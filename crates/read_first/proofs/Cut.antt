-- How much of an input decides what is answered: a text beyond the longest that is taken is refused whatever follows, and no first line is longer
-- than nineteen bytes. So a program may stop reading there. Assumes nothing.
--     parse_cut, answer_cut     the bytes of a text that decide its answer
--     bad_stays                 the bytes of the line `(first N)`
--     input_more, input_cut     both, one after the other
use Rattle.std.specs.Prelude.{◌≡◌, refl, Bool, true, false, ◌&&◌, List, ◌++◌, ℕ, ◌+◌, ◌-◌, ◌≤◌, leb, drop, length, take}
use Rattle.std.proofs.Common.{sym, ap, ◌∙◌, append_assoc, arith, length-append, length-take, take-append-drop, take_all, leb-true, leb-false}
use Rattle.std.proofs.Math.Option.{Option, none, some, none-ne-some}
use Rattle.std.proofs.Math.Seq.{take-append-add, take-append_seam}
use Rattle.std.proofs.lemmas.Bool.{lt-leb}
use Rattle.lifting.specs.Bytes.{bytes}
use Rattle.lifting.specs.Codec.{Codec, Led, led_stop, strip, strip_full, lit, num, seq, same, view_as}
use Rattle.lifting.specs.Grammar.{read, before, after_word, closed, line, field, one_codec}
use Rattle.lifting.specs.Limits.{max_bytes, func_words, work_words}
use Rattle.lifting.specs.Answer.{Parsed, answer, denied, formed, lifted, parse}
use Rattle.lifting.proofs.Codec.{Inverse}
use Rattle.lifting.proofs.Grammar.{line_inverse, one_codec_inverse}
use Rattle.print_bytes.specs.Lines.{digits_length}
use Rattle.read_first.specs.Opening.{first_line_form}
use Rattle.read_first.specs.Cut.{text_room, longest_line, input_room, ByText}

-- ---- the text

-- the test of 8, then that of 1: what follows of a text's length and of what is read of it
abbrev judged : Bool → Bool → Parsed → Parsed
judged enough short p = elim enough [ false ↦ denied 8 | true ↦ elim short [ false ↦ denied 1 | true ↦ p ] ]

judge_is : (text : List ℕ) (func work : ℕ) → parse text func work ≡ judged (leb func_words func && leb work_words work) (leb (length text) max_bytes) (formed (read text))
unfolding parse
judge_is text func work = refl

pub parse_cut : (k : ℕ) → text_room ≤ k → (text : List ℕ) (func work : ℕ) → parse (take k text) func work ≡ parse text func work
parse_cut k h text func work = go (leb (length text) max_bytes) refl
  where
    enough : Bool
    enough = leb func_words func && leb work_words work

    -- too long, before and after
    denied_long : (b : Bool) (p q : Parsed) → judged b false p ≡ judged b false q
    denied_long true p q = refl
    denied_long false p q = refl

    go : (b : Bool) → leb (length text) max_bytes ≡ b → parse (take k text) func work ≡ parse text func work
    go true e = let l = leb-true (length text) max_bytes e in ap (λ (t : List ℕ). parse t func work) (take_all k text (omega arith))
    go false e =
        let l = leb-false (length text) max_bytes e in
        let f : leb (length (take k text)) max_bytes ≡ false = lt-leb (length (take k text)) max_bytes (omega (arith, length-take k text)) in
        judge_is (take k text) func work
        ∙ ap (λ (b : Bool). judged enough b (formed (read (take k text)))) f
        ∙ denied_long enough (formed (read (take k text))) (formed (read text))
        ∙ sym (ap (λ (b : Bool). judged enough b (formed (read text))) e)
        ∙ sym (judge_is text func work)

pub answer_cut : (k : ℕ) → text_room ≤ k → (text : List ℕ) (first func work out : ℕ) → answer (take k text) first func work out ≡ answer text first func work out
unfolding answer
answer_cut k h text first func work out = ap (λ (p : Parsed). lifted p first out) (parse_cut k h text func work)

-- ---- the first line

line_length : (n : ℕ) → length (first_line_form.print n) ≤ longest_line
unfolding first_line_form line one_codec field closed before after_word lit num seq same view_as
line_length n = simp length-append (omega (arith, digits_length n))

pub first_line_inverse : Inverse first_line_form
unfolding first_line_form
first_line_inverse = line_inverse "first" one_codec_inverse

-- behind a literal anything may follow
after_full : {A : Type 0} {C : Codec A} → Inverse C → (s : List ℕ) (h : Led s) (a : A) → C.Ok a → (r : List ℕ) → (after_word C s h).read (C.print a ++ (s ++ r)) ≡ some (a, r)
unfolding after_word seq same view_as lit
after_full c s h a ok r = rw (c.full a ok (s ++ r) (led_stop s r h)) (rw (strip_full s r))

-- a first line is read whatever follows it
line_full : (n : ℕ) → first_line_form.Ok n → (r : List ℕ) → first_line_form.read (first_line_form.print n ++ r) ≡ some (n, r)
unfolding first_line_form line before after_word seq same view_as lit strip
line_full n ok r = rw append_assoc (rw (after_full one_codec_inverse (bytes "\n") refl n ok.1.0 r))

-- what a first line and the rest of the input give, whatever more follows
line_more : (a b : List ℕ) {n : ℕ} {r : List ℕ} → first_line_form.read a ≡ some (n, r) → first_line_form.read (a ++ b) ≡ some (n, r ++ b)
line_more a b {n} {r} e =
    let s = first_line_inverse.sound a (n, r) e in
    ap (λ (l : List ℕ). first_line_form.read (l ++ b)) s.0
    ∙ ap first_line_form.read (append_assoc (first_line_form.print n) r b)
    ∙ line_full n s.1 (r ++ b)

-- a good line lies in the first nineteen bytes
line_early : (a b : List ℕ) → longest_line ≤ length a → {n : ℕ} {r : List ℕ} → first_line_form.read (a ++ b) ≡ some (n, r) → (k : ℕ) × (first_line_form.read a ≡ some (n, take k r)) × (length a ≤ longest_line + k)
line_early a b h {n} {r} e =
    let s = first_line_inverse.sound (a ++ b) (n, r) e in
    let p = first_line_form.print n in
    let k = length a - length p in
    let l = line_length n in
    let far : length p + k ≡ length a = omega arith in
    let is : a ≡ p ++ take k r =
    sym (take-append_seam a b) ∙ ap (take (length a)) s.0 ∙ ap (λ (j : ℕ). take j (p ++ r)) (sym far) ∙ take-append-add p r k in
    (k, ap first_line_form.read is ∙ line_full n s.1 (take k r), omega arith)

-- a bad one of nineteen bytes stays bad
pub bad_stays : (a b : List ℕ) → longest_line ≤ length a → first_line_form.read a ≡ none → first_line_form.read (a ++ b) ≡ none
bad_stays a b h bad = go (first_line_form.read (a ++ b)) refl
  where
    go : (o : Option (ℕ × List ℕ)) → first_line_form.read (a ++ b) ≡ o → first_line_form.read (a ++ b) ≡ none
    go none e = e
    go (some x) e = absurd (none-ne-some _ (sym bad ∙ (line_early a b h e).1))

-- ---- the input

module _ {A : Type 0} (g : Option (ℕ × List ℕ) → A) (by_text : ByText g) where
  -- what it tells of an input it tells of the input's first bytes, if they are so many
  pub input_more : (a b : List ℕ) → input_room ≤ length a → g (first_line_form.read a) ≡ g (first_line_form.read (a ++ b))
  input_more a b h = go (first_line_form.read (a ++ b)) refl (first_line_form.read a) refl
    where
      go : (o : Option (ℕ × List ℕ)) → first_line_form.read (a ++ b) ≡ o → (q : Option (ℕ × List ℕ)) → first_line_form.read a ≡ q → g (first_line_form.read a) ≡ g (first_line_form.read (a ++ b))
      go none e none f = ap g (f ∙ sym e)
      go none e (some x) f = absurd (none-ne-some _ (sym e ∙ line_more a b f))
      go (some x) e q f =
          let l = line_early a b (omega arith) e in
          ap g l.1 ∙ by_text x.0 l.0 x.1 (omega (arith, l.2)) ∙ sym (ap g e)

  pub input_cut : (k : ℕ) → input_room ≤ k → (input : List ℕ) → g (first_line_form.read (take k input)) ≡ g (first_line_form.read input)
  input_cut k h input = go (leb (length input) k) refl
    where
      go : (b : Bool) → leb (length input) k ≡ b → g (first_line_form.read (take k input)) ≡ g (first_line_form.read input)
      go true e = ap (λ (l : List ℕ). g (first_line_form.read l)) (take_all k input (leb-true (length input) k e))
      go false e =
          let l = leb-false (length input) k e in
          input_more (take k input) (drop k input) (omega (arith, length-take k input)) ∙ ap (λ (l : List ℕ). g (first_line_form.read l)) (take-append-drop k input)
