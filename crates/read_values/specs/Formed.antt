-- The format of a form whose part is read by itself, to its end. Assumes nothing.
--     formed_by            the format
--     settled_formed    it is settled
--     plain-..          texts without brackets
use Rattle.std.specs.Prelude.{◌≡◌, List, [], ◌∷◌, ◌++◌, Bool, true, false, ℕ, zero, suc, ◌+◌, ◌/◌, ◌%◌, eqb, ltb, length, take, drop}
use Rattle.std.proofs.Common.{sym, ap, subst, ◌∙◌, append_assoc, arith, ne_eqb}
use Rattle.std.proofs.Math.Option.{Option, some, some-injective}
use Rattle.std.proofs.Math.Seq.{take-append_seam, drop-append-add}
use Rattle.lifting.specs.Digits.{Reading, digits, digits_to}
use Rattle.lifting.specs.Codec.{Codec, Whole, Led, led_stop, then, then_some, strip, strip_sound, strip_full}
use Rattle.lifting.specs.Whole.{read_whole}
use Rattle.lifting.proofs.Codec.{Inverse}
use Rattle.lifting.proofs.Whole.{whole_full, whole_sound}
use Rattle.read_forms.specs.Form.{deeper, closes, form_span, span_sound}
use Rattle.read_values.specs.Alike.{ReadBack}

-- a text without brackets
abbrev pub Plain : List ℕ → Type 0
Plain [] = Unit {0}
Plain (b ∷ t) = (eqb b 40 ≡ false) × (eqb b 41 ≡ false) × Plain t

pub plain_append : (l r : List ℕ) → Plain l → Plain r → Plain (l ++ r)
plain_append [] r p q = q
plain_append (b ∷ l) r p q = (p.0, p.1, plain_append l r p.2 q)

plain_digit : (n : ℕ) → Plain ((48 + n) ∷ [])
plain_digit n = (ne_eqb (48 + n) 40 (λ e. omega arith), ne_eqb (48 + n) 41 (λ e. omega arith), tt)

plain_to : (k n : ℕ) → Plain (digits_to k n)
unfolding digits_to
plain_to zero n = tt
plain_to (suc k) n = go (plain_to k (n / 10)) (ltb n 10)
  where
    go : Plain (digits_to k (n / 10)) → (q : Bool) → Plain (elim q as (λ x. List ℕ) [ true ↦ (48 + n) ∷ [] | false ↦ digits_to k (n / 10) ++ ((48 + n % 10) ∷ []) ])
    go ih true = plain_digit n
    go ih false = plain_append (digits_to k (n / 10)) ((48 + n % 10) ∷ []) ih (plain_digit (n % 10))

pub plain_digits : (n : ℕ) → Plain (digits n)
unfolding digits
plain_digits n = plain_to 10 n

-- a text without brackets goes up to the bracket behind it
span_plain : (l : List ℕ) (n : ℕ) (r : List ℕ) → Plain l → form_span n 0 (l ++ (41 ∷ r)) ≡ some (n + length l)
unfolding form_span closes deeper
span_plain [] n r p = ap {B = Option ℕ} some (omega arith)
span_plain (b ∷ l) n r p =
    let c : closes b 0 ≡ false = rw (p.1, closes) in
    let e : deeper b 0 ≡ 0 = rw (p.0, deeper) (rw p.1) in
    let k : n + 1 + length l ≡ n + suc (length l) = omega arith in
    rw (c, form_span) (ap (λ (d : ℕ). form_span (n + 1) d (l ++ (41 ∷ r))) e ∙ span_plain l (n + 1) r p.2 ∙ ap {B = Option ℕ} some k)

-- an opening, a whole text without brackets, and the closing bracket
module _ {A : Type 0} (s : List ℕ) (h : Led s) (W : Whole A) (plain : (a : A) → Plain (W.print a)) where
  abbrev pub inside : List ℕ → ℕ → A → Reading A
  inside u m a = some (a, drop (m + 1) u)

  abbrev pub within : List ℕ → ℕ → Reading A
  within u m = then (read_whole W (take m u)) (inside u m)

  -- read as a part, behind the opening
  abbrev pub parted : List ℕ → Reading A
  parted u = then (form_span 0 0 u) (within u)

  abbrev pub print_form : A → List ℕ
  print_form a = s ++ (W.print a ++ (41 ∷ []))

  pub print_before : (a : A) (r : List ℕ) → print_form a ++ r ≡ s ++ (W.print a ++ (41 ∷ r))
  print_before a r = simp append_assoc

  pub sound_form : Inverse W → (t : List ℕ) (x : A × List ℕ) → then (strip s t) parted ≡ some x → (t ≡ print_form x.0 ++ x.1) × W.Ok x.0
  sound_form i t x e =
      let p = then_some (strip s t) parted x e in
      let u = p.0 in
      let q = then_some (form_span 0 0 u) (within u) x p.2 in
      let m = q.0 in
      let v = then_some (read_whole W (take m u)) (inside u m) x q.2 in
      let g = whole_sound i (take m u) v.0 v.1 in
      let w : u ≡ W.print v.0 ++ (41 ∷ drop (m + 1) u) = rw g.0 at (span_sound u m q.1) in
      subst (λ (y : A × List ℕ). (t ≡ print_form y.0 ++ y.1) × W.Ok y.0) (some-injective _ x v.2)
      (strip_sound s t u p.1 ∙ ap (λ (l : List ℕ). s ++ l) w ∙ sym (print_before v.0 (drop (m + 1) u)), g.1)

  pub full_form : Inverse W → (a : A) → W.Ok a → (r : List ℕ) → then (strip s (print_form a ++ r)) parted ≡ some (a, r)
  full_form i a ok r =
      let u : List ℕ = W.print a ++ (41 ∷ r) in
      let z : 0 + length (W.print a) ≡ length (W.print a) = omega arith in
      ap (λ (l : List ℕ). then (strip s l) parted) (print_before a r)
      ∙ ap (λ (o : Option (List ℕ)). then o parted) (strip_full s u)
      ∙ ap (λ (o : Option ℕ). then o (within u)) (span_plain (W.print a) 0 r (plain a) ∙ ap {B = Option ℕ} some z)
      ∙ ap (λ (l : List ℕ). then (read_whole W l) (inside u (length (W.print a)))) (take-append_seam (W.print a) (41 ∷ r))
      ∙ ap (λ (o : Option A). then o (inside u (length (W.print a)))) (whole_full i a ok)
      ∙ ap (λ (l : List ℕ). some (a, l)) (drop-append-add (W.print a) (41 ∷ r) 1)

  unfoldable pub formed_by : Codec A
  formed_by =
      record {
        Ok = W.Ok;
        print = print_form;
        read = λ t. then (strip s t) parted;
        stop = λ a r. rw (print_before a r) (led_stop s (W.print a ++ (41 ∷ r)) h);
      }

  pub formed_by_inverse : Inverse W → Inverse formed_by
  unfolding formed_by
  formed_by_inverse i = record { sound = sound_form i; full = λ a ok r m. full_form i a ok r }

  pub settled_formed : Inverse W → ReadBack formed_by
  unfolding formed_by
  settled_formed i = record { full = full_form i }
