-- The reader's answer is that of `parse`. Assumes nothing.
--     short, long, malformed     refusals 8, 1 and 2; enough_both: not 8
--     judged_safe, judged        refusals 3 to 7 and 13, of a text that is of the forms
--     stands_judged, parsed_judged     a function that was judged to stand there does, and is the text's
--     answered, too_short        so the answer and both slices are as promised
--     accepted, work_cleared          what a caller has where the function stands in its slice
use Rattle.std.proofs.Math.Path.{◌≡◌, refl, ap, subst}
use Rattle.std.proofs.Common.{sym, ◌∙◌, arith, le-leb, leb-true}
use Rattle.std.specs.Prelude.{Bool, false, ◌&&◌, List, ℕ, ◌≤◌, ◌<◌, leb, eqb, length, replicate, Result, Ok, Err}
use Rattle.std.proofs.Math.Bool.{true}
use Rattle.std.proofs.Math.Option.{Option, none, some}
use Rattle.std.proofs.lemmas.List.{length-replicate}
use Rattle.std.proofs.lemmas.Bool.{lt-leb}
use Rattle.refusals.specs.declared.Refusal.{Refusal}
use Rattle.refusals.specs.declared.Refusal.TheVariants.{Forms, Long, Scratch}
use Rattle.refusals.specs.Numbers.{refusal_number}
use Rattle.general_laws.specs.Lists.{every, gather}
use Rattle.lifting.specs.Limits.{max_bytes, func_words, work_words, within_limits}
use Rattle.lifting.specs.Ast.{Func}
use Rattle.lifting.specs.Parts.{ctrl_insts}
use Rattle.lifting.specs.Grammar.{read}
use Rattle.lifting.specs.Counts.{edges_fit}
use Rattle.lifting.specs.Answer as answer
use Rattle.lifting.specs.Answer.{parsed, denied, checked, formed, parse, zeros_unless8}
use Rattle.lifting.specs.Control.{control_fits, targets_differ}
use Rattle.check_insts.specs.Test.{opcode_fits}
use Rattle.check_limits.specs.Limits.{limits_test}
use Rattle.check_references.specs.Test.{references_test}
use Rattle.check_marks.specs.Test.{tree_test}
use Rattle.check_counts.specs.Test.{counts_test}
use Rattle.func.specs.Decode.{func_of}
use Rattle.func.specs.Keep.{keep_func}
use Rattle.work.specs.Layout.{work_need}
use Rattle.func.specs.Whole.{Clear, empty_pools}
use Rattle.func.proofs.Whole.{clear_empty}
use Rattle.read_ctrls.specs.Same.{opcodes_judged, edges_judged}
use Rattle.read_text.specs.Whole.{Text}
use Rattle.check_text.specs.Test.{judge, few_test, checks_test, ChecksSafe}
use Rattle.check_text.specs.Same.{verdict, Stands}
use Rattle.check_text.proofs.Same.{checks_safe, checks_same, passes, stands_back}
use Rattle.reader.specs.Parse.{answer_of, func_after, work_after, Unentered, enough_test, kept_after, Judges}

-- `parse` by its first two tests
abbrev by_length : List ℕ → Bool → answer.Parsed
by_length text false = denied (refusal_number Long)
by_length text true = formed (read text)

abbrev by_scratch : List ℕ → Bool → answer.Parsed
by_scratch text false = denied (refusal_number Scratch)
by_scratch text true = by_length text (leb (length text) max_bytes)

parse_is : (text : List ℕ) (n m : ℕ) → parse text n m ≡ by_scratch text (enough_test n m)
parse_is text n m = by_scratch_law (enough_test n m) refl
  where
    by_length_law : enough_test n m ≡ true → (b : Bool) → leb (length text) max_bytes ≡ b → parse text n m ≡ by_scratch text (enough_test n m)
    by_length_law e false f = unfold parse in rw (e, f, parse)
    by_length_law e true f = unfold parse in rw (e, f, parse)

    by_scratch_law : (b : Bool) → enough_test n m ≡ b → parse text n m ≡ by_scratch text (enough_test n m)
    by_scratch_law false e = unfold parse in rw (e, parse)
    by_scratch_law true e = by_length_law e (leb (length text) max_bytes) refl

-- 8
pub short : (text : List ℕ) (n m : ℕ) → enough_test n m ≡ false → parse text n m ≡ denied (refusal_number Scratch)
short text n m e = parse_is text n m ∙ ap (by_scratch text) e

-- both slices are long enough
pub enough_both : (n m : ℕ) → enough_test n m ≡ true → (func_words ≤ n) × (work_words ≤ m)
enough_both n m e = by_test (leb func_words n) (leb work_words m) refl refl e
  where
    by_test : (a b : Bool) → leb func_words n ≡ a → leb work_words m ≡ b → (a && b) ≡ true → (func_words ≤ n) × (work_words ≤ m)
    by_test true true p q r = (leb-true func_words n p, leb-true work_words m q)
    by_test true false p q r = absurd (let z : ◌≡◌ {A = ℕ} 0 1 = cc in omega arith)
    by_test false b p q r = absurd (let z : ◌≡◌ {A = ℕ} 0 1 = cc in omega arith)

module _ (text : List ℕ) (n m : ℕ) (a : func_words ≤ n) (b : work_words ≤ m) where
  later : parse text n m ≡ by_length text (leb (length text) max_bytes)
  later = parse_is text n m ∙ (λ i. by_scratch text (le-leb func_words n a i && le-leb work_words m b i))

  -- 1
  pub long : max_bytes < length text → parse text n m ≡ denied (refusal_number Long)
  long h = later ∙ ap (by_length text) (lt-leb (length text) max_bytes h)

  -- 2
  module _ (h : length text ≤ max_bytes) where
    formed_is : parse text n m ≡ formed (read text)
    formed_is = later ∙ ap (by_length text) (le-leb (length text) max_bytes h)

    pub malformed : read text ≡ none → parse text n m ≡ denied (refusal_number Forms)
    unfolding formed
    malformed e = formed_is ∙ ap formed e

    pub checked_is : (F : Func) → read text ≡ some F → parse text n m ≡ checked F
    unfolding formed
    checked_is F e = formed_is ∙ ap formed e

-- the refusals of a text that is of the forms are not 8
abbrev eight : Result Unit Refusal → Bool
eight (Ok u) = false
eight (Err x) = eqb (refusal_number x) (refusal_number Scratch)

not_eight : (u v w x y z : Bool) → eight (judge u v w x y z) ≡ false
not_eight false v w x y z = refl
not_eight true false w x y z = refl
not_eight true true false x y z = refl
not_eight true true true false y z = refl
not_eight true true true true false z = refl
not_eight true true true true true false = refl
not_eight true true true true true true = refl

module _ (text : List ℕ) {f w v : List ℕ} (a : func_words ≤ length f) (b : work_words ≤ length w) (c : Clear f) (u : Unentered w) (h : length text ≤ max_bytes) {opcodes edges : Bool}
    (t : Text opcodes edges text f w v) where
  opcodes_fit : opcodes ≡ every (λ i. opcode_fits i.opcode) (gather (λ c. ctrl_insts c.1.kind) t.F.ctrls)
  opcodes_fit = sym t.opcodes_are ∙ opcodes_judged t.F.ctrls _ w

  edges_fit_law : within_limits t.F ≡ true → edges ≡ every (λ c. edges_fit t.F c.1) t.F.ctrls
  edges_fit_law l = sym t.edges_are ∙ edges_judged t.F c w (omega arith) u.word l

  pub judged_safe : ChecksSafe v opcodes
  judged_safe = subst (λ (v : List ℕ). ChecksSafe v opcodes) t.func (checks_safe t.F c opcodes opcodes_fit)

  same : verdict (checks_test v opcodes edges) t.F ≡ checked t.F
  same = subst (λ (v : List ℕ). verdict (checks_test v opcodes edges) t.F ≡ checked t.F) t.func (checks_same t.F c opcodes opcodes_fit edges edges_fit_law)

  pub judged : (r : Result Unit Refusal) → r ≡ checks_test v opcodes edges → Judges r text (length f) (length w) f v
  judged (Ok o) e =
      let k : parsed t.F ≡ checked t.F = ap (λ (r : Result Unit Refusal). verdict r t.F) e ∙ same in
      record { F = t.F; is = checked_is text (length f) (length w) a b h t.F t.read_is ∙ sym k; passed = sym k; func = sym t.func }
  judged (Err x) e =
      let k : denied (refusal_number x) ≡ checked t.F = ap (λ (r : Result Unit Refusal). verdict r t.F) e ∙ same in
      (checked_is text (length f) (length w) a b h t.F t.read_is ∙ sym k, ap eight e ∙ test)
    where
      test : eight (checks_test v opcodes edges) ≡ false
      test = unfold checks_test in not_eight (limits_test v) (references_test v && opcodes) (tree_test v) (counts_test v && edges) (few_test v && control_fits (func_of v)) (targets_differ (func_of v))

-- a function that was judged to stand there does, and is the text's
module _ (text f : List ℕ) (m : ℕ) {v : List ℕ} (size : func_words ≤ length f) (j : Judges (Ok tt) text (length f) m (empty_pools f) v) where
  stands : Stands j.F (keep_func j.F (empty_pools f))
  stands = stands_back j.F (clear_empty f (omega arith)) j.passed

  same_func : func_of v ≡ j.F
  same_func = ap func_of j.func ∙ stands.func

  pub stands_judged : Stands (func_of v) v
  stands_judged = subst (λ (F : Func). Stands F v) (sym same_func) (subst (λ (x : List ℕ). Stands j.F x) (sym j.func) stands)

  pub parsed_judged : parsed (func_of v) ≡ parse text (length f) m
  parsed_judged = ap parsed same_func ∙ sym j.is

-- the answer and the slices at the end, from what was judged
module _ (text f w : List ℕ) where
  pub judged_at : {n m : ℕ} {x : List ℕ} (r : Result Unit Refusal) (v : List ℕ) → n ≡ length f → m ≡ length w → x ≡ empty_pools f → Judges r text n m x v → Judges r text (length f) (length w) (empty_pools f) v
  judged_at {n} {m} r v e g q j =
      subst (λ (k : ℕ). Judges r text (length f) k (empty_pools f) v) g
      (subst (λ (k : ℕ). Judges r text k m (empty_pools f) v) e (subst (λ (x : List ℕ). Judges r text n m x v) q j))

  pub answered : func_words ≤ length f → (r : Result Unit Refusal) (v u x : List ℕ) → Judges r text (length f) (length w) (empty_pools f) v → length v ≡ length f → u ≡ kept_after r v → x ≡ replicate (length w) 0
      → (answer_of r u ≡ parse text (length f) (length w)) × ((u ≡ func_after (parse text (length f) (length w)) f) × (x ≡ work_after (parse text (length f) (length w)) w))
  answered size (Ok o) v u x j l q z = (
    ap (λ (y : List ℕ). parsed (func_of y)) q ∙ parsed_judged text f (length w) size j,
    (q ∙ j.func ∙ sym (ap (λ (p : answer.Parsed). func_after p f) j.is), z ∙ sym (ap (λ (p : answer.Parsed). work_after p w) j.is)),
  )
  answered size (Err y) v u x j l q z = (
    sym j.0,
    (
      q ∙ ap (λ (k : ℕ). replicate k 0) l ∙ sym (ap (λ (p : answer.Parsed). func_after p f) j.0 ∙ ap (λ (b : Bool). zeros_unless8 b f) j.1),
      z ∙ sym (ap (λ (p : answer.Parsed). work_after p w) j.0 ∙ ap (λ (b : Bool). zeros_unless8 b w) j.1),
    ),
  )

  pub too_short : enough_test (length f) (length w) ≡ false
      → (denied (refusal_number Scratch) ≡ parse text (length f) (length w)) × ((f ≡ func_after (parse text (length f) (length w)) f) × (w ≡ work_after (parse text (length f) (length w)) w))
  too_short e =
      let k = sym (short text (length f) (length w) e) in
      (k, (ap (λ (p : answer.Parsed). func_after p f) k, ap (λ (p : answer.Parsed). work_after p w) k))

-- a text that is parsed is of the forms and passes, and the slices were long enough
parsed_checked : (text : List ℕ) (n m : ℕ) (F : Func) → parse text n m ≡ parsed F → (func_words ≤ n) × (work_words ≤ m) × (checked F ≡ parsed F)
parsed_checked text n m F e = by_scratch_law (leb func_words n) (leb work_words m) refl refl (sym (parse_is text n m) ∙ e)
  where
    by_read : (o : Option Func) → formed o ≡ parsed F → checked F ≡ parsed F
    by_read none q = absurd (unfold formed in let z : ◌≡◌ {A = ℕ} 0 1 = cc in omega arith)
    by_read (some G) q =
        let c : checked G ≡ parsed F = unfold formed in q in
        subst (λ (H : Func). checked H ≡ parsed F) (passes G F c).0 c

    by_length_law : (b : Bool) → by_length text b ≡ parsed F → checked F ≡ parsed F
    by_length_law false q = absurd (let z : ◌≡◌ {A = ℕ} 0 1 = cc in omega arith)
    by_length_law true q = by_read (read text) q

    by_scratch_law : (a b : Bool) → leb func_words n ≡ a → leb work_words m ≡ b → by_scratch text (a && b) ≡ parsed F
        → (func_words ≤ n) × (work_words ≤ m) × (checked F ≡ parsed F)
    by_scratch_law true true h k q = (leb-true func_words n h, leb-true work_words m k, by_length_law (leb (length text) max_bytes) q)
    by_scratch_law true false h k q = absurd (let z : ◌≡◌ {A = ℕ} 0 1 = cc in omega arith)
    by_scratch_law false b h k q = absurd (let z : ◌≡◌ {A = ℕ} 0 1 = cc in omega arith)

-- what the promise gives where the answer is that the function stands in its slice
pub accepted : (text f v : List ℕ) (m : ℕ) → answer_of (Ok tt) v ≡ parse text (length f) m → v ≡ func_after (parse text (length f) m) f → Stands (func_of v) v
accepted text f v m e q =
    let k = parsed_checked text (length f) m (func_of v) (sym e) in
    subst (λ (w : List ℕ). Stands (func_of v) w) (sym (q ∙ ap (λ (p : answer.Parsed). func_after p f) (sym e))) (stands_back (func_of v) (clear_empty f (omega (arith, k.0))) k.2)

-- and then the work slice is clear, and long enough
pub work_cleared : (text f v w u : List ℕ) → answer_of (Ok tt) v ≡ parse text (length f) (length w) → u ≡ work_after (parse text (length f) (length w)) w
    → (work_need ≤ length u) × (u ≡ replicate (length u) 0)
work_cleared text f v w u e q =
    let k = parsed_checked text (length f) (length w) (func_of v) (sym e) in
    let z : u ≡ replicate (length w) 0 = q ∙ ap (λ (p : answer.Parsed). work_after p w) (sym e) in
    let l : length u ≡ length w = ap length z ∙ length-replicate {A = ℕ} (length w) 0 in
    (omega (arith, k.1), z ∙ ap (λ (n : ℕ). replicate n 0) (sym l))
