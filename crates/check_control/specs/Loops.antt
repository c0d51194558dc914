-- The tests of refusal 7 as loops over lists, from one element to the next. Assumes nothing.
--     every-..       a test of each element
--     has-..         an element with a key
--     once-..        no key twice
--     control-..     the parts of the refusal
use Rattle.std.specs.Prelude.{◌≡◌, Bool, not, ◌&&◌, List, [], ◌∷◌, ℕ, zero, suc, ◌+◌, ◌-◌, ◌≤◌, ◌<◌, eqb, leb, ltb, length, get_or, drop}
use Rattle.std.proofs.Math.Path.{refl, sym, ap}
use Rattle.std.proofs.Common.{◌∙◌, arith}
use Rattle.std.proofs.Math.Bool.{true, false}
use Rattle.std.proofs.Math.Decide.{ℕ_discrete}
use Rattle.general_laws.specs.Every.{every_both, every_keys}
use Rattle.general_laws.specs.Lists.{choose, choose_yes, choose_no, every, within, distinct, keys, tabulate}
use Rattle.lifting.specs.Ast.{bool_cond, spv_inst, ControlInstKind, unreachable, return, branch, select_branch, exit_invocation, ControlInst, Func}
use Rattle.lifting.specs.Order.{roots}
use Rattle.lifting.specs.Control.{kind_fits, is_root, ctrl_fits, reached_fit, control_fits}
use Rattle.func.specs.declared.CtrlKind.{CtrlKind}
use Rattle.func.specs.declared.CtrlKind.TheVariants.{Unreachable, Return, Branch, Bool as BoolCtrl, Inst as InstCtrl, Exit as ExitCtrl}
use Rattle.func.specs.Kinds.{ctrl_kind}
use Rattle.walk_roots.specs.Tables.{drop_one}

drop_all : {A : Type 0} (l : List A) (i : ℕ) → length l ≤ i → drop i l ≡ []
drop_all [] zero h = refl
drop_all [] (suc i) h = refl
drop_all (x ∷ l) zero h = absurd (omega arith)
drop_all (x ∷ l) (suc i) h = drop_all l i (omega arith)

-- each element
module _ {A : Type 0} (p : A → Bool) (l : List A) (i : ℕ) where
  pub every_next : (d : A) → i < length l → p (get_or l i d) ≡ true → every p (drop i l) ≡ every p (drop (i + 1) l)
  every_next d h e = ap (every p) (drop_one l i d h) ∙ ap (λ (b : Bool). b && every p (drop (i + 1) l)) e

  pub every_stop : (d : A) → i < length l → p (get_or l i d) ≡ false → every p (drop i l) ≡ false
  every_stop d h e = ap (every p) (drop_one l i d h) ∙ ap (λ (b : Bool). b && every p (drop (i + 1) l)) e

  pub every_done : length l ≤ i → every p (drop i l) ≡ true
  every_done h = ap (every p) (drop_all l i h)

-- an element whose key is r
abbrev pub has : {A : Type 0} → (A → ℕ) → ℕ → List A → Bool
has f r [] = false
has f r (x ∷ l) = choose (ℕ_discrete r (f x)) true (has f r l)

pub has_within : (r : ℕ) (l : List ℕ) → has (λ x. x) r l ≡ within r l
has_within r [] = refl
has_within r (x ∷ l) = ap (λ (b : Bool). choose (ℕ_discrete r x) true b) (has_within r l)

pub has_keys : {A : Type 0} (r : ℕ) (l : List (ℕ × A)) → has (λ x. x.0) r l ≡ within r (keys l)
has_keys r [] = refl
has_keys r (x ∷ l) = ap (λ (b : Bool). choose (ℕ_discrete r x.0) true b) (has_keys r l)

module _ {A : Type 0} (f : A → ℕ) (r : ℕ) (l : List A) (i : ℕ) where
  pub has_hit : (d : A) → i < length l → f (get_or l i d) ≡ r → has f r (drop i l) ≡ true
  has_hit d h e = ap (has f r) (drop_one l i d h) ∙ choose_yes (ℕ_discrete r (f (get_or l i d))) true (has f r (drop (i + 1) l)) (sym e)

  pub has_next : (d : A) → i < length l → (f (get_or l i d) ≡ r → ⊥) → has f r (drop i l) ≡ has f r (drop (i + 1) l)
  has_next d h n = ap (has f r) (drop_one l i d h) ∙ choose_no (ℕ_discrete r (f (get_or l i d))) true (has f r (drop (i + 1) l)) (λ e. n (sym e))

  pub has_done : length l ≤ i → has f r (drop i l) ≡ false
  has_done h = ap (has f r) (drop_all l i h)

-- no key twice
module _ {A : Type 0} (l : List (ℕ × A)) (i : ℕ) where
  pub once_next : (d : ℕ × A) → i < length l → within (get_or l i d).0 (keys (drop (i + 1) l)) ≡ false → distinct (keys (drop i l)) ≡ distinct (keys (drop (i + 1) l))
  once_next d h e = ap (λ (k : List (ℕ × A)). distinct (keys k)) (drop_one l i d h) ∙ ap (λ (b : Bool). not b && distinct (keys (drop (i + 1) l))) e

  pub once_stop : (d : ℕ × A) → i < length l → within (get_or l i d).0 (keys (drop (i + 1) l)) ≡ true → distinct (keys (drop i l)) ≡ false
  once_stop d h e = ap (λ (k : List (ℕ × A)). distinct (keys k)) (drop_one l i d h) ∙ ap (λ (b : Bool). not b && distinct (keys (drop (i + 1) l))) e

  pub once_done : length l ≤ i → distinct (keys (drop i l)) ≡ true
  once_done h = ap (λ (k : List (ℕ × A)). distinct (keys k)) (drop_all l i h)

-- a line: no child, and what the line says
abbrev pub target_fits : Func → ℕ → Bool
target_fits F r = ltb 0 r && is_root F r

abbrev pub line_fits : Func → ℕ × ControlInst → Bool
line_fits F c = is_root F c.0 && ctrl_fits F c.1

-- the whole, by the parts in the code's order
module _ (F : Func) where
  abbrev pub keys_once : Bool
  keys_once = distinct (keys F.ctrls)

  abbrev pub lines_fit : Bool
  lines_fit = every (line_fits F) F.ctrls

  whole : control_fits F ≡ (keys_once && (lines_fit && reached_fit F.ctrls (roots F)))
  unfolding control_fits
  whole =
      sym (ap (λ (b : Bool). keys_once && (b && reached_fit F.ctrls (roots F))) (every_both (λ c. is_root F c.0) (λ c. ctrl_fits F c.1) F.ctrls)
      ∙ ap (λ (b : Bool). keys_once && ((b && every (λ c. ctrl_fits F c.1) F.ctrls) && reached_fit F.ctrls (roots F))) (sym (every_keys (is_root F) F.ctrls))
      ∙ turn keys_once (every (is_root F) (keys F.ctrls)) (reached_fit F.ctrls (roots F)) (every (λ c. ctrl_fits F c.1) F.ctrls))
    where
      turn : (a b c d : Bool) → (a && ((b && d) && c)) ≡ (a && b && c && d)
      turn true true true true = refl
      turn true true true false = refl
      turn true true false true = refl
      turn true true false false = refl
      turn true false c d = refl
      turn false b c d = refl

  pub control_twice : keys_once ≡ false → control_fits F ≡ false
  control_twice e = whole ∙ ap (λ (b : Bool). b && (lines_fit && reached_fit F.ctrls (roots F))) e

  pub control_line : keys_once ≡ true → lines_fit ≡ false → control_fits F ≡ false
  control_line e g = whole ∙ ap (λ (b : Bool). b && (lines_fit && reached_fit F.ctrls (roots F))) e ∙ ap (λ (b : Bool). b && reached_fit F.ctrls (roots F)) g

  control_rest_law : keys_once ≡ true → lines_fit ≡ true → control_fits F ≡ reached_fit F.ctrls (roots F)
  control_rest_law e g = whole ∙ ap (λ (b : Bool). b && (lines_fit && reached_fit F.ctrls (roots F))) e ∙ ap (λ (b : Bool). b && reached_fit F.ctrls (roots F)) g

  pub control_none : keys_once ≡ true → lines_fit ≡ true → length F.ctrls ≡ 0 → control_fits F ≡ true
  control_none e g z = control_rest_law e g ∙ go F.ctrls z
    where
      go : (l : List (ℕ × ControlInst)) → length l ≡ 0 → reached_fit l (roots F) ≡ true
      go [] z = refl
      go (x ∷ l) z = absurd (omega arith)

  pub control_reached : keys_once ≡ true → lines_fit ≡ true → (length F.ctrls ≡ 0 → ⊥) → control_fits F ≡ every (λ r. within r (keys F.ctrls)) (roots F)
  control_reached e g z = control_rest_law e g ∙ go F.ctrls z
    where
      go : (l : List (ℕ × ControlInst)) → (length l ≡ 0 → ⊥) → reached_fit l (roots F) ≡ every (λ r. within r (keys l)) (roots F)
      go [] z = absurd (z refl)
      go (x ∷ l) z = refl

-- numbers that follow one another
module _ (p : ℕ → Bool) (f : ℕ → ℕ) (a i n : ℕ) where
  pub tab_next : i < n → p (f (a + i)) ≡ true → every p (tabulate f (a + i) (n - i)) ≡ every p (tabulate f (a + (i + 1)) (n - (i + 1)))
  tab_next h e =
      let q : n - i ≡ suc (n - (i + 1)) = omega arith in
      let s : suc (a + i) ≡ a + (i + 1) = omega arith in
      ap (λ (z : ℕ). every p (tabulate f (a + i) z)) q
      ∙ ap (λ (b : Bool). b && every p (tabulate f (suc (a + i)) (n - (i + 1)))) e
      ∙ ap (λ (z : ℕ). every p (tabulate f z (n - (i + 1)))) s

  pub tab_stop : i < n → p (f (a + i)) ≡ false → every p (tabulate f (a + i) (n - i)) ≡ false
  tab_stop h e =
      let q : n - i ≡ suc (n - (i + 1)) = omega arith in
      ap (λ (z : ℕ). every p (tabulate f (a + i) z)) q ∙ ap (λ (b : Bool). b && every p (tabulate f (suc (a + i)) (n - (i + 1)))) e

  pub tab_done : n ≤ i → every p (tabulate f (a + i) (n - i)) ≡ true
  tab_done h = let q : n - i ≡ 0 = omega arith in ap (λ (z : ℕ). every p (tabulate f (a + i) z)) q

pub tab_first : (p : ℕ → Bool) (f : ℕ → ℕ) (a n : ℕ) → every p (tabulate f a n) ≡ every p (tabulate f (a + 0) (n - 0))
tab_first p f a n =
    let q : n ≡ n - 0 = omega arith in
    let s : a ≡ a + 0 = omega arith in
    ap (λ (z : ℕ). every p (tabulate f a z)) q ∙ ap (λ (z : ℕ). every p (tabulate f z (n - 0))) s

-- the counts of a kind
abbrev pub kind_test : CtrlKind → ℕ → ℕ → Bool
kind_test Unreachable ins to = eqb ins 0 && eqb to 0
kind_test Return ins to = leb ins 1 && eqb to 0
kind_test Branch ins to = eqb ins 0 && eqb to 1
kind_test BoolCtrl ins to = eqb ins 1 && eqb to 2
kind_test InstCtrl ins to = ltb 0 ins && ltb 0 to
kind_test ExitCtrl ins to = eqb to 0

pub kind_test_law : (k : ControlInstKind) (ins to : ℕ) → kind_test (ctrl_kind k) ins to ≡ kind_fits k ins to
kind_test_law unreachable ins to = refl
kind_test_law return ins to = refl
kind_test_law branch ins to = refl
kind_test_law (select_branch bool_cond) ins to = refl
kind_test_law (select_branch (spv_inst i)) ins to = refl
kind_test_law (exit_invocation i) ins to = refl
