-- Steps of the proofs about the parts of a way out: its merge labels, its targets, and its only target. Assumes nothing.
--     target-..      target i of each kind of way out
--     sole-..        the only target, and that there is none
--     label-..       labels are merges and then targets
use Rattle.std.specs.Prelude.{◌≡◌, refl, Some, None, true, false, List, [], ◌∷◌, ◌++◌, map, ℕ, zero, suc, ◌+◌, ◌-◌, ◌≤◌, ◌<◌, length, get_or}
use Rattle.std.proofs.Common.{sym, ap, subst, ◌∙◌, arith, length-append, get_or-append-add}
use Rattle.std.proofs.lemmas.Bool.{false≢true}
use Rattle.std.proofs.Math.Option.{Option, none, some}
use Rattle.std.proofs.lemmas.List.{length-map}
use Rattle.std.proofs.Math.ListN.{get_or-map, get_or-append}
use Rattle.lifting.specs.Ast.{ControlInst, ControlInstKind, Func, Value, bool_cond, spv_inst, unreachable, return, branch, select_branch, exit_invocation}
use Rattle.lifting.specs.Parts.{children_of, node_of, node_values, region_of}
use Rattle.lifting.specs.Points.{CfgPoint, Merge, Terminator, loop_merge, no_merge, node_entry, node_exit, region_entry, selection_merge}
use Rattle.lifting.specs.Walk.{in_block, some_vals, line_term}
use Rattle.lifting.specs.Absorb.{if_branch, if_empty, if_zero, labels, merge_labels, the_only, sole_target}
use Rattle.func.specs.Decode.{func_of}
use Rattle.func.specs.Tables.{ctrl_line_of}
use Rattle.func.proofs.Tables.{ctrl_targets, list_count, node_children}
use Rattle.func.specs.Kinds.{ctrl_kind}
use Rattle.walk_points.specs.Numbers.{number_back, point_number}
use Rattle.terminators.specs.declared.TermKind.{TermKind}
use Rattle.terminators.specs.declared.TermKind.TheVariants.{Straight, Line, Leave, Select, Join, Repeat, Test}
use Rattle.terminators.specs.Kinds.{Known, KindFits, TermIs, Sole, as_sole, bare_sole, is_branch, merge_of_law, merge_of, term_of}

-- ---- what a way out names

pub fits_as : {w : List ℕ} {x y : TermKind} → Known w x → x ≡ y → KindFits (func_of w) y
fits_as {w} k g = subst (KindFits (func_of w)) g k.fits

pub low_region : {w : List ℕ} {x : TermKind} → Known w x → {r : ℕ} → r < length (func_of w).regions → r < 128
low_region k h = omega (arith, k.walkable.named.few)

-- ---- targets

abbrev pub number_at : List CfgPoint → ℕ → ℕ
number_at l i = point_number (get_or l i (region_entry 0))

pub one_at : {l : List CfgPoint} {p : CfgPoint} (i : ℕ) → l ≡ p ∷ [] → i < length l → number_at l i ≡ point_number p
one_at {l} {p} i e h = go i (subst (λ (k : List CfgPoint). i < length k) e h) (ap (λ (k : List CfgPoint). number_at k i) e)
  where
    go : (i : ℕ) → i < 1 → number_at l i ≡ number_at (p ∷ []) i → number_at l i ≡ point_number p
    go zero h q = q
    go (suc i) h q = absurd (omega arith)

-- the first of two, and the second
pub first_label_law : (p q : CfgPoint) {i : ℕ} → i ≡ 0 → number_at (p ∷ q ∷ []) i ≡ point_number p
first_label_law p q e = ap (number_at (p ∷ q ∷ [])) e

pub second_at : (p q : CfgPoint) (i : ℕ) → i < 2 → ¬ (i ≡ 0) → number_at (p ∷ q ∷ []) i ≡ point_number q
second_at p q zero h e = absurd (e refl)
second_at p q (suc zero) h e = refl
second_at p q (suc (suc i)) h e = absurd (omega arith)

module _ {w : List ℕ} {x : TermKind} (k : Known w x) where
  abbrev to : TermKind → List CfgPoint
  to y = (term_of (func_of w) y).targets

  -- how many
  pub line_count : {c : ℕ} → x ≡ Line c → {n : ℕ} → n ≡ length (ctrl_line_of (func_of w) c).1.to → (n ≡ length (to x)) × (n ≤ 4095)
  line_count {c} g {n} e = (
    e ∙ sym (length-map (ctrl_line_of (func_of w) c).1.to region_entry) ∙ sym (ap (λ (y : TermKind). length (to y)) g),
    omega (arith, list_count (ctrl_targets k.tables c (fits_as k g))),
  )

  pub select_count : {s u : ℕ} → x ≡ Select s u → {n : ℕ} → n ≡ length (children_of (node_of (func_of w) s)) → (n ≡ length (to x)) × (n ≤ 4095)
  select_count {s} g {n} e = (
    e ∙ sym (length-map (children_of (node_of (func_of w) s)) region_entry) ∙ sym (ap (λ (y : TermKind). length (to y)) g),
    omega (arith, list_count (node_children k.tables s (fits_as k g))),
  )

  module _ (i : ℕ) (h : i < length (to x)) where
    within : {y : TermKind} → x ≡ y → i < length (to y)
    within g = subst (λ (y : TermKind). i < length (to y)) g h

    pub target_one : {y : TermKind} {p : CfgPoint} → x ≡ y → to y ≡ p ∷ [] → {q : ℕ} → q ≡ point_number p → q ≡ number_at (to x) i
    target_one {y} g e q = q ∙ sym (one_at i (ap to g ∙ e) h)

    pub target_line : {c : ℕ} → x ≡ Line c → (i < length (ctrl_line_of (func_of w) c).1.to) × (get_or (ctrl_line_of (func_of w) c).1.to i 0 < 128)
    target_line {c} g =
        let l : i < length (ctrl_line_of (func_of w) c).1.to = omega (arith, within g, length-map (ctrl_line_of (func_of w) c).1.to region_entry) in
        (l, low_region k (k.walkable.named.target c i (fits_as k g) l))

    pub target_case : {s u : ℕ} → x ≡ Select s u → (i < length (children_of (node_of (func_of w) s))) × (get_or (children_of (node_of (func_of w) s)) i 0 < 128)
    target_case {s} g =
        let l : i < length (children_of (node_of (func_of w) s)) = omega (arith, within g, length-map (children_of (node_of (func_of w) s)) region_entry) in
        (l, low_region k (k.walkable.named.child s i (fits_as k g) l))

    -- regions that a list names
    pub target_of : {y : TermKind} (l : List ℕ) → x ≡ y → to y ≡ map region_entry l → {r q : ℕ} → r ≡ get_or l i 0 → q ≡ point_number (region_entry r)
        → q ≡ number_at (to x) i
    target_of {y} l g e {r} {q} er eq =
        eq
        ∙ ap (λ (z : ℕ). point_number (region_entry z)) er
        ∙ sym (ap (λ (z : List CfgPoint). number_at z i) (ap to g ∙ e) ∙ ap point_number (get_or-map region_entry l i 0))

    pub target_test : {n r : ℕ} → x ≡ Test n r → i < 2
    target_test g = within g

-- ---- the only target

zero_none : (n : ℕ) → if_zero n none ≡ none
zero_none zero = refl
zero_none (suc n) = refl

zero_no : (n : ℕ) (o : Option CfgPoint) → ¬ (n ≡ 0) → if_zero n o ≡ none
zero_no zero o h = absurd (h refl)
zero_no (suc n) o h = refl

branch_none : (k : ControlInstKind) → if_branch k none ≡ none
branch_none unreachable = refl
branch_none return = refl
branch_none branch = refl
branch_none (select_branch s) = refl
branch_none (exit_invocation i) = refl

branch_no : (k : ControlInstKind) (o : Option CfgPoint) → is_branch (ctrl_kind k) ≡ false → if_branch k o ≡ none
branch_no unreachable o h = refl
branch_no return o h = refl
branch_no branch o h = absurd (false≢true (sym h))
branch_no (select_branch s) o h = refl
branch_no (exit_invocation i) o h = refl

branch_yes : (k : ControlInstKind) (o : Option CfgPoint) → is_branch (ctrl_kind k) ≡ true → if_branch k o ≡ o
branch_yes unreachable o h = absurd (false≢true h)
branch_yes return o h = absurd (false≢true h)
branch_yes branch o h = refl
branch_yes (select_branch bool_cond) o h = absurd (false≢true h)
branch_yes (select_branch (spv_inst i)) o h = absurd (false≢true h)
branch_yes (exit_invocation i) o h = absurd (false≢true h)

empty_none : {A : Type 0} (l : List A) → if_empty l none ≡ none
empty_none [] = refl
empty_none (x ∷ l) = refl

empty_no : {A : Type 0} (l : List A) (o : Option CfgPoint) → ¬ (length l ≡ 0) → if_empty l o ≡ none
empty_no [] o h = absurd (h refl)
empty_no (x ∷ l) o h = refl

empty_yes : {A : Type 0} (l : List A) (o : Option CfgPoint) → length l ≡ 0 → if_empty l o ≡ o
empty_yes [] o h = refl
empty_yes (x ∷ l) o h = absurd (omega arith)

single_no : (l : List CfgPoint) → ¬ (length l ≡ 1) → the_only l ≡ none
single_no [] h = refl
single_no (p ∷ []) h = absurd (h refl)
single_no (p ∷ q ∷ l) h = refl

single_yes : (l : List CfgPoint) → length l ≡ 1 → the_only l ≡ some (get_or l 0 (region_entry 0))
single_yes [] h = absurd (omega arith)
single_yes (p ∷ []) h = refl
single_yes (p ∷ q ∷ l) h = absurd (omega arith)

-- a ctrl line that fails one of the tests, in turn, and one that passes all
module _ (c : ControlInst) where
  abbrev pub Sole-is : Sole → Type 0
  Sole-is s = s ≡ as_sole (sole_target (line_term c))

  abbrev vals : List (CfgPoint × List Value)
  vals = (line_term c).vals

  abbrev last : Option CfgPoint
  last = the_only (line_term c).targets

  from_branch : if_branch c.kind (if_empty c.ins (if_empty vals last)) ≡ none → Sole-is None
  from_branch e = sym (ap as_sole (ap (if_zero c.attrs) e ∙ zero_none c.attrs))

  from_ins : if_empty c.ins (if_empty vals last) ≡ none → Sole-is None
  from_ins e = from_branch (ap (if_branch c.kind) e ∙ branch_none c.kind)

  from_vals : if_empty vals last ≡ none → Sole-is None
  from_vals e = from_ins (ap (if_empty c.ins) e ∙ empty_none c.ins)

  pub sole_attrs : ¬ (c.attrs ≡ 0) → Sole-is None
  sole_attrs h = sym (ap as_sole (zero_no c.attrs _ h))

  pub sole_kind : is_branch (ctrl_kind c.kind) ≡ false → Sole-is None
  sole_kind h = from_branch (branch_no c.kind _ h)

  pub sole_ins : ¬ (length c.ins ≡ 0) → Sole-is None
  sole_ins h = from_ins (empty_no c.ins _ h)

  pub sole_vals : ¬ (length c.vals ≡ 0) → Sole-is None
  sole_vals h = from_vals (empty_no vals _ (λ e. h (sym (length-map c.vals _) ∙ e)))

  pub sole_many : ¬ (length c.to ≡ 1) → Sole-is None
  sole_many h = from_vals (ap (if_empty vals) (single_no (line_term c).targets (λ e. h (sym (length-map c.to region_entry) ∙ e))) ∙ empty_none vals)

  pub sole_one : c.attrs ≡ 0 → is_branch (ctrl_kind c.kind) ≡ true → length c.ins ≡ 0 → length c.vals ≡ 0 → length c.to ≡ 1
      → {r q : ℕ} → r ≡ get_or c.to 0 0 → q ≡ point_number (region_entry r) → Sole-is (Some q)
  sole_one a k i v t er eq =
      ap Some (eq ∙ ap (λ (z : ℕ). point_number (region_entry z)) er ∙ sym (ap point_number (get_or-map region_entry c.to 0 0)))
      ∙ sym (ap as_sole (
      ap (λ (n : ℕ). if_zero n (if_branch c.kind (if_empty c.ins (if_empty vals last)))) a
      ∙ branch_yes c.kind _ k
      ∙ empty_yes c.ins _ i
      ∙ empty_yes vals _ (length-map c.vals _ ∙ v)
      ∙ single_yes (line_term c).targets (length-map c.to region_entry ∙ t)))

pub bare_yes : (q : ℕ) (vs : List Value) → length vs ≡ 0 → Some q ≡ bare_sole q vs
bare_yes q [] h = refl
bare_yes q (v ∷ vs) h = absurd (omega arith)

pub bare_no : (q : ℕ) (vs : List Value) → ¬ (length vs ≡ 0) → None ≡ bare_sole q vs
bare_no q [] h = absurd (h refl)
bare_no q (v ∷ vs) h = refl

bare_sole_law : (p : CfgPoint) (vs : List Value) → bare_sole (point_number p) vs ≡ as_sole (if_empty (some_vals p vs) (some p))
bare_sole_law p [] = refl
bare_sole_law p (v ∷ vs) = refl

-- no targets, or a merge
barred : (k : ControlInstKind) (vs : List Value) → None ≡ as_sole (if_branch k (if_empty vs none))
barred k vs = sym (ap as_sole (ap (if_branch k) (empty_none vs) ∙ branch_none k))

abbrev sole_of : Func → TermKind → Sole
sole_of F y = as_sole (sole_target (term_of F y))

module _ (F : Func) {x : TermKind} where
  pub sole_as : {y : TermKind} {s : Sole} → x ≡ y → s ≡ sole_of F y → s ≡ sole_of F x
  sole_as g e = e ∙ sym (ap (sole_of F) g)

  pub sole_to : {q : ℕ} → x ≡ Straight q → Some q ≡ sole_of F x
  sole_to {q} g = sole_as g (ap Some (sym (number_back q)))

  pub sole_leave : {n : ℕ} → x ≡ Leave n → None ≡ sole_of F x
  sole_leave {n} g = sole_as g (barred (in_block F (node_of F n) n).term.kind (node_values (node_of F n)))

  pub sole_select : {n u : ℕ} → x ≡ Select n u → None ≡ sole_of F x
  sole_select {n} g = sole_as g (barred (in_block F (node_of F n) n).term.kind (node_values (node_of F n)))

  pub sole_join : {n r : ℕ} → x ≡ Join n r → {s : Sole} {q : ℕ} → s ≡ bare_sole q (region_of F r).outs → q ≡ point_number (node_exit n) → s ≡ sole_of F x
  sole_join {n} {r} g e eq = sole_as g (e ∙ ap (λ (z : ℕ). bare_sole z (region_of F r).outs) eq ∙ bare_sole_law (node_exit n) (region_of F r).outs)

  pub sole_repeat : {n r : ℕ} → x ≡ Repeat n r → {s : Sole} {q : ℕ} → s ≡ bare_sole q (region_of F r).outs → q ≡ point_number (node_entry n) → s ≡ sole_of F x
  sole_repeat {n} {r} g e eq = sole_as g (e ∙ ap (λ (z : ℕ). bare_sole z (region_of F r).outs) eq ∙ bare_sole_law (node_entry n) (region_of F r).outs)

-- ---- labels

module _ (F : Func) {t : Terminator} {x : TermKind} (h : TermIs F t x) where
  pub merge_is : merge_labels (merge_of x) ≡ merge_labels t.merge
  merge_is = ap merge_labels (sym (merge_of_law F x) ∙ sym (ap (λ (y : Terminator). y.merge) h.is))

  pub targets_are : (term_of F x).targets ≡ t.targets
  targets_are = sym (ap (λ (y : Terminator). y.targets) h.is)

  labels_are : merge_labels (merge_of x) ++ (term_of F x).targets ≡ labels t
  labels_are = ap (λ (l : List CfgPoint). l ++ (term_of F x).targets) merge_is ∙ ap (λ (l : List CfgPoint). merge_labels t.merge ++ l) targets_are

  pub label_total : {a b : ℕ} → a ≡ length (merge_labels (merge_of x)) → b ≡ length (term_of F x).targets → a + b ≡ length (labels t)
  label_total ea eb = omega (arith, ap length labels_are, length-append (merge_labels (merge_of x)) (term_of F x).targets)

  module _ (k : ℕ) {c : ℕ} (e : c ≡ length (merge_labels (merge_of x))) where
    pub label_merge : k < c → {q : ℕ} → q ≡ number_at (merge_labels (merge_of x)) k → q ≡ number_at (labels t) k
    label_merge l eq =
        let z : k < length (merge_labels (merge_of x)) = omega arith in
        eq
        ∙ ap point_number (sym (get_or-append (merge_labels (merge_of x)) (term_of F x).targets (region_entry 0) k z))
        ∙ ap (λ (m : List CfgPoint). number_at m k) labels_are

    pub label_low : c ≤ k → k < length (labels t) → k - c < length (term_of F x).targets
    label_low l b = omega (arith, ap length labels_are, length-append (merge_labels (merge_of x)) (term_of F x).targets)

    pub label_target : c ≤ k → {q : ℕ} → q ≡ number_at (term_of F x).targets (k - c) → q ≡ number_at (labels t) k
    label_target l eq =
        let z : length (merge_labels (merge_of x)) + (k - c) ≡ k = omega arith in
        eq
        ∙ ap point_number (sym (get_or-append-add (merge_labels (merge_of x)) (term_of F x).targets (k - c) (region_entry 0)))
        ∙ ap (λ (j : ℕ). number_at (merge_labels (merge_of x) ++ (term_of F x).targets) j) z
        ∙ ap (λ (m : List CfgPoint). number_at m k) labels_are

-- at most two merge labels
pub few_merges : (x : TermKind) {n : ℕ} → n ≡ length (merge_labels (merge_of x)) → n ≤ 2
few_merges x e = omega (arith, go (merge_of x))
  where
    go : (m : Merge) → length (merge_labels m) ≤ 2
    go no_merge = omega arith
    go (selection_merge a u) = omega arith
    go (loop_merge a b u) = omega arith
