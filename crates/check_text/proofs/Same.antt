-- The tests of the words are document 01's refusals 3 to 7 and document 02's 13, for every text. Assumes nothing.
--     checks_safe     the code stays within the slice
--     checks_same     what it computes, with what the reader judged of ctrl lines, is the first refusal
--     passes, stands_back    a text without a refusal passes each, and stands in the slice whole
use Rattle.std.specs.Prelude.{◌≡◌, refl, Bool, true, false, ◌&&◌, List, ℕ, leb, Result}
use Rattle.std.proofs.Math.Path.{sym, ap}
use Rattle.std.proofs.Common.{subst, ◌∙◌, arith, lit<, leb-true, le-leb}
use Rattle.std.proofs.lemmas.Bool.{false≢true}
use Rattle.general_laws.specs.Tests.{both}
use Rattle.general_laws.specs.Lists.{every, gather}
use Rattle.lifting.specs.Ast.{Func}
use Rattle.lifting.specs.Parts.{ctrl_insts}
use Rattle.lifting.specs.Limits.{max_regions, max_targets, within_limits}
use Rattle.lifting.specs.References.{references_hold}
use Rattle.lifting.specs.Tree.{is_tree}
use Rattle.lifting.specs.Counts.{edges_fit, counts_agree}
use Rattle.lifting.specs.Control.{control_fits, targets_differ}
use Rattle.lifting.specs.Answer as answer
use Rattle.lifting.specs.Answer.{parsed, denied, checked}
use Rattle.refusals.specs.declared.Refusal.TheVariants.{Limits, References, Tree, Counts, Control, Targets}
use Rattle.refusals.specs.Numbers.{refusal_number}
use Rattle.func.specs.Layout.{entries, ctrls}
use Rattle.func.specs.Store.{count}
use Rattle.func.specs.Keep.{keep_func}
use Rattle.func.specs.Whole.{Clear}
use Rattle.func.specs.Stored.{Stored}
use Rattle.func.proofs.Stored.{stored_func}
use Rattle.func.specs.Decode.{func_of}
use Rattle.func.specs.Back.{RowFits}
use Rattle.func.proofs.Back.{func_back}
use Rattle.func.specs.Tables.{Tables}
use Rattle.func.proofs.Tables.{tables_func}
use Rattle.func_fits.specs.Parsed.{Few, fits_few, few_control}
use Rattle.check_limits.specs.Limits.{limits_test}
use Rattle.check_insts.specs.Test.{opcode_fits}
use Rattle.check_references.specs.Test.{references_test}
use Rattle.check_limits.specs.Limits.{limits_test_law}
use Rattle.check_references.specs.Hold.{references_test_law}
use Rattle.check_marks.specs.Test.{tree_test}
use Rattle.check_tree.specs.Same.{tree_safe, tree_test_law}
use Rattle.check_counts.specs.Same.{counts_safe, counts_test_law}
use Rattle.walk_roots.specs.Tables.{RegionsNamed}
use Rattle.check_control.specs.Meets.{named_refers}
use Rattle.refusals.specs.declared.Refusal.{Refusal}
use Rattle.check_text.specs.Test.{judge, few_test, checks_test, ChecksSafe}
use Rattle.check_text.specs.Same.{verdict, Passes, Stands}

-- the definition, in the same form
checked_is : (F : Func) → checked F ≡ verdict (judge (within_limits F) (references_hold F) (is_tree F) (counts_agree F) (control_fits F) (targets_differ F)) F
unfolding checked
checked_is F = go (within_limits F) (references_hold F) (is_tree F) (counts_agree F) (control_fits F) (targets_differ F)
  where
    go : (a b c d e f : Bool)
        → ◌≡◌ {A = answer.Parsed} (elim a [
          | false ↦ denied (refusal_number Limits)
          | true ↦ elim b [
            | false ↦ denied (refusal_number References)
            | true ↦ elim c [ false ↦ denied (refusal_number Tree) | true ↦ elim d [ false ↦ denied (refusal_number Counts) | true ↦ elim e [ false ↦ denied (refusal_number Control) | true ↦ elim f [ false ↦ denied (refusal_number Targets) | true ↦ parsed F ] ] ] ]
          ]
        ]) (verdict (judge a b c d e f) F)
    go false b c d e f = refl
    go true false c d e f = refl
    go true true false d e f = refl
    go true true true false e f = refl
    go true true true true false f = refl
    go true true true true true false = refl
    go true true true true true true = refl

-- two nests of tests are the same where each test is, once those before it were passed
same : (a b c d e f : Bool) {p q r s t u : Bool} → p ≡ a → (a ≡ true → q ≡ b) → (a ≡ true → b ≡ true → r ≡ c) → (a ≡ true → b ≡ true → c ≡ true → s ≡ d)
    → (a ≡ true → b ≡ true → c ≡ true → t ≡ e) → (a ≡ true → b ≡ true → c ≡ true → e ≡ true → u ≡ f) → judge p q r s t u ≡ judge a b c d e f
same false b c d e f {q = q} {r = r} {s = s} {t = t} {u = u} l m g h k n = ap (λ (x : Bool). judge x q r s t u) l
same true false c d e f {r = r} {s = s} {t = t} {u = u} l m g h k n = λ i. judge (l i) (m refl i) r s t u
same true true false d e f {s = s} {t = t} {u = u} l m g h k n = λ i. judge (l i) (m refl i) (g refl refl i) s t u
same true true true false e f {t = t} {u = u} l m g h k n = λ i. judge (l i) (m refl i) (g refl refl i) (h refl refl refl i) t u
same true true true true false f {u = u} l m g h k n = λ i. judge (l i) (m refl i) (g refl refl i) (h refl refl refl i) (k refl refl refl i) u
same true true true true true f l m g h k n = λ i. judge (l i) (m refl i) (g refl refl i) (h refl refl refl i) (k refl refl refl i) (n refl refl refl refl i)

-- what is parsed is the text's own function, and it passes
abbrev function_or : Func → answer.Parsed → Func
function_or d (parsed F) = F
function_or d (denied n) = d

pub passes : (G F : Func) → checked G ≡ parsed F → (G ≡ F) × Passes G
passes G F e = go (within_limits G) (references_hold G) (is_tree G) (counts_agree G) (control_fits G) (targets_differ G) refl refl refl refl refl refl (sym (checked_is G) ∙ e)
  where
    go : (a b c d e f : Bool) → within_limits G ≡ a → references_hold G ≡ b → is_tree G ≡ c → counts_agree G ≡ d → control_fits G ≡ e → targets_differ G ≡ f → verdict (judge a b c d e f) G ≡ parsed F
        → (G ≡ F) × Passes G
    go false b c d e f l m g h k n q = absurd (let z : ◌≡◌ {A = ℕ} 0 1 = cc in omega arith)
    go true false c d e f l m g h k n q = absurd (let z : ◌≡◌ {A = ℕ} 0 1 = cc in omega arith)
    go true true false d e f l m g h k n q = absurd (let z : ◌≡◌ {A = ℕ} 0 1 = cc in omega arith)
    go true true true false e f l m g h k n q = absurd (let z : ◌≡◌ {A = ℕ} 0 1 = cc in omega arith)
    go true true true true false f l m g h k n q = absurd (let z : ◌≡◌ {A = ℕ} 0 1 = cc in omega arith)
    go true true true true true false l m g h k n q = absurd (let z : ◌≡◌ {A = ℕ} 0 1 = cc in omega arith)
    go true true true true true true l m g h k n q = (ap (function_or G) q, record { limits = l; references = m; tree = g; counts = h; control = k; differ = n })

-- the counts of ctrl lines and entries stop only above their bounds
few_forth : {F : Func} {w : List ℕ} → Stored F w → few_test w ≡ true → Few F
unfolding few_test
few_forth {F} {w} s e =
    let b = both (leb (count ctrls w) max_regions) (leb (count entries w) max_targets) e in
    record {
      ctrls = omega (arith, leb-true (count ctrls w) max_regions b.0, s.counts ctrls (lit< tt));
      entries = omega (arith, leb-true (count entries w) max_targets b.1, s.counts entries (lit< tt));
    }

few_back : {F : Func} {w : List ℕ} → Stored F w → Few F → few_test w ≡ true
unfolding few_test
few_back {F} {w} s f =
    let a : leb (count ctrls w) max_regions ≡ true = le-leb (count ctrls w) max_regions (omega (arith, f.ctrls, s.counts ctrls (lit< tt))) in
    let b : leb (count entries w) max_targets ≡ true = le-leb (count entries w) max_targets (omega (arith, f.entries, s.counts entries (lit< tt))) in
    λ i. a i && b i

-- a text that passes 3 to 5: where it has few ctrl lines and entries, all of it stands in the words
module _ (F : Func) {z : List ℕ} (clear : Clear z) (limits : within_limits F ≡ true) (references : references_hold F ≡ true) (tree : is_tree F ≡ true) where
  whole : Few F → RowFits F
  whole few = fits_few F limits references tree few

  func_is : Few F → func_of (keep_func F z) ≡ F
  func_is few = func_back F clear (whole few)

  tables_are : Few F → Tables (keep_func F z)
  tables_are few = tables_func F clear (whole few)

  named_are : Few F → RegionsNamed (func_of (keep_func F z))
  named_are few = named_refers (tables_are few) (subst (λ (G : Func). references_hold G ≡ true) (sym (func_is few)) references)

  -- a text with more of them fails refusal 7
  control_is : (few_test (keep_func F z) && control_fits (func_of (keep_func F z))) ≡ control_fits F
  control_is = go (few_test (keep_func F z)) (control_fits F) refl refl
    where
      go : (a b : Bool) → few_test (keep_func F z) ≡ a → control_fits F ≡ b → (a && control_fits (func_of (keep_func F z))) ≡ control_fits F
      go true b e f = ap control_fits (func_is (few_forth (stored_func F clear) e))
      go false false e f = sym f
      go false true e f = absurd (false≢true (sym e ∙ few_back (stored_func F clear) (few_control F limits references f)))

  targets_are : control_fits F ≡ true → targets_differ (func_of (keep_func F z)) ≡ targets_differ F
  targets_are control = ap targets_differ (func_is (few_control F limits references control))

module _ (F : Func) {z : List ℕ} (clear : Clear z) (opcodes : Bool) (fit : opcodes ≡ every (λ i. opcode_fits i.opcode) (gather (λ c. ctrl_insts c.1.kind) F.ctrls)) where
  -- each test is the refusal's, where those before it were passed
  limits_are : limits_test (keep_func F z) ≡ within_limits F
  limits_are = limits_test_law F (keep_func F z) (stored_func F clear)

  references_are : within_limits F ≡ true → (references_test (keep_func F z) && opcodes) ≡ references_hold F
  references_are l = references_test_law F (keep_func F z) opcodes (stored_func F clear) l fit

  tree_is : within_limits F ≡ true → references_hold F ≡ true → tree_test (keep_func F z) ≡ is_tree F
  tree_is l h = tree_test_law F (keep_func F z) (stored_func F clear) l h

  pub checks_safe : ChecksSafe (keep_func F z) opcodes
  checks_safe = record {
    size = (stored_func F clear).size;
    tree = λ a b. let l = sym limits_are ∙ a in tree_safe F (keep_func F z) (stored_func F clear) l (sym (references_are l) ∙ b);
    counts = λ a b c. let l = sym limits_are ∙ a in let h = sym (references_are l) ∙ b in counts_safe F (keep_func F z) (stored_func F clear) l h (sym (tree_is l h) ∙ c);
    tables = λ a b c e. let l = sym limits_are ∙ a in let h = sym (references_are l) ∙ b in tables_are F clear l h (sym (tree_is l h) ∙ c) (few_forth (stored_func F clear) e);
    named = λ a b c e. let l = sym limits_are ∙ a in let h = sym (references_are l) ∙ b in named_are F clear l h (sym (tree_is l h) ∙ c) (few_forth (stored_func F clear) e);
  }

  pub checks_same : (edges : Bool) → (within_limits F ≡ true → edges ≡ every (λ c. edges_fit F c.1) F.ctrls) → verdict (checks_test (keep_func F z) opcodes edges) F ≡ checked F
  unfolding checks_test
  checks_same edges e =
      ap (λ (x : Result Unit Refusal). verdict x F)
      (same (within_limits F) (references_hold F) (is_tree F) (counts_agree F) (control_fits F) (targets_differ F)
      limits_are
      references_are
      tree_is
      (λ l h t. counts_test_law F (keep_func F z) edges (stored_func F clear) l h t (e l))
      (control_is F clear)
      (targets_are F clear))
      ∙ sym (checked_is F)

pub stands_back : (F : Func) {z : List ℕ} → Clear z → checked F ≡ parsed F → Stands F (keep_func F z)
stands_back F clear e =
    let p = (passes F F e).1 in
    let few = few_control F p.limits p.references p.control in
    record {
      passes = p;
      func = func_is F clear p.limits p.references p.tree few;
      tables = tables_are F clear p.limits p.references p.tree few;
      named = named_are F clear p.limits p.references p.tree few;
    }
