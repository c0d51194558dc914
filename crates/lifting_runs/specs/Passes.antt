-- An answered text passes every refusal, and what the refusals leave of a text with a body is all that its runs need. Assumes nothing.
use Rattle.std.specs.Prelude.{◌≡◌, refl, Bool, true, false, ◌&&◌, List, ℕ, ◌≤◌, leb, length}
use Rattle.std.proofs.Common.{sym, subst, arith, leb-true}
use Rattle.std.proofs.Math.Option.{Option, none, some}
use Rattle.lifting.specs.Ast.{Func}
use Rattle.lifting.specs.Grammar.{read}
use Rattle.lifting.specs.Parts.{has_body}
use Rattle.lifting.specs.Limits.{max_bytes, func_words, work_words, within_limits}
use Rattle.lifting.specs.References.{references_hold}
use Rattle.lifting.specs.Tree.{is_tree}
use Rattle.lifting.specs.Counts.{counts_agree}
use Rattle.lifting.specs.Control.{control_fits, targets_differ}
use Rattle.lifting.specs.Walk.{walk_of}
use Rattle.lifting.specs.Absorb.{kept}
use Rattle.lifting.specs.Ids.{next_id}
use Rattle.lifting.specs.Instructions.{list_of}
use Rattle.lifting.specs.Words.{words}
use Rattle.lifting.specs.Answer.{denied, checked, formed, ids_fit, values_set, Answer, listed, refused, written, lifted, answer}
use Rattle.lifting_runs.specs.Accepted.{Accepted}
use Rattle.lifting_runs.specs.Refers.{refers}
use Rattle.lifting_runs.specs.Fits.{forest, targets_fit_law, fitting, numbers_fit}
use Rattle.lifting_runs.specs.Used.{settles}

pub accepted_of : (F : Func) (first : ℕ) → has_body F.regions ≡ true → references_hold F ≡ true → is_tree F ≡ true → counts_agree F ≡ true → control_fits F ≡ true → ids_fit F first ≡ true → values_set F ≡ true → Accepted F first
accepted_of F first body references tree counts control fresh set =
    let ok = refers F references in
    let trees = forest F ok tree in
    record {
      forest = trees.0;
      targets = targets_fit_law F ok body trees.1 control;
      fitting = fitting F ok counts control;
      numbered = numbers_fit F first ok fresh;
      settles = settles F ok set;
    }

-- What an answer with a list says of the text: it has the function F, which passes every refusal, and the list and the next free id are F's.
pub record ListPassed (text : List ℕ) (first out : ℕ) (F : Func) (ws : List ℕ) (next : ℕ) : Type 0 where
  pub text_is : read text ≡ some F
  pub limits : within_limits F ≡ true
  pub references : references_hold F ≡ true
  pub tree : is_tree F ≡ true
  pub counts : counts_agree F ≡ true
  pub control : control_fits F ≡ true
  pub differ : targets_differ F ≡ true
  pub ids : ids_fit F first ≡ true
  pub values : values_set F ≡ true
  pub words_are : ws ≡ words (list_of F first)
  pub next_is : next ≡ next_id F first (walk_of F) (kept (walk_of F))
  pub room : length ws ≤ out

-- A list comes of no refusal, so a test on the way to it is true; f is what comes after the test.
true_before : {A : Type 0} (f : A → Answer) (refusal : ℕ → A) → ((n : ℕ) → f (refusal n) ≡ refused n) → (ws : List ℕ) (next : ℕ) (b : Bool) (x : A) (n : ℕ) → f (elim b [ false ↦ refusal n | true ↦ x ]) ≡ listed ws next → (b ≡ true) × (f x ≡ listed ws next)
true_before f refusal told ws next true x n e = (refl, e)
true_before f refusal told ws next false x n e = absurd (let z : ◌≡◌ {A = ℕ} 0 1 = cc (told n) in omega arith)

same_list : (vs ws : List ℕ) (last next : ℕ) → listed vs last ≡ listed ws next → (ws ≡ vs) × (next ≡ last)
same_list vs ws last next e = (cc, cc)

func_passes : (text : List ℕ) (first out : ℕ) (ws : List ℕ) (next : ℕ) (F : Func) → read text ≡ some F → lifted (checked F) first out ≡ listed ws next → ListPassed text first out F ws next
unfolding checked lifted written
func_passes text first out ws next F q e =
    let early = true_before (λ p. lifted p first out) denied (λ n. refl) ws next in
    let late = true_before (λ a. a) refused (λ n. refl) ws next in
    let limits = early (within_limits F) _ 3 e in
    let references = early (references_hold F) _ 4 limits.1 in
    let tree = early (is_tree F) _ 5 references.1 in
    let counts = early (counts_agree F) _ 6 tree.1 in
    let control = early (control_fits F) _ 7 counts.1 in
    let differ = early (targets_differ F) _ 13 control.1 in
    let ids = late (ids_fit F first) _ 9 differ.1 in
    let values = late (values_set F) _ 10 ids.1 in
    let room = late (leb (length (words (list_of F first))) out) _ 11 values.1 in
    let same = same_list (words (list_of F first)) ws _ next room.1 in
    record {
      text_is = q;
      limits = limits.0;
      references = references.0;
      tree = tree.0;
      counts = counts.0;
      control = control.0;
      differ = differ.0;
      ids = ids.0;
      values = values.0;
      words_are = same.0;
      next_is = same.1;
      room = subst (λ (vs : List ℕ). length vs ≤ out) (sym same.0) (leb-true (length (words (list_of F first))) out room.0);
    }

pub answer_passes : (text : List ℕ) (first func work out : ℕ) (ws : List ℕ) (next : ℕ) → answer text first func work out ≡ listed ws next → (F : Func) × ListPassed text first out F ws next
unfolding answer
answer_passes text first func work out ws next e =
    let early = true_before (λ p. lifted p first out) denied (λ n. refl) ws next in
    let lent = early (leb func_words func && leb work_words work) _ 8 e in
    let short = early (leb (length text) max_bytes) _ 1 lent.1 in
    by_case (read text) refl short.1
  where
    by_case : (o : Option Func) → read text ≡ o → lifted (formed o) first out ≡ listed ws next → (F : Func) × ListPassed text first out F ws next
    by_case none q e = absurd (let z : ◌≡◌ {A = ℕ} 0 1 = cc in omega arith)
    by_case (some F) q e = (F, func_passes text first out ws next F q e)
