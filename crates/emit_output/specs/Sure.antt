-- Where neither refusal 10 nor 11 can hold, so that the list is written without being counted first. Assumes nothing.
--     sure_test     the slice has room for every list, and every value of the text has an id
--     sure-..      the test, one by one; then every value that is used is set, and the list fits
use Rattle.std.specs.Prelude.{◌≡◌, refl, Bool, true, false, ◌&&◌, List, [], ◌∷◌, ℕ, ◌≤◌, ◌<◌, leb, length}
use Rattle.std.proofs.Common.{sym, ap, ◌∙◌, arith, le-leb, leb-true}
use Rattle.std.proofs.lemmas.Bool.{lt-leb}
use Rattle.general_laws.specs.Tests.{both}
use Rattle.lifting.specs.Ast.{Func, Region}
use Rattle.lifting.specs.Parts.{has_body}
use Rattle.lifting.specs.Instructions.{list_of}
use Rattle.lifting.specs.Words.{words}
use Rattle.lifting.specs.Answer.{ids_fit, values_set}
use Rattle.lifting_sizes.specs.Weights.{max_words}
use Rattle.lifting_sizes.proofs.Bound.{text_bound}
use Rattle.check_text.specs.Same.{Passes}
use Rattle.emit_values.specs.Given.{all_given, given_set}

abbrev pub sure_test : Func → ℕ → ℕ → Bool
sure_test F first room = leb max_words room && (has_body F.regions && all_given F first)

module _ (F : Func) (first room : ℕ) where
  pub sure_short : room < max_words → false ≡ sure_test F first room
  sure_short h = sym (ap (λ (b : Bool). b && (has_body F.regions && all_given F first)) (lt-leb max_words room h))

  no_body : (rs : List Region) → length rs ≡ 0 → false ≡ has_body rs
  no_body [] e = refl
  no_body (r ∷ rs) e = absurd (omega arith)

  some_body : (rs : List Region) → 0 < length rs → has_body rs ≡ true
  some_body [] h = absurd (omega arith)
  some_body (r ∷ rs) h = refl

  module _ (h : max_words ≤ room) where
    past : (has_body F.regions && all_given F first) ≡ sure_test F first room
    past = sym (ap (λ (b : Bool). b && (has_body F.regions && all_given F first)) (le-leb max_words room h))

    pub sure_none : length F.regions ≡ 0 → false ≡ sure_test F first room
    sure_none e = ap (λ (b : Bool). b && all_given F first) (no_body F.regions e) ∙ past

    pub sure_given : 0 < length F.regions → all_given F first ≡ sure_test F first room
    sure_given g = sym (ap (λ (b : Bool). b && all_given F first) (some_body F.regions g)) ∙ past

  module _ (e : sure_test F first room ≡ true) (ok : Passes F) where
    pub sure_set : ids_fit F first ≡ true → values_set F ≡ true
    sure_set ids =
        let t = both (has_body F.regions) (all_given F first) (both (leb max_words room) _ e).1 in
        given_set F first ok t.0 ids t.1

    pub sure_room : length (words (list_of F first)) ≤ room
    sure_room =
        let r = leb-true max_words room (both (leb max_words room) _ e).0 in
        omega (arith, text_bound F first ok.limits ok.references ok.tree ok.counts ok.control)
