-- Texts all of whose values have ids: refusal 10 cannot hold of these. Assumes nothing.
--     all_given, given_set     every value has an id, so every one that is used is set
--     given_yes, given_no     a value by the id that was read
--     value_named             a value of the text names something
use Rattle.std.specs.Prelude.{◌≡◌, Bool, true, false, ℕ, ◌<◌, ltb, length, get_or}
use Rattle.std.proofs.Common.{sym, ap, ◌∙◌, arith, lt-ltb, le-ltb, ltb-true}
use Rattle.general_laws.specs.Lists.{every}
use Rattle.general_laws.specs.Tests.{every_all}
use Rattle.general_laws.specs.Members.{all_in, in_get_or}
use Rattle.lifting.specs.Ast.{Func, Value, const}
use Rattle.lifting.specs.Parts.{has_body, values}
use Rattle.lifting.specs.References.{named}
use Rattle.lifting.specs.Answer.{ids_fit, values_set}
use Rattle.lifting_runs.specs.Refers.{Named, refers}
use Rattle.lifting_runs.specs.Used.{all_values_set}
use Rattle.lifting_runs.specs.Fits as fits
use Rattle.lifting_runs.proofs.Shaped.{shaped_checked}
use Rattle.lifting_blocks.specs.SetIds.{set_of_id}
use Rattle.check_text.specs.Same.{Passes}
use Rattle.emit_names.specs.Ids.{id_in}

abbrev pub is_given : Func → ℕ → Value → Bool
is_given F first v = ltb 0 (id_in F first v)

unfoldable pub all_given : Func → ℕ → Bool
unfolding values
all_given F first = every (is_given F first) (values F)

pub given_set : (F : Func) (first : ℕ) → Passes F → has_body F.regions ≡ true → ids_fit F first ≡ true → all_given F first ≡ true → values_set F ≡ true
unfolding all_given
given_set F first ok body ids e =
    let refs = refers F ok.references in
    let shaped = shaped_checked F body ok.references ok.tree ok.counts ok.control in
    all_values_set F (every_all (is_given F first) _ (λ v t. set_of_id F shaped first (fits.numbers_fit F first refs ids) v (ltb-true 0 (id_in F first v) t)) (values F) e)

-- a value of the text names something
pub value_named : (F : Func) → Passes F → (i : ℕ) → i < length (values F) → named F (get_or (values F) i (const 0)) ≡ true
value_named F ok i h = all_in (Named F) (values F) (refers F ok.references).all_named (get_or (values F) i (const 0)) (in_get_or (values F) i (const 0) h)

-- by the id that was read
pub given_yes : (F : Func) (first : ℕ) {v y : Value} {x : ℕ} → v ≡ y → x ≡ id_in F first v → ¬ (x ≡ 0) → is_given F first y ≡ true
given_yes F first {v} {y} {x} e q n = ap (is_given F first) (sym e) ∙ ap (ltb 0) (sym q) ∙ lt-ltb 0 x (omega arith)

pub given_no : (F : Func) (first : ℕ) {v y : Value} {x : ℕ} → v ≡ y → x ≡ id_in F first v → x ≡ 0 → is_given F first y ≡ false
given_no F first {v} {y} {x} e q z = ap (is_given F first) (sym e) ∙ ap (ltb 0) (sym q) ∙ le-ltb 0 x (omega arith)
