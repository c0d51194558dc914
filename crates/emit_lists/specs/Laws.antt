-- Steps that the proofs share: what is known of a variant holds of what it was matched from. Assumes nothing.
--     list_back               an equation at a variant
--     list_within, element    a list by its name, and its elements
--     list_total              how many it has, which is few
--     by_kind            what each kind of line has
use Rattle.std.specs.Prelude.{◌≡◌, refl, List, [], ◌∷◌, ℕ, zero, suc, ◌≤◌, ◌<◌, get_or, length}
use Rattle.std.proofs.Common.{sym, ap, subst, ◌∙◌, arith}
use Rattle.lifting.specs.Ast.{Value, const}
use Rattle.func.specs.Decode.{first_value}
use Rattle.func.specs.Tables.{Listed}
use Rattle.func.proofs.Tables.{list_count}

pub list_back : {L A : Type 0} (f : L → A) {x y : L} → x ≡ y → {a : A} → a ≡ f y → a ≡ f x
list_back f g e = e ∙ sym (ap f g)

-- the list named x, which is y
module _ {L A : Type 0} where
  pub list_within : (Fits : L → Type 0) (of : L → List A) {x y : L} → x ≡ y → {k : ℕ} → Fits x × (k < length (of x)) → Fits y × (k < length (of y))
  list_within Fits of g {k} h = subst (λ (z : L). Fits z × (k < length (of z))) g h

  pub element : (of : L → List A) (k : ℕ) (d : A) {x y : L} → x ≡ y → {a : A} → a ≡ get_or (of y) k d → a ≡ get_or (of x) k d
  element of k d = list_back (λ (z : L). get_or (of z) k d)

  pub list_total : (of : L → List A) {x y : L} → x ≡ y → {p : ℕ} {f : A → List ℕ} {w : List ℕ} {at : ℕ} → Listed p f (of y) w at
      → {n : ℕ} → n ≡ length (of y) → (n ≡ length (of x)) × (n ≤ 4095)
  list_total of g s e = (list_back (λ (z : L). length (of z)) g e, omega (arith, list_count s))

-- a line d of kind k has what its kind says
pub by_kind : {D K A : Type 0} (kind : D → K) (f : D → K → A) (g : D → A) → ((d : D) → f d (kind d) ≡ g d) → (d : D) {k x : K}
    → k ≡ kind d → k ≡ x → f d x ≡ g d
by_kind kind f g h d e q = ap (f d) (sym q ∙ e) ∙ h d

pub single_at : {A : Type 0} (a d : A) (k : ℕ) → k < 1 → a ≡ get_or (a ∷ []) k d
single_at a d zero h = refl
single_at a d (suc k) h = absurd (omega arith)

pub first_value_none : (vs : List Value) → length vs ≡ 0 → const 0 ≡ first_value vs
first_value_none [] h = refl
first_value_none (v ∷ vs) h = absurd (omega arith)

pub first_value_law : (vs : List Value) → get_or vs 0 (const 0) ≡ first_value vs
first_value_law [] = refl
first_value_law (v ∷ vs) = refl
