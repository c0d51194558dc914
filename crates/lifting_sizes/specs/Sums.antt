-- Sums of weights over lists: what is drawn from a list without repeats, by element, by number or by key, weighs at most as much as the list.
-- Assumes nothing.
use Rattle.std.specs.Prelude.{◌≡◌, refl, ◌⊎◌, List, [], ◌∷◌, ◌++◌, map, ℕ, suc, ◌+◌, ◌*◌, ◌≤◌, ◌<◌, get_or, length}
use Rattle.std.proofs.Common.{sym, ap, ◌∙◌, subst, inl, inr, mul-add, mul-one, mul-zero, arith, length-append}
use Rattle.std.proofs.Math.Option.{Option, none, some}
use Rattle.general_laws.specs.Lists.{below, choose, find, gather, keys}
use Rattle.general_laws.specs.Members.{In, NoDup, here, in_cases, map_tabulate, tabulate_all, there}
use Rattle.lifting_blocks.specs.Flat.{up_to}
use Rattle.lifting_blocks.specs.FlatLaws.{up_to_cons}
use Rattle.lifting_blocks.specs.Totals.{total, total_add, total_none, total_once}

-- each weight at most another
pub total_le : {A : Type 0} (f g : A → ℕ) (l : List A) → ((x : A) → In x l → f x ≤ g x) → total f l ≤ total g l
total_le f g [] h = omega arith
total_le f g (x ∷ l) h = omega (arith, h x here, total_le f g l (λ y i. h y (there i)))

-- over what is appended, mapped and gathered
pub total_append : {A : Type 0} (f : A → ℕ) (k l : List A) → total f (k ++ l) ≡ total f k + total f l
total_append f [] l = omega arith
total_append f (x ∷ k) l = omega (arith, total_append f k l)

pub total_map : {A B : Type 0} (f : B → ℕ) (g : A → B) (l : List A) → total f (map g l) ≡ total (λ x. f (g x)) l
total_map f g [] = refl
total_map f g (x ∷ l) = omega (arith, total_map f g l)

pub total_gather : {A B : Type 0} (f : B → ℕ) (g : A → List B) (l : List A) → total f (gather g l) ≡ total (λ x. total f (g x)) l
total_gather f g [] = refl
total_gather f g (x ∷ l) = omega (arith, total_append f (g x) (gather g l), total_gather f g l)

pub length_gather : {A B : Type 0} (g : A → List B) (l : List A) → length (gather g l) ≡ total (λ x. length (g x)) l
length_gather g [] = refl
length_gather g (x ∷ l) = omega (arith, length-append (g x) (gather g l), length_gather g l)

pub total_keys : {K A : Type 0} (f : K → ℕ) (l : List (K × A)) → total (λ x. f x.0) l ≡ total f (keys l)
total_keys f [] = refl
total_keys f (x ∷ l) = omega (arith, total_keys f l)

-- a length is the sum of ones
pub total_ones : {A : Type 0} (l : List A) → total (λ x. 1) l ≡ length l
total_ones [] = refl
total_ones (x ∷ l) = omega (arith, total_ones l)

-- a factor and a constant
pub total_scale : {A : Type 0} (c : ℕ) (f : A → ℕ) (l : List A) → total (λ x. c * f x) l ≡ c * total f l
total_scale c f [] = sym (mul-zero c)
total_scale c f (x ∷ l) = ap (λ (n : ℕ). c * f x + n) (total_scale c f l) ∙ sym (mul-add c (f x) (total f l))

pub total_plus : {A : Type 0} (c : ℕ) (f : A → ℕ) (l : List A) → total (λ x. c + f x) l ≡ c * length l + total f l
total_plus c f l = total_add (λ x. c) f l ∙ ap (λ (n : ℕ). n + total f l) (ap (λ (n : ℕ). total (λ x. n) l) (sym (mul-one c)) ∙ total_scale c (λ x. 1) l ∙ ap (λ (n : ℕ). c * n) (total_ones l))

-- Over what stands at the numbers of a list's lines, where each part with what is in store before it weighs at most its line with what is in
-- store behind it.
pub total_up_to : {A B : Type 0} (w : A → ℕ) (g : B → ℕ) (d : B) (store : ℕ → ℕ) (l : List B) (f : ℕ → List A) → ((i : ℕ) → i < length l → total w (f i) + store i ≤ g (get_or l i d) + store (suc i))
    → total w (up_to f (length l)) + store 0 ≤ total g l + store (length l)
unfolding up_to
total_up_to w g d store [] f h = omega arith
total_up_to w g d store (x ∷ l) f h = omega (
  arith,
  ap (total w) (up_to_cons f (length l)),
  total_append w (f 0) (up_to (λ i. f (suc i)) (length l)),
  h 0 (omega arith),
  total_up_to w g d (λ i. store (suc i)) l (λ i. f (suc i)) (λ i k. h (suc i) (omega arith)),
)

-- rows and columns
pub total_swap : {A B : Type 0} (f : A → B → ℕ) (k : List A) (l : List B) → total (λ x. total (f x) l) k ≡ total (λ y. total (λ x. f x y) k) l
total_swap f [] l = sym (total_none l)
total_swap f (x ∷ k) l = omega (arith, total_swap f k l, total_add (f x) (λ y. total (λ x. f x y) k) l)

-- the list without one element, and what it weighs
taken : {A : Type 0} (f : A → ℕ) {x : A} {l : List A} → In x l → (m : List A) × (total f l ≡ f x + total f m) × ((y : A) → In y l → (y ≡ x) ⊎ In y m)
taken f (here {l = m}) = (m, refl, λ y i. in_cases i)
taken {A} f {x} (there {y = z} i) =
    let r = taken f i in
    (z ∷ r.0, omega (arith, r.1), λ y j. elim (in_cases j) [ inl e ↦ inr (subst (λ (u : A). In u (z ∷ r.0)) (sym e) here) | inr k ↦ elim (r.2 y k) [ inl e ↦ inl e | inr a ↦ inr (there a) ] ])

-- what stands in a list without repeats, all of it in another list
pub total_within : {A : Type 0} (f : A → ℕ) (k l : List A) → NoDup k → ((x : A) → In x k → In x l) → total f k ≤ total f l
total_within f [] l n h = omega arith
total_within {A} f (x ∷ k) l n h =
    let r = taken f (h x here) in
    omega (arith, r.1, total_within f k r.0 n.1 (λ y i. elim (r.2 y (h y (there i))) [ inl e ↦ absurd (n.0 (subst (λ (z : A). In z k) e i)) | inr j ↦ j ]))

-- the lines of a list, by number
pub total_lines : {A : Type 0} (f : A → ℕ) (l : List A) (d : A) → total (λ i. f (get_or l i d)) (below (length l)) ≡ total f l
total_lines {A} f l d =
    let line : ℕ → A = λ i. get_or l i d in
    sym (total_map f line (below (length l))) ∙ ap (total f) (map_tabulate line (λ i. i) 0 (length l) ∙ tabulate_all l d)

-- the weight of an entry, none without one
abbrev pub weighed : {A : Type 0} → (A → ℕ) → Option A → ℕ
weighed f none = 0
weighed f (some a) = f a

module _ {K : Type 0} (eq : (x y : K) → Dec (x ≡ y)) where
  -- what keys without repeats find in a list of entries
  pub total_find : {A : Type 0} (f : A → ℕ) (ks : List K) → NoDup ks → (l : List (K × A)) → total (λ k. weighed f (find eq k l)) ks ≤ total (λ x. f x.1) l
  total_find f ks u [] = omega (arith, total_none ks)
  total_find {A} f ks u (x ∷ l) = omega (
    arith,
    total_le (λ k. weighed f (find eq k (x ∷ l))) (λ k. choose (eq k x.0) (f x.1) 0 + weighed f (find eq k l)) ks (λ k i. by_case (eq k x.0) (find eq k l)),
    total_add (λ k. choose (eq k x.0) (f x.1) 0) (λ k. weighed f (find eq k l)) ks,
    total_once eq x.0 (f x.1) ks u,
    total_find f ks u l,
  )
    where
      by_case : {P : Type 0} (d : Dec P) (o : Option A) → weighed f (choose d (some x.1) o) ≤ choose d (f x.1) 0 + weighed f o
      by_case (yes e) o = omega arith
      by_case (no n) o = omega arith
