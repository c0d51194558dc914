-- Laws on tests over lists. Assumes nothing.
--     every_append, every_gather, every_map, every_both     a test over what was put together, and two tests at once
--     every_split, every_parts, every_at, every_true        a test that passes at every element
--     rest_first, rest_end, every_next, every_stop, ..      a loop that goes through a list, element by element
--     Marked, unmarked, mark_one, distinct_front, ..        numbers from the last one back, each marked by its remainder
use Rattle.std.specs.Prelude.{◌≡◌, refl, Bool, true, false, not, ◌&&◌, List, [], ◌∷◌, ◌++◌, map, ℕ, zero, suc, ◌+◌, ◌%◌, ◌≤◌, ◌<◌, length, get_or, set, drop}
use Rattle.std.proofs.Common.{sym, ap, ◌∙◌, not-suc-le-zero, le_of_suc-le-suc, add-one, arith, length-drop, drop_of_length-le, drop-cons, get_or-drop, get_or-set_same, get_or-set_other}
use Rattle.std.proofs.Math.Bool.{and_assoc}
use Rattle.std.proofs.Math.Decide.{ℕ_discrete}
use Rattle.general_laws.specs.Lists.{every, gather, keys, within, distinct, choose_yes, choose_no}
use Rattle.general_laws.specs.Tests.{both}

pub every_append : {A : Type 0} (p : A → Bool) (xs ys : List A) → every p (xs ++ ys) ≡ (every p xs && every p ys)
every_append p [] ys = refl
every_append p (x ∷ xs) ys = ap (λ (b : Bool). p x && b) (every_append p xs ys) ∙ sym (and_assoc (p x) (every p xs) (every p ys))

pub every_gather : {A B : Type 0} (p : B → Bool) (g : A → List B) (xs : List A) → every p (gather g xs) ≡ every (λ a. every p (g a)) xs
every_gather p g [] = refl
every_gather p g (x ∷ xs) = every_append p (g x) (gather g xs) ∙ ap (λ (b : Bool). every p (g x) && b) (every_gather p g xs)

-- what passes at all that was put together, or gathered, passes at each part
pub every_split : {A : Type 0} (p : A → Bool) (xs ys : List A) → every p (xs ++ ys) ≡ true → (every p xs ≡ true) × (every p ys ≡ true)
every_split p xs ys e = both (every p xs) (every p ys) (sym (every_append p xs ys) ∙ e)

pub every_parts : {A B : Type 0} (p : B → Bool) (g : A → List B) (xs : List A) → every p (gather g xs) ≡ true → every (λ a. every p (g a)) xs ≡ true
every_parts p g xs e = sym (every_gather p g xs) ∙ e

pub every_map : {A B : Type 0} (p : B → Bool) (f : A → B) (xs : List A) → every p (map f xs) ≡ every (λ a. p (f a)) xs
every_map p f [] = refl
every_map p f (x ∷ xs) = ap (λ (b : Bool). p (f x) && b) (every_map p f xs)

pub every_keys : {A : Type 0} (p : ℕ → Bool) (xs : List (ℕ × A)) → every p (keys xs) ≡ every (λ e. p e.0) xs
every_keys p [] = refl
every_keys p (x ∷ xs) = ap (λ (b : Bool). p x.0 && b) (every_keys p xs)

pub every_same : {A : Type 0} {p q : A → Bool} → ((a : A) → p a ≡ q a) → (xs : List A) → every p xs ≡ every q xs
every_same h [] = refl
every_same h (x ∷ xs) = λ i. h x i && every_same h xs i

crossed : (a b c d : Bool) → (a && b && (c && d)) ≡ (a && c && (b && d))
crossed true true c d = refl
crossed true false true d = refl
crossed true false false d = refl
crossed false b c d = refl

pub every_both : {A : Type 0} (p q : A → Bool) (xs : List A) → every (λ a. p a && q a) xs ≡ (every p xs && every q xs)
every_both p q [] = refl
every_both p q (x ∷ xs) = ap (λ (b : Bool). p x && q x && b) (every_both p q xs) ∙ crossed (p x) (q x) (every p xs) (every q xs)

-- What a loop from s on, at element i, has left to ask: what f says of the list from s on it says of the list from i on.
pub record Rest {A B : Type 0} (f : List A → B) (l : List A) (s i : ℕ) : Type 0 where
  pub low : i ≤ length l
  pub same : f (drop s l) ≡ f (drop i l)

pub rest_first : {A B : Type 0} (f : List A → B) (l : List A) (s : ℕ) → s ≤ length l → Rest f l s s
rest_first f l s h = record { low = h; same = refl }

module _ {A B : Type 0} {f : List A → B} {l : List A} {s i : ℕ} (r : Rest f l s i) where
  rest_at : i < length l → (d : A) → f (drop s l) ≡ f (get_or l i d ∷ drop (i + 1) l)
  rest_at h d = r.same ∙ ap f (drop-cons l i d h) ∙ ap (λ (n : ℕ). f (get_or l i d ∷ drop n l)) (sym (add-one i))

  rest_next : i < length l → (d : A) → f (get_or l i d ∷ drop (i + 1) l) ≡ f (drop (i + 1) l) → Rest f l s (i + 1)
  rest_next h d e = record { low = omega arith; same = rest_at h d ∙ e }

  pub rest_end : length l ≤ i → f (drop s l) ≡ f []
  rest_end h = r.same ∙ ap f (drop_of_length-le l h)

-- The three loops: a test at every element, a number among the elements, and numbers that differ.
module _ {A : Type 0} (p : A → Bool) {l : List A} {s i : ℕ} (r : Rest (every p) l s i) (h : i < length l) (d : A) where
  pub every_next : p (get_or l i d) ≡ true → Rest (every p) l s (i + 1)
  every_next e = rest_next r h d (ap (λ (b : Bool). b && every p (drop (i + 1) l)) e)

  pub every_stop : p (get_or l i d) ≡ false → every p (drop s l) ≡ false
  every_stop e = rest_at r h d ∙ ap (λ (b : Bool). b && every p (drop (i + 1) l)) e

module _ (x : ℕ) {l : List ℕ} {s i : ℕ} (r : Rest (within x) l s i) (h : i < length l) where
  pub within_next : (x ≡ get_or l i 0 → ⊥) → Rest (within x) l s (i + 1)
  within_next n = rest_next r h 0 (choose_no (ℕ_discrete x (get_or l i 0)) true (within x (drop (i + 1) l)) n)

  pub within_stop : x ≡ get_or l i 0 → within x (drop s l) ≡ true
  within_stop e = rest_at r h 0 ∙ choose_yes (ℕ_discrete x (get_or l i 0)) true (within x (drop (i + 1) l)) e

-- Numbers that differ, from the last one back: element k of those from i on has set the mark of its remainder by m.
abbrev pub Marked : ℕ → List ℕ → ℕ → List Bool → Type 0
Marked m l i marks = (k : ℕ) → i ≤ k → k < length l → get_or marks (get_or l k 0 % m) false ≡ true

within_none : (x : ℕ) (l : List ℕ) → ((k : ℕ) → k < length l → x ≡ get_or l k 0 → ⊥) → within x l ≡ false
within_none x [] h = refl
within_none x (y ∷ l) h = choose_no (ℕ_discrete x y) true (within x l) (h 0 (omega arith)) ∙ within_none x l (λ k b. h (suc k) (omega arith))

true_false : {b : Bool} → b ≡ true → b ≡ false → ⊥
true_false p q = let z : ◌≡◌ {A = ℕ} 0 1 = cc in omega arith

-- a number whose mark is not set is none of those behind it
pub unmarked : (m : ℕ) (l : List ℕ) (i j x : ℕ) (marks : List Bool) → j ≡ i + 1 → Marked m l j marks → get_or marks (x % m) false ≡ false → within x (drop (i + 1) l) ≡ false
unmarked m l i j x marks e r n =
    within_none x (drop (i + 1) l) (λ k b f.
    true_false (r (i + 1 + k) (omega arith) (omega (arith, length-drop (i + 1) l)))
    (ap (λ (y : ℕ). get_or marks (y % m) false) (sym (get_or-drop (i + 1) l k 0) ∙ sym f) ∙ n))

pub mark_one : (m : ℕ) (l : List ℕ) (i j : ℕ) (marks : List Bool) → j ≡ i + 1 → get_or l i 0 % m < length marks → Marked m l j marks → Marked m l i (set marks (get_or l i 0 % m) true)
mark_one m l i j marks e h r k a b = go (ℕ_discrete (get_or l i 0 % m) (get_or l k 0 % m))
  where
    go : Dec (get_or l i 0 % m ≡ get_or l k 0 % m) → get_or (set marks (get_or l i 0 % m) true) (get_or l k 0 % m) false ≡ true
    go (yes s) = ap (λ (y : ℕ). get_or (set marks (get_or l i 0 % m) true) y false) (sym s) ∙ get_or-set_same marks (get_or l i 0 % m) true false h
    go (no n) = get_or-set_other marks (get_or l i 0 % m) (get_or l k 0 % m) true false (λ s. n (sym s)) ∙ r k (later (ℕ_discrete i k)) b
      where
        later : Dec (i ≡ k) → j ≤ k
        later (yes s) = absurd (n (ap (λ (y : ℕ). get_or l y 0 % m) s))
        later (no o) = omega arith

distinct_at : (l : List ℕ) (i : ℕ) → i < length l → distinct (drop i l) ≡ (not (within (get_or l i 0) (drop (i + 1) l)) && distinct (drop (i + 1) l))
distinct_at l i h = ap distinct (drop-cons l i 0 h) ∙ ap (λ (n : ℕ). not (within (get_or l i 0) (drop n l)) && distinct (drop n l)) (sym (add-one i))

pub distinct_front : (l : List ℕ) (i j : ℕ) → j ≡ i + 1 → i < length l → within (get_or l i 0) (drop (i + 1) l) ≡ false → distinct (drop j l) ≡ true → distinct (drop i l) ≡ true
distinct_front l i j s h e f =
    distinct_at l i h ∙ ap (λ (b : Bool). not b && distinct (drop (i + 1) l)) e ∙ ap (λ (n : ℕ). distinct (drop n l)) (sym s) ∙ f

and_false : (b : Bool) → (b && false) ≡ false
and_false true = refl
and_false false = refl

distinct_whole : (l : List ℕ) (i : ℕ) → distinct (drop i l) ≡ false → distinct l ≡ false
distinct_whole l zero e = e
distinct_whole [] (suc i) e = e
distinct_whole (x ∷ l) (suc i) e = ap (λ (b : Bool). not (within x l) && b) (distinct_whole l i e) ∙ and_false (not (within x l))

pub distinct_stop : (l : List ℕ) (i : ℕ) → i < length l → within (get_or l i 0) (drop (i + 1) l) ≡ true → distinct l ≡ false
distinct_stop l i h e = distinct_whole l i (distinct_at l i h ∙ ap (λ (b : Bool). not b && distinct (drop (i + 1) l)) e)

pub every_at : {A : Type 0} (p : A → Bool) (xs : List A) → every p xs ≡ true → (i : ℕ) (d : A) → i < length xs → p (get_or xs i d) ≡ true
every_at p [] e i d h = absurd (not-suc-le-zero h)
every_at p (x ∷ xs) e zero d h = (both (p x) (every p xs) e).0
every_at p (x ∷ xs) e (suc i) d h = every_at p xs (both (p x) (every p xs) e).1 i d (le_of_suc-le-suc h)

pub every_true : {A : Type 0} (p : A → Bool) → ((a : A) → p a ≡ true) → (xs : List A) → every p xs ≡ true
every_true p h [] = refl
every_true p h (x ∷ xs) = rw (h x) (every_true p h xs)
