-- What `all` and `any` over a range of numbers answer, where the closure reads elements of a list by number. Assumes nothing.
--     AllRan, AnyRan            the clause that such a call promises
--     Answers                  what each call of the closure answers, by the number that it is given
--     all_numbers              a test at every number below another
--     all_from, all_of         a test at every element of a list, from one on or of all
--     any_from, any_of         a number among the elements of a list, from one on or of all
--     all_tabulated            a test at what a function gives of every number from one on
--     any_keys, distinct_keys  a number among the keys of entries, and keys that differ
use Rattle.std.specs.Prelude.{◌≡◌, refl, Option, Bool, true, false, not, ◌&&◌, ◌||◌, List, ℕ, zero, suc, ◌+◌, ◌-◌, eqb, length, get_or, drop}
use Rattle.std.proofs.Common.{sym, ap, ◌∙◌, add-one, arith, drop-cons, drop_of_length-le, eq-eqb, ne_eqb}
use Rattle.std.proofs.Math.Decide.{ℕ_discrete}
use Rattle.std.proofs.iter.Yields.{nat_range_steps}
use Rattle.std.proofs.lemmas.Iterator.{YieldsList-from_range}
use Rattle.std.proofs.lemmas.Iterator.Search.{all_from_yields_List, any_from_yields_List}
use Rattle.std.specs.Fn.{Called}
use Rattle.std.specs.Iterator.{YieldsThen}
use Rattle.std.specs.List.{range_with_len, list_all, list_any, FoldsTo}
use Rattle.std.specs.Option.{MatchOption}
use Rattle.std.specs.declared.ops.Range.{Range}
use denote.Param.Members.{Mut}
use Rattle.general_laws.specs.Lists.{tabulate, below, choose, every, within, distinct, keys}

-- what each call of the closure answers, by the number that it is given; the closure stays as it was
abbrev pub Answers : {F : Type 0} → Mut F (ℕ × Unit {0}) Bool → F → (ℕ → Bool) → Type 0
Answers {F} g f test = (x : ℕ) (b : Bool) (q : F) → Called g f (x, tt) b q → (q ≡ f) × (b ≡ test x)

abbrev pub AllRan : {F : Type 0} → Mut F (ℕ × Unit {0}) Bool → F → Range ℕ → Range ℕ → Bool → Type 0
AllRan {F} g f s u r = (xs : List ℕ) × (o : Option ℕ) × (j : F) × YieldsThen nat_range_steps s xs o u × FoldsTo (λ p x q. Called g p (x, tt) true q) f xs j × MatchOption o (r ≡ true) (λ x. (r ≡ false) × ((h : F) × Called g j (x, tt) false h))

abbrev pub AnyRan : {F : Type 0} → Mut F (ℕ × Unit {0}) Bool → F → Range ℕ → Range ℕ → Bool → Type 0
AnyRan {F} g f s u r = (xs : List ℕ) × (o : Option ℕ) × (j : F) × YieldsThen nat_range_steps s xs o u × FoldsTo (λ p x q. Called g p (x, tt) false q) f xs j × MatchOption o (r ≡ false) (λ x. (r ≡ true) × ((h : F) × Called g j (x, tt) true h))

all_range : {A : Type 0} (p : A → Bool) (f : ℕ → A) (a n : ℕ) → list_all (λ i. p (f i)) (range_with_len a n) ≡ every p (tabulate f a n)
all_range p f a zero = refl
all_range p f a (suc n) = ap (λ (k : ℕ). p (f a) && list_all (λ i. p (f i)) (range_with_len k n)) (add-one a) ∙ ap (λ (b : Bool). p (f a) && b) (all_range p f (suc a) n)

module _ {A : Type 0} (p : A → Bool) (l : List A) (d : A) where
  all_left : (a n : ℕ) → length l - a ≡ n → list_all (λ i. p (get_or l i d)) (range_with_len a n) ≡ every p (drop a l)
  all_left a zero e = ap (every p) (sym (drop_of_length-le l (omega arith)))
  all_left a (suc n) e =
      ap (λ (k : ℕ). p (get_or l a d) && list_all (λ i. p (get_or l i d)) (range_with_len k n)) (add-one a)
      ∙ ap (λ (b : Bool). p (get_or l a d) && b) (all_left (suc a) n (omega arith))
      ∙ ap (every p) (sym (drop-cons l a d (omega arith)))

one_more : (x y : ℕ) {b c : Bool} → b ≡ c → (eqb y x || b) ≡ choose (ℕ_discrete x y) true c
one_more x y {b} {c} p = go (ℕ_discrete x y)
  where
    go : (q : Dec (x ≡ y)) → (eqb y x || b) ≡ choose q true c
    go (yes e) = ap (λ (t : Bool). t || b) (eq-eqb y x (sym e))
    go (no n) = ap (λ (t : Bool). t || b) (ne_eqb y x (λ e. n (sym e))) ∙ p

module _ (x : ℕ) (l : List ℕ) where
  any_left : (a n : ℕ) → length l - a ≡ n → list_any (λ i. eqb (get_or l i 0) x) (range_with_len a n) ≡ within x (drop a l)
  any_left a zero e = ap (within x) (sym (drop_of_length-le l (omega arith)))
  any_left a (suc n) e =
      ap (λ (k : ℕ). eqb (get_or l a 0) x || list_any (λ i. eqb (get_or l i 0) x) (range_with_len k n)) (add-one a)
      ∙ one_more x (get_or l a 0) (any_left (suc a) n (omega arith))
      ∙ ap (within x) (sym (drop-cons l a 0 (omega arith)))

module _ {A : Type 0} (l : List (ℕ × A)) (d : ℕ × A) where
  distinct_left : (a n : ℕ) → length l - a ≡ n → list_all (λ i. not (within (get_or l i d).0 (keys (drop (i + 1) l)))) (range_with_len a n) ≡ distinct (keys (drop a l))
  distinct_left a zero e = ap (λ (k : List (ℕ × A)). distinct (keys k)) (sym (drop_of_length-le l (omega arith)))
  distinct_left a (suc n) e =
      ap (λ (k : ℕ). not (within (get_or l a d).0 (keys (drop k l))) && list_all (λ i. not (within (get_or l i d).0 (keys (drop (i + 1) l)))) (range_with_len k n)) (add-one a)
      ∙ ap (λ (b : Bool). not (within (get_or l a d).0 (keys (drop (suc a) l))) && b) (distinct_left (suc a) n (omega arith))
      ∙ ap (λ (k : List (ℕ × A)). distinct (keys k)) (sym (drop-cons l a d (omega arith)))

keys_left : {A : Type 0} (x : ℕ) (l : List (ℕ × A)) (d : ℕ × A) (a n : ℕ) → length l - a ≡ n → list_any (λ i. eqb (get_or l i d).0 x) (range_with_len a n) ≡ within x (keys (drop a l))
keys_left {A} x l d a zero e = ap (λ (k : List (ℕ × A)). within x (keys k)) (sym (drop_of_length-le l (omega arith)))
keys_left {A} x l d a (suc n) e =
    ap (λ (k : ℕ). eqb (get_or l a d).0 x || list_any (λ i. eqb (get_or l i d).0 x) (range_with_len k n)) (add-one a)
    ∙ one_more x (get_or l a d).0 (keys_left x l d (suc a) n (omega arith))
    ∙ ap (λ (k : List (ℕ × A)). within x (keys k)) (sym (drop-cons l a d (omega arith)))

module _ {F : Type 0} {g : Mut F (ℕ × Unit {0}) Bool} {f : F} {b : ℕ} {u : Range ℕ} {r : Bool} where
  pub all_numbers : (test : ℕ → Bool) {n : ℕ} → AllRan g f (record { start = 0; end = b }) u r → b ≡ n → Answers g f test → r ≡ every test (below n)
  all_numbers test {n} ran e h = all_from_yields_List test u f r ran (YieldsList-from_range 0 b n refl (omega arith)) h ∙ all_range test (λ i. i) 0 n

  pub all_of : {A : Type 0} (p : A → Bool) (l : List A) (d : A) → AllRan g f (record { start = 0; end = b }) u r → b ≡ length l → Answers g f (λ i. p (get_or l i d)) → r ≡ every p l
  all_of p l d ran e h = all_from_yields_List (λ i. p (get_or l i d)) u f r ran (YieldsList-from_range 0 b (length l) refl (omega arith)) h ∙ all_left p l d 0 (length l) (omega arith)

  pub any_of : (x : ℕ) (l : List ℕ) → AnyRan g f (record { start = 0; end = b }) u r → b ≡ length l → Answers g f (λ i. eqb (get_or l i 0) x) → r ≡ within x l
  any_of x l ran e h = any_from_yields_List (λ i. eqb (get_or l i 0) x) u f r ran (YieldsList-from_range 0 b (length l) refl (omega arith)) h ∙ any_left x l 0 (length l) (omega arith)

  pub distinct_keys : {A : Type 0} (l : List (ℕ × A)) (d : ℕ × A) → AllRan g f (record { start = 0; end = b }) u r → b ≡ length l → Answers g f (λ i. not (within (get_or l i d).0 (keys (drop (i + 1) l))))
      → r ≡ distinct (keys l)
  distinct_keys l d ran e h = all_from_yields_List (λ i. not (within (get_or l i d).0 (keys (drop (i + 1) l)))) u f r ran (YieldsList-from_range 0 b (length l) refl (omega arith)) h ∙ distinct_left l d 0 (length l) (omega arith)

  -- from number a on
  module _ {a : ℕ} where
    pub all_tabulated : {A : Type 0} (p : A → Bool) (t : ℕ → A) {n : ℕ} → AllRan g f (record { start = a; end = b }) u r → b - a ≡ n → Answers g f (λ i. p (t i)) → r ≡ every p (tabulate t a n)
    all_tabulated p t {n} ran e h = all_from_yields_List (λ i. p (t i)) u f r ran (YieldsList-from_range a b n refl e) h ∙ all_range p t a n

    pub any_keys : {A : Type 0} (x : ℕ) (l : List (ℕ × A)) (d : ℕ × A) → AnyRan g f (record { start = a; end = b }) u r → b ≡ length l → Answers g f (λ i. eqb (get_or l i d).0 x) → r ≡ within x (keys (drop a l))
    any_keys x l d ran e h = any_from_yields_List (λ i. eqb (get_or l i d).0 x) u f r ran (YieldsList-from_range a b (b - a) refl refl) h ∙ keys_left x l d a (b - a) (omega arith)

    pub all_from : {A : Type 0} (p : A → Bool) (l : List A) (d : A) → AllRan g f (record { start = a; end = b }) u r → b ≡ length l → Answers g f (λ i. p (get_or l i d)) → r ≡ every p (drop a l)
    all_from p l d ran e h = all_from_yields_List (λ i. p (get_or l i d)) u f r ran (YieldsList-from_range a b (b - a) refl refl) h ∙ all_left p l d a (b - a) (omega arith)

    pub any_from : (x : ℕ) (l : List ℕ) → AnyRan g f (record { start = a; end = b }) u r → b ≡ length l → Answers g f (λ i. eqb (get_or l i 0) x) → r ≡ within x (drop a l)
    any_from x l ran e h = any_from_yields_List (λ i. eqb (get_or l i 0) x) u f r ran (YieldsList-from_range a b (b - a) refl refl) h ∙ any_left x l a (b - a) (omega arith)
