-- What a Boolean test over a list says once it is true: of each element, of the line with a number, and that nothing stands twice. A number
-- past a list's end stands for a default that holds nothing, so what holds of each element holds at every number. Assumes nothing.
use Rattle.std.specs.Prelude.{◌≡◌, refl, Bool, true, false, ◌&&◌, List, [], ◌∷◌, ◌++◌, map, ℕ, zero, suc, ◌+◌, ◌<◌, get_or, length}
use Rattle.std.proofs.Common.{sym, ap, subst, inl, inr, arith}
use Rattle.std.proofs.lemmas.Bool.{false≢true, not-true}
use Rattle.std.proofs.Math.Option.{some}
use Rattle.general_laws.specs.Lists.{choose, tabulate, below, every, gather, within, distinct, find}
use Rattle.general_laws.specs.Members.{In, here, there, in_nil, in_cases, in_left, in_right, in_map, in_get_or, in_gather, in_tabulate, All, all_append, all_in, all_from, NoDup, not_within}

-- by a decision
abbrev pub split : {P A : Type 0} → Dec P → (P → A) → (¬ P → A) → A
split (yes p) f g = f p
split (no n) f g = g n

pub both : (a b : Bool) → a && b ≡ true → (a ≡ true) × (b ≡ true)
both true b e = (refl, e)
both false b e = absurd (false≢true e)

pub every_in : {A : Type 0} (p : A → Bool) (l : List A) → every p l ≡ true → (x : A) → In x l → p x ≡ true
every_in p l e x (here {l = k}) = (both (p x) (every p k) e).0
every_in p l e x (there {y} {l = k} h) = every_in p k (both (p y) (every p k) e).1 x h

pub every_all : {A : Type 0} (p : A → Bool) (P : A → Type 0) → ((x : A) → p x ≡ true → P x) → (l : List A) → every p l ≡ true → All P l
every_all p P h l e = all_from P l (λ x i. h x (every_in p l e x i))

pub all_every : {A : Type 0} (p : A → Bool) (l : List A) → All (λ x. p x ≡ true) l → every p l ≡ true
all_every p [] h = refl
all_every p (x ∷ l) h = rw h.0 (all_every p l h.1)

-- of each number, and at each number where the default has it
pub all_tabulate : {A : Type 0} (P : A → Type 0) (f : ℕ → A) (k n : ℕ) → ((i : ℕ) → i < k + n → P (f i)) → All P (tabulate f k n)
all_tabulate P f k zero h = tt
all_tabulate P f k (suc n) h = (h k (omega arith), all_tabulate P f (suc k) n (λ i l. h i (omega arith)))

pub all_at : {A : Type 0} (P : A → Type 0) (l : List A) → All P l → (d : A) → P d → (n : ℕ) → P (get_or l n d)
all_at P [] h d s n = s
all_at P (x ∷ l) h d s zero = h.0
all_at P (x ∷ l) h d s (suc n) = all_at P l h.1 d s n

-- of each image
pub all_map : {A B : Type 0} (P : B → Type 0) (f : A → B) (l : List A) → ((x : A) → P (f x)) → All P (map f l)
all_map P f [] h = tt
all_map P f (x ∷ l) h = (h x, all_map P f l h)

pub all_unmap : {A B : Type 0} (P : B → Type 0) (f : A → B) (l : List A) → All P (map f l) → All (λ x. P (f x)) l
all_unmap P f [] h = tt
all_unmap P f (x ∷ l) h = (h.0, all_unmap P f l h.1)

-- of all that is gathered: from its parts, and back to a part, to a line with a number, to an entry
pub all_gather : {A B : Type 0} (P : B → Type 0) (f : A → List B) (l : List A) → ((x : A) → In x l → All P (f x)) → All P (gather f l)
all_gather P f [] h = tt
all_gather P f (x ∷ l) h = all_append P (f x) (gather f l) (h x here) (all_gather P f l (λ y i. h y (there i)))

pub all_split : {A : Type 0} (P : A → Type 0) (k l : List A) → All P (k ++ l) → All P k × All P l
all_split P [] l h = (tt, h)
all_split P (x ∷ k) l h = let r = all_split P k l h.1 in ((h.0, r.0), r.1)

pub all_part : {A B : Type 0} (P : B → Type 0) (f : A → List B) (l : List A) → All P (gather f l) → {x : A} → In x l → All P (f x)
all_part P f l h {x} i = all_from P (f x) (λ y j. all_in P (gather f l) h y (in_gather f i j))

pub in_at : {A B : Type 0} (f : A → List B) (l : List A) (d : A) → f d ≡ [] → (n : ℕ) {y : B} → In y (f (get_or l n d)) → In y (gather f l)
in_at f [] d e n h = rw e at h
in_at f (x ∷ l) d e zero h = in_left (gather f l) h
in_at f (x ∷ l) d e (suc n) h = in_right (f x) (in_at f l d e n h)

pub all_line : {A B : Type 0} (P : B → Type 0) (f : A → List B) (l : List A) → All P (gather f l) → (d : A) → f d ≡ [] → (n : ℕ) → All P (f (get_or l n d))
all_line P f l h d e n = all_from P (f (get_or l n d)) (λ y i. all_in P (gather f l) h y (in_at f l d e n i))

pub find_in : {K A : Type 0} (eq : (x y : K) → Dec (x ≡ y)) (k : K) (l : List (K × A)) {a : A} → find eq k l ≡ some a → In (k, a) l
find_in eq k [] e = absurd (let z : ◌≡◌ {A = ℕ} 0 1 = cc in omega arith)
find_in {K} {A} eq k (x ∷ l) {a} e = by_case (eq k x.0) e (find_in eq k l)
  where
    by_case : (d : Dec (k ≡ x.0)) → choose d (some x.1) (find eq k l) ≡ some a → (find eq k l ≡ some a → In (k, a) l) → In (k, a) (x ∷ l)
    by_case (yes p) e ih = let q : x.1 ≡ a = cc in subst (λ (y : K × A). In y (x ∷ l)) (λ i. (sym p i, q i)) here
    by_case (no n) e ih = there (ih e)

pub all_entry : {K A B : Type 0} (eq : (x y : K) → Dec (x ≡ y)) (P : B → Type 0) (f : K × A → List B) (l : List (K × A)) → All P (gather f l) → (k : K) {a : A} → find eq k l ≡ some a → All P (f (k, a))
all_entry eq P f l h k e = all_part P f l h (find_in eq k l e)

-- nothing twice: by its test, and by the count of each number below n where no other stands
pub distinct_once : (l : List ℕ) → distinct l ≡ true → NoDup l
distinct_once [] e = tt
distinct_once (x ∷ l) e = let b = both _ _ e in (not_within x l (not-true (within x l) b.0), distinct_once l b.1)

pub every_below : (p : ℕ → Bool) (n : ℕ) → every p (below n) ≡ true → (i : ℕ) → i < n → p i ≡ true
every_below p n e i h = every_in p (below n) e i (in_tabulate (λ j. j) 0 n i (omega arith) (omega arith))

-- Where nothing stands twice in all that is gathered, nothing stands twice at one number, nor at two.
nodup_split : {A : Type 0} (k l : List A) → NoDup (k ++ l) → NoDup k × NoDup l × ((x : A) → In x k → In x l → ⊥)
nodup_split [] l n = (tt, n, λ x i j. in_nil i)
nodup_split {A} (y ∷ k) l n =
    let r = nodup_split k l n.1 in
    ((λ i. n.0 (in_left l i), r.0), r.1, λ x i j. elim (in_cases i) [ inl e ↦ n.0 (in_right k (subst (λ (z : A). In z l) e j)) | inr h ↦ r.2 x h j ])

module _ {A B : Type 0} (f : A → List B) (d : A) (empty : f d ≡ []) where
  pub once_at : (l : List A) → NoDup (gather f l) → (n : ℕ) → NoDup (f (get_or l n d))
  once_at [] u n = rw empty tt
  once_at (x ∷ l) u zero = (nodup_split (f x) (gather f l) u).0
  once_at (x ∷ l) u (suc n) = once_at l (nodup_split (f x) (gather f l) u).1 n

  pub same_place : (l : List A) → NoDup (gather f l) → (y : B) (n k : ℕ) → In y (f (get_or l n d)) → In y (f (get_or l k d)) → n ≡ k
  same_place [] u y n k i j = absurd (in_nil (rw empty at i))
  same_place (x ∷ l) u y zero zero i j = refl
  same_place (x ∷ l) u y zero (suc k) i j = absurd ((nodup_split (f x) (gather f l) u).2 y i (in_at f l d empty k j))
  same_place (x ∷ l) u y (suc n) zero i j = absurd ((nodup_split (f x) (gather f l) u).2 y j (in_at f l d empty n i))
  same_place (x ∷ l) u y (suc n) (suc k) i j = ap suc (same_place l (nodup_split (f x) (gather f l) u).1 y n k i j)

pub once_by : {A B : Type 0} (f : A → B) (d : A) (l : List A) → NoDup (map f l) → (n k : ℕ) → n < length l → k < length l → f (get_or l n d) ≡ f (get_or l k d) → n ≡ k
once_by f d [] u n k hn hk e = absurd (omega arith)
once_by f d (x ∷ l) u zero zero hn hk e = refl
once_by f d (x ∷ l) u zero (suc k) hn hk e = absurd (u.0 (rw e (in_map f (in_get_or l k d (omega arith)))))
once_by f d (x ∷ l) u (suc n) zero hn hk e = absurd (u.0 (rw (← e) (in_map f (in_get_or l n d (omega arith)))))
once_by f d (x ∷ l) u (suc n) (suc k) hn hk e = ap suc (once_by f d l u.1 n k (omega arith) (omega arith) e)
