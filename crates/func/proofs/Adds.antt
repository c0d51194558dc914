-- What storing adds to each pool. Assumes nothing.
--     adds_push, adds_many     one entry, a list of entries
--     adds_then, adds_folds    one after the other
--     adds_same                what is gained, said in another way
use Rattle.std.specs.Prelude.{◌≡◌, refl, Bool, true, false, List, [], ◌∷◌, ◌++◌, map, ℕ, ◌+◌, ◌≤◌, ◌<◌, min, max, eqb, length}
use Rattle.std.proofs.Common.{sym, ap, subst, ◌∙◌, append_assoc, append-nil, arith, length-append, eqb-true}
use Rattle.std.proofs.lemmas.Bool.{eqb-false}
use Rattle.general_laws.specs.Lists.{gather}
use Rattle.func.specs.Layout.{pool_total, width, room}
use Rattle.func.specs.Store.{count, most, view, push, folds}
use Rattle.func.proofs.Store.{length_push, head_push, count_push, count_other, most_push, most_other, view_push, view_other}
use Rattle.func.specs.Adds.{AddsReady, largest, Adds, into_pool, Wide, grown}

pub largest_append : (a b : List (List ℕ)) → largest (a ++ b) ≡ max (largest a) (largest b)
largest_append [] b = omega arith
largest_append (e ∷ a) b = omega (arith, largest_append a b)

pub ready_after : {w v : List ℕ} {g : ℕ → List (List ℕ)} → AddsReady w → Adds w v g → AddsReady v
ready_after r a = record { size = omega (arith, a.len, r.size); counts = λ k l. omega (arith, a.counts k l) }

pub adds_same : {w v : List ℕ} {g h : ℕ → List (List ℕ)} → Adds w v g → ((k : ℕ) → g k ≡ h k) → Adds w v h
adds_same {w} {v} {g} {h} a e = record {
  len = a.len;
  head = a.head;
  counts = λ k l. a.counts k l ∙ ap (λ (x : List (List ℕ)). min (count k w + length x) (room k + 1)) (e k);
  mosts = λ k l. a.mosts k l ∙ ap (λ (x : List (List ℕ)). max (most k w) (largest x)) (e k);
  views = λ k l f. a.views k l f ∙ ap (λ (x : List (List ℕ)). view k w ++ x) (e k);
}

pub adds_none : {w : List ℕ} → AddsReady w → Adds w w (λ k. [])
adds_none {w} r = record {
  len = refl;
  head = λ j l. refl;
  counts = λ k l. omega (arith, r.counts k l);
  mosts = λ k l. omega arith;
  views = λ k l f. sym (append-nil (view k w));
}

pub adds_then : {w v u : List ℕ} {g h : ℕ → List (List ℕ)} → Adds w v g → Adds v u h → Adds w u (λ k. g k ++ h k)
adds_then {w} {v} {u} {g} {h} a b = record {
  len = b.len ∙ a.len;
  head = λ j l. b.head j l ∙ a.head j l;
  counts = λ k l. omega (arith, a.counts k l, b.counts k l, length-append (g k) (h k));
  mosts = λ k l. omega (arith, a.mosts k l, b.mosts k l, largest_append (g k) (h k));
  views = λ k l f. b.views k l f ∙ ap (λ (x : List (List ℕ)). x ++ h k) (a.views k l (omega (arith, b.counts k l))) ∙ append_assoc (view k w) (g k) (h k);
}

into_here : (k j : ℕ) (es : List (List ℕ)) → eqb k j ≡ true → into_pool k es j ≡ es
unfolding into_pool
into_here k j es e = rw (e, into_pool)

into_else : (k j : ℕ) (es : List (List ℕ)) → eqb k j ≡ false → into_pool k es j ≡ []
unfolding into_pool
into_else k j es e = rw (e, into_pool)

pub adds_push : {w : List ℕ} (k : ℕ) (e : List ℕ) → AddsReady w → k < pool_total → length e ≡ width k → Adds w (push k e w) (into_pool k (e ∷ []))
adds_push {w} k e r l q = record {
  len = length_push k e w;
  head = λ j h. head_push k e w j l h;
  counts = λ j m. counts j m (eqb k j) refl;
  mosts = λ j m. mosts j m (eqb k j) refl;
  views = λ j m f. views j m f (eqb k j) refl;
}
  where
    counts : (j : ℕ) → j < pool_total → (b : Bool) → eqb k j ≡ b → count j (push k e w) ≡ min (count j w + length (into_pool k (e ∷ []) j)) (room j + 1)
    counts j m true h =
        rw (into_here k j (e ∷ []) h) (subst (λ (i : ℕ). count i (push k e w) ≡ min (count i w + 1) (room i + 1)) (eqb-true k j h) (count_push k e w l r.size))
    counts j m false h = rw (into_else k j (e ∷ []) h) (omega (arith, r.counts j m, count_other k j e w l m (eqb-false k j h)))

    mosts : (j : ℕ) → j < pool_total → (b : Bool) → eqb k j ≡ b → most j (push k e w) ≡ max (most j w) (largest (into_pool k (e ∷ []) j))
    mosts j m true h =
        rw (into_here k j (e ∷ []) h) (subst (λ (i : ℕ). most i (push k e w) ≡ max (most i w) (largest (e ∷ []))) (eqb-true k j h) (omega (arith, most_push k e w l r.size)))
    mosts j m false h = rw (into_else k j (e ∷ []) h) (omega (arith, most_other k j e w l m (eqb-false k j h)))

    own : count k (push k e w) ≤ room k → view k (push k e w) ≡ view k w ++ e ∷ []
    own f = view_push k e w l r.size q (omega (arith, count_push k e w l r.size))

    views : (j : ℕ) → j < pool_total → count j (push k e w) ≤ room j → (b : Bool) → eqb k j ≡ b → view j (push k e w) ≡ view j w ++ into_pool k (e ∷ []) j
    views j m f true h =
        rw (into_here k j (e ∷ []) h) (subst (λ (i : ℕ). count i (push k e w) ≤ room i → view i (push k e w) ≡ view i w ++ e ∷ []) (eqb-true k j h) own f)
    views j m f false h =
        rw (into_else k j (e ∷ []) h) (view_other k j e w l m (eqb-false k j h) q ∙ sym (append-nil (view j w)))

pub wide_map : {A : Type 0} (k : ℕ) (f : A → List ℕ) → ((a : A) → length (f a) ≡ width k) → (xs : List A) → Wide k (map f xs)
wide_map k f h [] = tt
wide_map k f h (x ∷ xs) = (h x, wide_map k f h xs)

pub adds_many : {w : List ℕ} (k : ℕ) (es : List (List ℕ)) → AddsReady w → k < pool_total → Wide k es → Adds w (folds (push k) es w) (into_pool k es)
unfolding folds
adds_many k [] r l h = adds_same (adds_none r) (λ j. nothing j (eqb k j) refl)
  where
    nothing : (j : ℕ) (b : Bool) → eqb k j ≡ b → ◌≡◌ {A = List (List ℕ)} [] (into_pool k [] j)
    nothing j true q = sym (into_here k j [] q)
    nothing j false q = sym (into_else k j [] q)
adds_many {w = w} k (e ∷ es) r l h =
    let a = adds_push k e r l h.0 in
    adds_same (adds_then a (adds_many {w = push k e w} k es (ready_after r a) l h.1)) (λ j. both j (eqb k j) refl)
  where
    both : (j : ℕ) (b : Bool) → eqb k j ≡ b → into_pool k (e ∷ []) j ++ into_pool k es j ≡ into_pool k (e ∷ es) j
    both j true q = rw (into_here k j (e ∷ []) q, into_here k j es q, into_here k j (e ∷ es) q)
    both j false q = rw (into_else k j (e ∷ []) q, into_else k j es q, into_else k j (e ∷ es) q)

pub adds_folds : {A : Type 0} (f : A → List ℕ → List ℕ) (g : A → List ℕ → ℕ → List (List ℕ)) → ((a : A) (w : List ℕ) → AddsReady w → Adds w (f a w) (g a w))
    → (xs : List A) (w : List ℕ) → AddsReady w → Adds w (folds f xs w) (grown f g xs w)
unfolding folds grown
adds_folds f g h [] w r = adds_none r
adds_folds f g h (a ∷ xs) w r = adds_then (h a w r) (adds_folds f g h xs (f a w) (ready_after r (h a w r)))

pub grown_gather : {A : Type 0} (f : A → List ℕ → List ℕ) (g : A → List ℕ → ℕ → List (List ℕ)) (p : A → List (List ℕ)) (k : ℕ)
    → ((a : A) (w : List ℕ) → g a w k ≡ p a) → (xs : List A) (w : List ℕ) → grown f g xs w k ≡ gather p xs
unfolding grown
grown_gather f g p k h [] w = refl
grown_gather f g p k h (a ∷ xs) w =
    ap (λ (x : List (List ℕ)). x ++ grown f g xs (f a w) k) (h a w) ∙ ap (λ (x : List (List ℕ)). p a ++ x) (grown_gather f g p k h xs (f a w))

pub grown_length : {A B : Type 0} (f : A → List ℕ → List ℕ) (g : A → List ℕ → ℕ → List (List ℕ)) (p : A → List B) (k : ℕ)
    → ((a : A) (w : List ℕ) → length (g a w k) ≡ length (p a)) → (xs : List A) (w : List ℕ) → length (grown f g xs w k) ≡ length (gather p xs)
unfolding grown
grown_length f g p k h [] w = refl
grown_length f g p k h (a ∷ xs) w =
    omega (arith, length-append (g a w k) (grown f g xs (f a w) k), length-append (p a) (gather p xs), h a w, grown_length f g p k h xs (f a w))

pub grown_none : {A : Type 0} (f : A → List ℕ → List ℕ) (g : A → List ℕ → ℕ → List (List ℕ)) (k : ℕ)
    → ((a : A) (w : List ℕ) → g a w k ≡ []) → (xs : List A) (w : List ℕ) → grown f g xs w k ≡ []
unfolding grown
grown_none f g k h [] w = refl
grown_none f g k h (a ∷ xs) w = rw (h a w) (grown_none f g k h xs (f a w))

pub grown_largest : {A : Type 0} (f : A → List ℕ → List ℕ) (g : A → List ℕ → ℕ → List (List ℕ)) (p : A → List (List ℕ)) (k : ℕ)
    → ((a : A) (w : List ℕ) → largest (g a w k) ≡ largest (p a)) → (xs : List A) (w : List ℕ) → largest (grown f g xs w k) ≡ largest (gather p xs)
unfolding grown
grown_largest f g p k h [] w = refl
grown_largest f g p k h (a ∷ xs) w =
    omega (arith, largest_append (g a w k) (grown f g xs (f a w) k), largest_append (p a) (gather p xs), h a w, grown_largest f g p k h xs (f a w))
