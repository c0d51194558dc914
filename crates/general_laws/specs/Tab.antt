-- A list given by a rule for its elements, and runs of a list. Assumes nothing.
--     length_tab, get_or_tab     how many elements, and each
--     tab_same                 two rules that agree below n
--     tab_more                 one element more, at the end
--     slice_middle             a piece of a list that grew around it
use Rattle.std.specs.Prelude.{◌≡◌, refl, List, [], ◌∷◌, ◌++◌, ℕ, zero, suc, ◌<◌, length, get_or, take, drop}
use Rattle.std.proofs.Common.{ap, ◌∙◌, not-suc-le-zero, le_of_suc-le-suc, arith}
use Rattle.std.proofs.Math.Seq.{take-append_seam}

-- f 0, f 1, .., n of them
unfoldable pub tab : {A : Type 0} → ℕ → (ℕ → A) → List A
tab zero f = []
tab (suc n) f = f zero ∷ tab n (λ k. f (suc k))

pub length_tab : {A : Type 0} (n : ℕ) (f : ℕ → A) → length (tab n f) ≡ n
unfolding tab
length_tab zero f = refl
length_tab (suc n) f = ap suc (length_tab n (λ k. f (suc k)))

pub get_or_tab : {A : Type 0} (n : ℕ) (f : ℕ → A) (i : ℕ) (d : A) → i < n → get_or (tab n f) i d ≡ f i
unfolding tab
get_or_tab zero f i d h = absurd (not-suc-le-zero h)
get_or_tab (suc n) f zero d h = refl
get_or_tab (suc n) f (suc i) d h = get_or_tab n (λ k. f (suc k)) i d (le_of_suc-le-suc h)

pub tab_same : {A : Type 0} (n : ℕ) (f g : ℕ → A) → ((i : ℕ) → i < n → f i ≡ g i) → tab n f ≡ tab n g
unfolding tab
tab_same zero f g h = refl
tab_same {A} (suc n) f g h =
    ap (λ (x : A). x ∷ tab n (λ k. f (suc k))) (h zero (omega arith))
    ∙ ap (λ (l : List A). g zero ∷ l) (tab_same n (λ k. f (suc k)) (λ k. g (suc k)) (λ i l. h (suc i) (omega arith)))

pub tab_more : {A : Type 0} (n : ℕ) (f : ℕ → A) → tab (suc n) f ≡ tab n f ++ f n ∷ []
unfolding tab
tab_more zero f = refl
tab_more {A} (suc n) f = ap (λ (l : List A). f zero ∷ l) (tab_more n (λ k. f (suc k)))

pub slice_middle : {A : Type 0} (a b c : List A) → take (length b) (drop (length a) ((a ++ b) ++ c)) ≡ b
slice_middle {A} [] b c = take-append_seam b c
slice_middle (x ∷ a) b c = slice_middle a b c
