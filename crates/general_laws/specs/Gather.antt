-- Laws on the functions on lists that lifting's definitions use. Assumes nothing.
--     both, every_at, every_true, every_split, every_parts     a test that passes at every element
--     map_append, map_gather                                     a map over what was put together
--     gather_none, gather_single, gather_append, gather_gather   what is gathered
--     map_back                                                       decoding undoes encoding, element by element
use Rattle.std.specs.Prelude.{◌≡◌, refl, Bool, true, List, [], ◌∷◌, ◌++◌, map}
use Rattle.std.proofs.Common.{sym, ap, ap₂, ◌∙◌, append_assoc}
use Rattle.general_laws.specs.Tests.{both}
use Rattle.general_laws.specs.Lists.{every, gather}

pub map_append : {A B : Type 0} (f : A → B) (xs ys : List A) → map f (xs ++ ys) ≡ map f xs ++ map f ys
map_append f [] ys = refl
map_append {B = B} f (x ∷ xs) ys = ap (λ (l : List B). f x ∷ l) (map_append f xs ys)

pub map_gather : {A B C : Type 0} (f : B → C) (g : A → List B) (xs : List A) → map f (gather g xs) ≡ gather (λ a. map f (g a)) xs
map_gather f g [] = refl
map_gather {C = C} f g (x ∷ xs) = map_append f (g x) (gather g xs) ∙ ap (λ (l : List C). map f (g x) ++ l) (map_gather f g xs)

pub gather_none : {A B : Type 0} (xs : List A) → gather {B = B} (λ (a : A). []) xs ≡ []
gather_none [] = refl
gather_none (x ∷ xs) = gather_none xs

pub gather_single : {A B : Type 0} (f : A → B) (xs : List A) → gather (λ a. f a ∷ []) xs ≡ map f xs
gather_single f [] = refl
gather_single {B = B} f (x ∷ xs) = ap (λ (l : List B). f x ∷ l) (gather_single f xs)

pub gather_append : {A B : Type 0} (f : A → List B) (xs ys : List A) → gather f (xs ++ ys) ≡ gather f xs ++ gather f ys
gather_append f [] ys = refl
gather_append {B = B} f (x ∷ xs) ys = ap (λ (l : List B). f x ++ l) (gather_append f xs ys) ∙ sym (append_assoc (f x) (gather f xs) (gather f ys))

pub gather_gather : {A B C : Type 0} (f : B → List C) (g : A → List B) (xs : List A) → gather f (gather g xs) ≡ gather (λ a. gather f (g a)) xs
gather_gather f g [] = refl
gather_gather {C = C} f g (x ∷ xs) = gather_append f (g x) (gather g xs) ∙ ap (λ (l : List C). gather f (g x) ++ l) (gather_gather f g xs)

pub map_back : {A B : Type 0} (f : A → B) (g : B → A) (p : A → Bool) → ((a : A) → p a ≡ true → g (f a) ≡ a) → (xs : List A) → every p xs ≡ true → map g (map f xs) ≡ xs
map_back f g p h [] e = refl
map_back {A} f g p h (x ∷ xs) e =
    let q = both (p x) (every p xs) e in
    ap (λ (a : A). a ∷ map g (map f xs)) (h x q.0) ∙ ap (λ (l : List A). x ∷ l) (map_back f g p h xs q.1)

pub gather_same : {A B : Type 0} (f g : A → List B) → ((x : A) → f x ≡ g x) → (l : List A) → gather f l ≡ gather g l
gather_same f g h [] = refl
gather_same {A} {B} f g h (x ∷ l) = ap₂ (λ (a b : List B). a ++ b) (h x) (gather_same f g h l)
