-- What a call leaves alone of a slice: the words outside of a run; and a run that is cleared. Assumes nothing.
--     aside_none, aside_set, aside_more     nothing written, a word of the run written, one call after the other
--     aside_wider                           a longer run
--     cleared_none, cleared_more            a run that is cleared word by word
--     cleared_all                           where that run is the whole slice
use Rattle.std.specs.Prelude.{◌≡◌, refl, List, [], ◌∷◌, ℕ, suc, ◌+◌, ◌≤◌, ◌<◌, get_or, length, replicate, set}
use Rattle.std.proofs.Common.{ap, subst, ◌∙◌, arith, get_or-set_other, get_or-set_same}
use Rattle.std.proofs.Math.Decide.{ℕ_discrete}
use Rattle.general_laws.specs.Tests.{split}

-- the words of u before word a and from word b on are those of w
pub record Aside (a b : ℕ) (w u : List ℕ) : Type 0 where
  pub before : (x : ℕ) → x < a → get_or u x 0 ≡ get_or w x 0
  pub after : (x : ℕ) → b ≤ x → get_or u x 0 ≡ get_or w x 0

pub aside_none : (a b : ℕ) (w : List ℕ) → Aside a b w w
aside_none a b w = record { before = λ x h. refl; after = λ x h. refl }

pub aside_set : {a b : ℕ} {w u : List ℕ} → Aside a b w u → (i v : ℕ) → a ≤ i → i < b → Aside a b w (set u i v)
aside_set {u = u} k i v l h = record {
  before = λ x z. get_or-set_other u i x v 0 (λ e. omega arith) ∙ k.before x z;
  after = λ x z. get_or-set_other u i x v 0 (λ e. omega arith) ∙ k.after x z;
}

pub aside_more : {a b : ℕ} {w u v : List ℕ} → Aside a b w u → Aside a b u v → Aside a b w v
aside_more k m = record { before = λ x h. m.before x h ∙ k.before x h; after = λ x h. m.after x h ∙ k.after x h }

pub aside_wider : {a b c d : ℕ} {w u : List ℕ} → Aside a b w u → c ≤ a → b ≤ d → Aside c d w u
aside_wider k l h = record { before = λ x z. k.before x (omega arith); after = λ x z. k.after x (omega arith) }

-- the words from a up to b are 0, and the others stay
pub record Cleared (a b : ℕ) (w u : List ℕ) : Type 0 where
  pub blank : (x : ℕ) → a ≤ x → x < b → get_or u x 0 ≡ 0
  pub aside : Aside a b w u

pub cleared_none : (a : ℕ) (w : List ℕ) → Cleared a a w w
cleared_none a w = record { blank = λ x h l. absurd (omega arith); aside = aside_none a a w }

pub cleared_more : {a i : ℕ} {w u : List ℕ} → Cleared a i w u → a ≤ i → i < length u → Cleared a (i + 1) w (set u i 0)
cleared_more {i = i} {u = u} k h l = record {
  blank = λ x g z.
      split (ℕ_discrete x i) (λ e. ap (λ (y : ℕ). get_or (set u i 0) y 0) e ∙ get_or-set_same u i 0 0 l)
      (λ e. get_or-set_other u i x 0 0 e ∙ k.blank x g (omega arith));
  aside = aside_set (aside_wider k.aside (omega arith) (omega arith)) i 0 h (omega arith);
}

pub cleared_to : {a i b : ℕ} {w u : List ℕ} → Cleared a i w u → i ≡ b → Cleared a b w u
cleared_to {a} {w = w} {u} k e = subst (λ (n : ℕ). Cleared a n w u) e k

-- words that are 0, one by one
zeros : (u : List ℕ) → ((x : ℕ) → x < length u → get_or u x 0 ≡ 0) → u ≡ replicate (length u) 0
zeros [] h = refl
zeros (a ∷ u) h = λ i. h 0 (omega arith) i ∷ zeros u (λ x l. h (suc x) (omega arith)) i

pub cleared_all : {w u : List ℕ} → Cleared 0 (length w) w u → length u ≡ length w → u ≡ replicate (length w) 0
cleared_all {w} {u} k e = zeros u (λ x h. k.blank x (omega arith) (omega arith)) ∙ ap (λ (n : ℕ). replicate n 0) e
