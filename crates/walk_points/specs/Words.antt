-- What the walk leaves in the work slice, word by word, from the end of the tables by region on. Assumes nothing.
--     word_point, word_parent     the places that the walk writes
--     word_before, word_between, word_after     the places around them
--     by_place     what a word is to be, place by place
use Rattle.std.specs.Prelude.{◌≡◌, cond, List, map, ℕ, ◌+◌, ◌-◌, ◌≤◌, ◌<◌, ltb, length}
use Rattle.std.proofs.Math.Path.{ap}
use Rattle.std.proofs.Common.{◌∙◌, arith}
use Rattle.std.proofs.Math.ListN.{get_or}
use Rattle.general_laws.specs.Compare.{lower, higher, either}
use Rattle.lifting.specs.Ast.{Func}
use Rattle.lifting.specs.Points.{points}
use Rattle.lifting.specs.Walk.{walk_of}
use Rattle.work.specs.Layout.{tables_end, points_at, parents_at, parents_end}
use Rattle.walk_points.specs.Numbers.{point_number}
use Rattle.walk_points.specs.Parents.{parent_word}

-- where the numbers of the visited points end
abbrev pub walk_end : Func → ℕ
walk_end F = points_at + length (walk_of F)

-- the word at place x, where the words were `old`: the numbers of the visited points, the parents of 128 regions, and else what it was
unfoldable pub walk_word : Func → (ℕ → ℕ) → ℕ → ℕ
walk_word F old x =
    cond (ltb x points_at) (old x)
    (cond (ltb x (walk_end F)) (get_or (map point_number (points (walk_of F))) (x - points_at) 0)
    (cond (ltb x parents_at) (old x)
    (cond (ltb x parents_end) (parent_word F (x - parents_at)) (old x))))

-- the walk made u of w
pub record WalkWords (F : Func) (w u : List ℕ) : Type 0 where
  pub word : (x : ℕ) → tables_end ≤ x → get_or u x 0 ≡ walk_word F (λ y. get_or w y 0) x

-- ---- one place

module _ (F : Func) (old : ℕ → ℕ) where
  -- a place that the walk writes
  pub word_point : (i : ℕ) → i < length (walk_of F) → walk_word F old (points_at + i) ≡ get_or (map point_number (points (walk_of F))) i 0
  unfolding walk_word
  word_point i h =
      higher (points_at + i) points_at _ _ (omega arith)
      ∙ lower (points_at + i) (walk_end F) _ _ (omega arith)
      ∙ ap (λ (k : ℕ). get_or (map point_number (points (walk_of F))) k 0) (omega arith)

  pub word_parent : length (walk_of F) ≤ 512 → (r : ℕ) → r < 128 → walk_word F old (parents_at + r) ≡ parent_word F r
  unfolding walk_word
  word_parent few r h =
      higher (parents_at + r) points_at _ _ (omega arith)
      ∙ higher (parents_at + r) (walk_end F) _ _ (omega arith)
      ∙ higher (parents_at + r) parents_at _ _ (omega arith)
      ∙ lower (parents_at + r) parents_end _ _ (omega arith)
      ∙ ap (parent_word F) (omega arith)

  module _ (x : ℕ) where
    -- one that it leaves
    pub word_before : x < points_at → walk_word F old x ≡ old x
    unfolding walk_word
    word_before h = lower x points_at _ _ h

    pub word_between : walk_end F ≤ x → x < parents_at → walk_word F old x ≡ old x
    unfolding walk_word
    word_between l h = higher x points_at _ _ (omega arith) ∙ higher x (walk_end F) _ _ l ∙ lower x parents_at _ _ h

    pub word_after : length (walk_of F) ≤ 512 → parents_end ≤ x → walk_word F old x ≡ old x
    unfolding walk_word
    word_after few h =
        higher x points_at _ _ (omega arith)
        ∙ higher x (walk_end F) _ _ (omega arith)
        ∙ higher x parents_at _ _ (omega arith)
        ∙ higher x parents_end _ _ h

    -- any
    pub by_place : {z : ℕ} → (x < points_at → z ≡ old x) → (points_at ≤ x → x < walk_end F → z ≡ get_or (map point_number (points (walk_of F))) (x - points_at) 0)
        → (walk_end F ≤ x → x < parents_at → z ≡ old x) → (parents_at ≤ x → x < parents_end → z ≡ parent_word F (x - parents_at)) → (parents_end ≤ x → z ≡ old x)
        → z ≡ walk_word F old x
    unfolding walk_word
    by_place before point between parent after =
        either x points_at _ _ before (λ a. either x (walk_end F) _ _ (point a) (λ b. either x parents_at _ _ (between b) (λ c. either x parents_end _ _ (parent c) after)))
