-- Every word of the work slice where the blocks are laid out. Assumes nothing.
--     lay_word, lay_words       after the walk, the use counts and the pass over positions, above the tables of the control-flow walk
--     block_word, block_words   all of them, once the walk's own words are cleared
--     walkable_stands          what the walk asks of a text follows from what the reader promises
use Rattle.std.specs.Prelude.{◌≡◌, Bool, List, [], ◌∷◌, ℕ, ◌+◌, ◌-◌, ◌≤◌, ◌<◌, length}
use Rattle.std.proofs.Math.Path.{refl}
use Rattle.std.proofs.Common.{sym, ap, ◌∙◌, arith}
use Rattle.std.proofs.Math.Bool.{true, false, cond}
use Rattle.std.proofs.Math.Dec.{ltb}
use Rattle.std.proofs.Math.ListN.{get_or}
use borrow.Author.Tests.{ltb-true, ltb-false}
use Rattle.lifting.specs.Ast.{Region, Func}
use Rattle.lifting.specs.Parts.{has_body}
use Rattle.lifting.specs.Walk.{walk_of}
use Rattle.lifting.specs.Absorb.{use_count}
use Rattle.func.specs.Decode.{func_of}
use Rattle.work.specs.Layout.{lines_at, children_at, tables_end, points_at, uses_at, uses_end, statuses_at, absorbs_at, absorbs_end}
use Rattle.work.specs.Aside.{Aside, Cleared}
use Rattle.walk_roots.specs.Tables.{line_word}
use Rattle.walk_points.specs.Numbers.{point_of}
use Rattle.walk_points.specs.Walk.{Walkable, walkable_checked}
use Rattle.walk_points.specs.Words.{walk_word, WalkWords, word_after}
use Rattle.check_text.specs.Same.{Stands}
use Rattle.terminators.specs.At.{point_at}
use Rattle.terminators.specs.Visited.{Visited, visited_kept}
use Rattle.block_uses.specs.Uses.{Counted}
use Rattle.block_absorbs.specs.Absorbs.{status_word, absorb_word, stands, absorbs, AbsorbWords, Beyond}

-- a position's word, or what was there behind the last position
abbrev pub positioned : Func → ℕ → ℕ → ℕ → ℕ
positioned F i v old = cond (ltb i (length (walk_of F))) v old

-- word x, where the words were `old`
unfoldable pub lay_word : Func → (ℕ → ℕ) → ℕ → ℕ
lay_word F old x =
    cond (ltb x uses_at) (walk_word F old x)
    (cond (ltb x uses_end) (use_count (walk_of F) (point_of (x - uses_at)))
    (cond (ltb x absorbs_at) (positioned F (x - statuses_at) (status_word (stands F (x - statuses_at)) (point_at F (x - statuses_at))) (old x))
    (cond (ltb x absorbs_end) (positioned F (x - absorbs_at) (absorb_word (absorbs F (x - absorbs_at))) (old x)) (old x))))

-- from the words w to the words u
pub record LayWords (F : Func) (w u : List ℕ) : Type 0 where
  pub word : (x : ℕ) → tables_end ≤ x → get_or u x 0 ≡ lay_word F (λ y. get_or w y 0) x

module _ {F : Func} {w u v z : List ℕ} {m : ℕ} (walked : WalkWords F w u) (counts : Aside uses_at uses_end u v) (run : Aside statuses_at absorbs_end v z) (past : Beyond m v z)
    (counted : Counted F z) (absorbing : AbsorbWords F m z) (size : m ≡ length (walk_of F)) (few : m ≤ 512) where
  abbrev old : ℕ → ℕ
  old y = get_or w y 0

  -- what was there before the walk is there before the last pass
  kept : (x : ℕ) → uses_end ≤ x → get_or v x 0 ≡ old x
  kept x h = counts.after x h ∙ walked.word x (omega arith) ∙ word_after F old x (omega arith) (omega arith)

  by_position : (i x d : ℕ) (value : ℕ) → (i < m → get_or z x 0 ≡ value) → (m ≤ i → get_or z x 0 ≡ d) → get_or z x 0 ≡ positioned F i value d
  by_position i x d value there past_it = go (ltb i (length (walk_of F))) refl
    where
      go : (b : Bool) → ltb i (length (walk_of F)) ≡ b → get_or z x 0 ≡ cond b value d
      go true e = there (omega (arith, ltb-true i (length (walk_of F)) e))
      go false e = past_it (omega (arith, ltb-false i (length (walk_of F)) e))

  status_word_law : (x : ℕ) → statuses_at ≤ x → x < absorbs_at
      → get_or z x 0 ≡ positioned F (x - statuses_at) (status_word (stands F (x - statuses_at)) (point_at F (x - statuses_at))) (old x)
  status_word_law x a b =
      let e : statuses_at + (x - statuses_at) ≡ x = omega arith in
      by_position (x - statuses_at) x (old x) _ (λ h. sym (ap (λ (y : ℕ). get_or z y 0) e) ∙ absorbing.status (x - statuses_at) h)
      (λ h. sym (ap (λ (y : ℕ). get_or z y 0) e) ∙ past.status (x - statuses_at) h (omega arith) ∙ ap (λ (y : ℕ). get_or v y 0) e ∙ kept x (omega arith))

  absorb_word_law : (x : ℕ) → absorbs_at ≤ x → x < absorbs_end → get_or z x 0 ≡ positioned F (x - absorbs_at) (absorb_word (absorbs F (x - absorbs_at))) (old x)
  absorb_word_law x a b =
      let e : absorbs_at + (x - absorbs_at) ≡ x = omega arith in
      by_position (x - absorbs_at) x (old x) _ (λ h. sym (ap (λ (y : ℕ). get_or z y 0) e) ∙ absorbing.absorb (x - absorbs_at) h)
      (λ h. sym (ap (λ (y : ℕ). get_or z y 0) e) ∙ past.absorb (x - absorbs_at) h (omega arith) ∙ ap (λ (y : ℕ). get_or v y 0) e ∙ kept x (omega arith))

  pub lay_words : LayWords F w z
  unfolding lay_word
  lay_words = record { word = λ x h. low x h (ltb x uses_at) refl }
    where
      end : (x : ℕ) → absorbs_at ≤ x → (b : Bool) → ltb x absorbs_end ≡ b → get_or z x 0 ≡ cond b (positioned F (x - absorbs_at) (absorb_word (absorbs F (x - absorbs_at))) (old x)) (old x)
      end x h true e = absorb_word_law x h (ltb-true x absorbs_end e)
      end x h false e = let k = ltb-false x absorbs_end e in run.after x k ∙ kept x (omega arith)

      high : (x : ℕ) → statuses_at ≤ x → (b : Bool) → ltb x absorbs_at ≡ b
          → get_or z x 0 ≡ cond b (positioned F (x - statuses_at) (status_word (stands F (x - statuses_at)) (point_at F (x - statuses_at))) (old x))
          (cond (ltb x absorbs_end) (positioned F (x - absorbs_at) (absorb_word (absorbs F (x - absorbs_at))) (old x)) (old x))
      high x h true e = status_word_law x h (ltb-true x absorbs_at e)
      high x h false e = end x (ltb-false x absorbs_at e) (ltb x absorbs_end) refl

      mid : (x : ℕ) → uses_at ≤ x → (b : Bool) → ltb x uses_end ≡ b
          → get_or z x 0 ≡ cond b (use_count (walk_of F) (point_of (x - uses_at)))
          (cond (ltb x absorbs_at) (positioned F (x - statuses_at) (status_word (stands F (x - statuses_at)) (point_at F (x - statuses_at))) (old x))
          (cond (ltb x absorbs_end) (positioned F (x - absorbs_at) (absorb_word (absorbs F (x - absorbs_at))) (old x)) (old x)))
      mid x h true e =
          let l = ltb-true x uses_end e in
          let y : uses_at + (x - uses_at) ≡ x = omega arith in
          sym (ap (λ (y : ℕ). get_or z y 0) y) ∙ counted.word (x - uses_at) (omega arith)
      mid x h false e = high x (ltb-false x uses_end e) (ltb x absorbs_at) refl

      low : (x : ℕ) → tables_end ≤ x → (b : Bool) → ltb x uses_at ≡ b
          → get_or z x 0 ≡ cond b (walk_word F old x)
          (cond (ltb x uses_end) (use_count (walk_of F) (point_of (x - uses_at)))
          (cond (ltb x absorbs_at) (positioned F (x - statuses_at) (status_word (stands F (x - statuses_at)) (point_at F (x - statuses_at))) (old x))
          (cond (ltb x absorbs_end) (positioned F (x - absorbs_at) (absorb_word (absorbs F (x - absorbs_at))) (old x)) (old x))))
      low x h true e = let l = ltb-true x uses_at e in run.before x (omega arith) ∙ counts.before x l ∙ walked.word x h
      low x h false e = mid x (ltb-false x uses_at e) (ltb x uses_end) refl

-- word x, where the words were `old`: the table of ctrl lines, the visited points, the parents, the use counts, the positions
unfoldable pub block_word : Func → (ℕ → ℕ) → ℕ → ℕ
block_word F old x =
    cond (ltb x lines_at) 0 (cond (ltb x children_at) (line_word (x - lines_at) 0 F.ctrls) (cond (ltb x points_at) 0 (lay_word F old x)))

-- from the words w to the words u
pub record BlockWords (F : Func) (w u : List ℕ) : Type 0 where
  pub word : (x : ℕ) → get_or u x 0 ≡ block_word F (λ y. get_or w y 0) x

module _ {func w u v z : List ℕ} {m : ℕ} (k : Visited func u m) (laid : LayWords (func_of func) w u)
    (low : Cleared 0 lines_at u v) (mid : Cleared children_at points_at v z) where
  same : (x : ℕ) → lines_at ≤ x → x < children_at → get_or z x 0 ≡ get_or u x 0
  same x a b = mid.aside.before x b ∙ low.aside.after x a

  same_high : (x : ℕ) → points_at ≤ x → get_or z x 0 ≡ get_or u x 0
  same_high x h = mid.aside.after x h ∙ low.aside.after x (omega arith)

  pub visited_still : length z ≡ length u → Visited func z m
  visited_still l = visited_kept k same (λ x a h. same_high x a) l

  pub block_words : BlockWords (func_of func) w z
  unfolding block_word
  block_words = record { word = λ x. first x (ltb x lines_at) refl }
    where
      last : (x : ℕ) → children_at ≤ x → (b : Bool) → ltb x points_at ≡ b → get_or z x 0 ≡ cond b 0 (lay_word (func_of func) (λ y. get_or w y 0) x)
      last x h true e = mid.blank x h (ltb-true x points_at e)
      last x h false e =
          let a = ltb-false x points_at e in
          same_high x a ∙ laid.word x (omega arith)

      second : (x : ℕ) → lines_at ≤ x → (b : Bool) → ltb x children_at ≡ b
          → get_or z x 0 ≡ cond b (line_word (x - lines_at) 0 (func_of func).ctrls) (cond (ltb x points_at) 0 (lay_word (func_of func) (λ y. get_or w y 0) x))
      second x h true e =
          let b = ltb-true x children_at e in
          let y : lines_at + (x - lines_at) ≡ x = omega arith in
          same x h b ∙ sym (ap (λ (y : ℕ). get_or u y 0) y) ∙ k.lines.line (x - lines_at) (omega arith)
      second x h false e = last x (ltb-false x children_at e) (ltb x points_at) refl

      first : (x : ℕ) (b : Bool) → ltb x lines_at ≡ b
          → get_or z x 0 ≡ cond b 0 (cond (ltb x children_at) (line_word (x - lines_at) 0 (func_of func).ctrls) (cond (ltb x points_at) 0 (lay_word (func_of func) (λ y. get_or w y 0) x)))
      first x true e = mid.aside.before x (omega (arith, ltb-true x lines_at e)) ∙ low.blank x (omega arith) (ltb-true x lines_at e)
      first x false e = second x (ltb-false x lines_at e) (ltb x children_at) refl

-- a text that passed refusals 1 to 7 and has a body can be walked
pub walkable_stands : {w : List ℕ} → Stands (func_of w) w → 0 < length (func_of w).regions → Walkable (func_of w)
walkable_stands {w} s h =
    walkable_checked s.tables (has_body_law (func_of w).regions h) s.passes.references s.passes.tree s.passes.counts s.passes.control
  where
    has_body_law : (rs : List Region) → 0 < length rs → has_body rs ≡ true
    has_body_law [] h = absurd (omega arith)
    has_body_law (r ∷ rs) h = refl
