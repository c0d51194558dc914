-- What the loops do to the work slice, as functions on its words, and what comes of it. Assumes nothing.
--     numbers_first, numbers_next, numbers_done    a loop over n numbers of a pool
--     fresh_clear, fresh_zero                      marks tell whether a number stands twice, or 0 stands
--     mark_at                                      a word after a run of marks
--     table_is                                     the table of parents
--     climbs_same                                  a climb looks at no other words
use Rattle.std.specs.Prelude.{◌≡◌, refl, Bool, false, not, cond, ◌&&◌, List, [], ◌∷◌, ◌++◌, ℕ, zero, suc, ◌+◌, ◌-◌, ◌≤◌, ◌<◌, eqb, length, get_or, set}
use Rattle.std.proofs.Common.{sym, ap, ◌∙◌, add-one, arith, length-set, get_or-set_same, get_or-set_other, eq-eqb, ne_eqb}
use Rattle.std.proofs.Math.Bool.{true}
use Rattle.std.proofs.Math.Decide.{ℕ_discrete}
use Rattle.general_laws.specs.Lists.{choose_yes, choose_no, tabulate, every, within, distinct}
use Rattle.func.specs.Tables.{Within, word}
use Rattle.func.specs.Layout.{entry_words}
use Rattle.general_laws.specs.Tests.{split}
use Rattle.check_marks.specs.Once.{Below, below_parts, within_same, within_other}
use Rattle.check_marks.specs.Test.{pool_numbers, kids, parent_in, climbs}

-- n numbers of pool k, from entry `at` on, that may be read, and name words of m
pub record Run (k : ℕ) (w : List ℕ) (at n m : ℕ) : Type 0 where
  pub read : (i : ℕ) → at ≤ i → i < at + n → Within k w i
  pub first : 0 < entry_words k
  pub low : (i : ℕ) → at ≤ i → i < at + n → word k w i 0 < m

-- a loop over n things that follow one another, after i turns, and over the numbers of a pool
pub tab_next : {A : Type 0} (f : ℕ → A) (a b i n : ℕ) → i < n → b ≡ a + 1 → tabulate f a (n - i) ≡ f a ∷ tabulate f b (n - (i + 1))
tab_next {A} f a b i n h e =
    let p : n - i ≡ suc (n - (i + 1)) = omega arith in
    let q : suc a ≡ b = omega arith in
    ap (tabulate f a) p ∙ ap (λ (z : ℕ). f a ∷ tabulate f z (n - (i + 1))) q

pub tab_first : {A : Type 0} (f : ℕ → A) (a b n : ℕ) → b ≡ a → tabulate f a n ≡ tabulate f b (n - 0)
tab_first f a b n e =
    let q : n ≡ n - 0 = omega arith in
    ap (λ (z : ℕ). tabulate f z n) (sym e) ∙ ap (tabulate f b) q

pub tab_done : {A : Type 0} (f : ℕ → A) (a i n : ℕ) → n ≤ i → tabulate f a (n - i) ≡ []
tab_done f a i n h = let p : n - i ≡ 0 = omega arith in ap (tabulate f a) p

module _ (k : ℕ) (w : List ℕ) where
  pub numbers_first : (a b n : ℕ) → b ≡ a → pool_numbers k w a n ≡ pool_numbers k w b (n - 0)
  unfolding pool_numbers
  numbers_first a b n e = tab_first (λ i. word k w i 0) a b n e

  pub numbers_next : (a b i n : ℕ) → i < n → b ≡ a + 1 → pool_numbers k w a (n - i) ≡ word k w a 0 ∷ pool_numbers k w b (n - (i + 1))
  unfolding pool_numbers
  numbers_next a b i n h e = tab_next (λ i. word k w i 0) a b i n h e

  pub numbers_done : (a i n : ℕ) → n ≤ i → pool_numbers k w a (n - i) ≡ []
  unfolding pool_numbers
  numbers_done a i n h = tab_done (λ i. word k w i 0) a i n h

-- the first n words are 0
abbrev pub ClearBelow : ℕ → List ℕ → Type 0
ClearBelow n w = (x : ℕ) → x < n → get_or w x 0 ≡ 0

-- No number of the list stands twice or at a marked word.
unfoldable pub fresh_marks : List ℕ → List ℕ → Bool
fresh_marks [] w = true
fresh_marks (x ∷ l) w = cond (eqb (get_or w x 0) 1) false (fresh_marks l (set w x 1))

-- each word that the list names is v
unfoldable pub mark_all : List ℕ → ℕ → List ℕ → List ℕ
mark_all [] v w = w
mark_all (x ∷ l) v w = mark_all l v (set w x v)

-- the words are unmarked
abbrev unmarked : List ℕ → List ℕ → Bool
unmarked w l = every (λ x. not (eqb (get_or w x 0) 1)) l

after : (x : ℕ) (l w : List ℕ) → x < length w → unmarked (set w x 1) l ≡ (unmarked w l && not (within x l))
after x [] w h = refl
after x (y ∷ l) w h =
    split (ℕ_discrete y x)
    (λ e. rw (e, get_or-set_same w x 1 0 h) (sym (rw (within_same x x l refl) (off (not (eqb (get_or w x 0) 1) && unmarked w l)))))
    (λ e. rw (get_or-set_other w x y 1 0 e, within_other x y l (λ s. e (sym s)), after x l w h) (assoc (not (eqb (get_or w y 0) 1)) (unmarked w l) (not (within x l))))
  where
    off : (b : Bool) → (b && false) ≡ false
    off true = refl
    off false = refl

    assoc : (a b c : Bool) → (a && (b && c)) ≡ ((a && b) && c)
    assoc true b c = refl
    assoc false b c = refl

fresh_is : (n : ℕ) (l w : List ℕ) → Below n l → n ≤ length w → fresh_marks l w ≡ (unmarked w l && distinct l)
unfolding fresh_marks
fresh_is n [] w b h = refl
fresh_is n (x ∷ l) w b h =
    let q = below_parts n x l b in
    rw (fresh_is n l (set w x 1) q.1 (omega (arith, length-set w x 1)), after x l w (omega arith)) (regroup (eqb (get_or w x 0) 1) (unmarked w l) (not (within x l)) (distinct l))
  where
    regroup : (e u v d : Bool) → cond e false ((u && v) && d) ≡ ((not e && u) && (v && d))
    regroup true u v d = refl
    regroup false true v d = refl
    regroup false false v d = refl

all_unmarked : (n : ℕ) (l w : List ℕ) → Below n l → ClearBelow n w → unmarked w l ≡ true
all_unmarked n [] w b c = refl
all_unmarked n (x ∷ l) w b c =
    let q = below_parts n x l b in
    rw (ne_eqb (get_or w x 0) 1 (λ e. omega (arith, c x q.0))) (all_unmarked n l w q.1 c)

pub fresh_clear : (n : ℕ) (l w : List ℕ) → Below n l → n ≤ length w → ClearBelow n w → fresh_marks l w ≡ distinct l
fresh_clear n l w b h c = fresh_is n l w b h ∙ rw (all_unmarked n l w b c)

pub fresh_zero : (n : ℕ) (l w : List ℕ) → Below n l → n ≤ length w → 0 < length w → ClearBelow n w → fresh_marks l (set w 0 1) ≡ distinct (0 ∷ l)
fresh_zero n l w b h z c = fresh_is n l (set w 0 1) b (omega (arith, length-set w 0 1)) ∙ rw (after 0 l w z, all_unmarked n l w b c)

-- the loop's steps
pub fresh_hit : (x : ℕ) (l w : List ℕ) → get_or w x 0 ≡ 1 → fresh_marks (x ∷ l) w ≡ false
unfolding fresh_marks
fresh_hit x l w e = rw (eq-eqb (get_or w x 0) 1 e)

pub fresh_next : (x : ℕ) (l w : List ℕ) → (get_or w x 0 ≡ 1 → ⊥) → fresh_marks (x ∷ l) w ≡ fresh_marks l (set w x 1)
unfolding fresh_marks
fresh_next x l w e = rw (ne_eqb (get_or w x 0) 1 e)

pub fresh_done : (w : List ℕ) → fresh_marks [] w ≡ true
unfolding fresh_marks
fresh_done w = refl

pub mark_next : (x v : ℕ) (l w : List ℕ) → mark_all (x ∷ l) v w ≡ mark_all l v (set w x v)
unfolding mark_all
mark_next x v l w = refl

pub mark_done : (v : ℕ) (w : List ℕ) → mark_all [] v w ≡ w
unfolding mark_all
mark_done v w = refl

-- one turn of each loop
module _ (k : ℕ) (w : List ℕ) (a b i n x : ℕ) (u : List ℕ) (h : i < n) (q : b ≡ a + 1) (e : x ≡ word k w a 0) where
  pub mark_turn : (v : ℕ) → mark_all (pool_numbers k w a (n - i)) v u ≡ mark_all (pool_numbers k w b (n - (i + 1))) v (set u x v)
  mark_turn v =
      ap (λ (l : List ℕ). mark_all l v u) (numbers_next k w a b i n h q)
      ∙ mark_next (word k w a 0) v _ u
      ∙ ap (λ (z : ℕ). mark_all (pool_numbers k w b (n - (i + 1))) v (set u z v)) (sym e)

  pub fresh_stop : get_or u x 0 ≡ 1 → fresh_marks (pool_numbers k w a (n - i)) u ≡ false
  fresh_stop m =
      ap (λ (l : List ℕ). fresh_marks l u) (numbers_next k w a b i n h q)
      ∙ fresh_hit (word k w a 0) _ u (ap (λ (z : ℕ). get_or u z 0) (sym e) ∙ m)

  pub fresh_turn : (get_or u x 0 ≡ 1 → ⊥) → fresh_marks (pool_numbers k w a (n - i)) u ≡ fresh_marks (pool_numbers k w b (n - (i + 1))) (set u x 1)
  fresh_turn m =
      ap (λ (l : List ℕ). fresh_marks l u) (numbers_next k w a b i n h q)
      ∙ fresh_next (word k w a 0) _ u (λ y. m (ap (λ (z : ℕ). get_or u z 0) e ∙ y))
      ∙ ap (λ (z : ℕ). fresh_marks (pool_numbers k w b (n - (i + 1))) (set u z 1)) (sym e)

pub mark_append : (l m : List ℕ) (v : ℕ) (w : List ℕ) → mark_all (l ++ m) v w ≡ mark_all m v (mark_all l v w)
unfolding mark_all
mark_append [] m v w = refl
mark_append (x ∷ l) m v w = mark_append l m v (set w x v)

pub length_mark : (l : List ℕ) (v : ℕ) (w : List ℕ) → length (mark_all l v w) ≡ length w
unfolding mark_all
length_mark [] v w = refl
length_mark (x ∷ l) v w = length_mark l v (set w x v) ∙ length-set w x v

pub mark_at : (l : List ℕ) (v : ℕ) (w : List ℕ) (c : ℕ) → c < length w → get_or (mark_all l v w) c 0 ≡ cond (within c l) v (get_or w c 0)
unfolding mark_all
mark_at [] v w c h = refl
mark_at (x ∷ l) v w c h =
    let i = mark_at l v (set w x v) c (omega (arith, length-set w x v)) in
    split (ℕ_discrete c x)
    (λ e. i ∙ rw (within_same c x l e) (ap (cond (within c l) v) (ap (λ (z : ℕ). get_or (set w x v) z 0) e ∙ get_or-set_same w x v 0 (omega arith)) ∙ twice (within c l) v))
    (λ e. i ∙ rw (within_other c x l e, get_or-set_other w x c v 0 e))
  where
    twice : (b : Bool) (v : ℕ) → cond b v v ≡ v
    twice true v = refl
    twice false v = refl

-- the table of parents, after the regions below s
unfoldable pub parent_table : List ℕ → ℕ → List ℕ → List ℕ
parent_table w zero t = t
parent_table w (suc s) t = mark_all (kids w s) (suc s) (parent_table w s t)

pub table_first : (w t : List ℕ) → t ≡ parent_table w 0 t
unfolding parent_table
table_first w t = refl

pub table_next : (w t : List ℕ) (s : ℕ) → mark_all (kids w s) (s + 1) (parent_table w s t) ≡ parent_table w (s + 1) t
unfolding parent_table
table_next w t s = rw (add-one s)

length_table : (w : List ℕ) (s : ℕ) (t : List ℕ) → length (parent_table w s t) ≡ length t
unfolding parent_table
length_table w zero t = refl
length_table w (suc s) t = length_mark (kids w s) (suc s) (parent_table w s t) ∙ length_table w s t

pub table_is : (w : List ℕ) (s n : ℕ) (t : List ℕ) → n ≤ length t → ClearBelow n t → (c : ℕ) → c < n → get_or (parent_table w s t) c 0 ≡ parent_in w s c
unfolding parent_table parent_in
table_is w zero n t h z c l = z c l
table_is w (suc s) n t h z c l =
    mark_at (kids w s) (suc s) (parent_table w s t) c (omega (arith, length_table w s t)) ∙ ap (cond (within c (kids w s)) (suc s)) (table_is w s n t h z c l)

pub parent_low : (w : List ℕ) (s c : ℕ) → parent_in w s c ≤ s
unfolding parent_in
parent_low w zero c = omega arith
parent_low w (suc s) c = go (within c (kids w s)) (parent_low w s c)
  where
    go : (b : Bool) → parent_in w s c ≤ s → cond b (suc s) (parent_in w s c) ≤ suc s
    go true i = omega arith
    go false i = omega arith

-- a climb's steps
module _ (p : ℕ → ℕ) (r k at : ℕ) where
  pub climb_out : p at ≡ 0 → climbs p r (suc k) at ≡ false
  unfolding climbs
  climb_out e = rw (e, climbs)

  pub climb_back : p at ≡ suc r → climbs p r (suc k) at ≡ true
  unfolding climbs
  climb_back e = rw (e, climbs) (choose_yes (ℕ_discrete r r) true (climbs p r k r) refl)

  pub climb_on : (s : ℕ) → p at ≡ suc s → (r ≡ s → ⊥) → climbs p r (suc k) at ≡ climbs p r k s
  unfolding climbs
  climb_on s e h = rw (e, climbs) (choose_no (ℕ_discrete r s) true (climbs p r k s) h)

pub climb_none : (p : ℕ → ℕ) (r at : ℕ) → climbs p r 0 at ≡ false
unfolding climbs
climb_none p r at = refl

pub climbs_same : (p q : ℕ → ℕ) (n r : ℕ) → ((c : ℕ) → c < n → p c ≡ q c) → ((c : ℕ) → c < n → p c ≤ n) → (k at : ℕ) → at < n → climbs p r k at ≡ climbs q r k at
unfolding climbs
climbs_same p q n r e h zero at l = refl
climbs_same p q n r e h (suc k) at l = go (p at) refl (λ s m. climbs_same p q n r e h k s m)
  where
    go : (x : ℕ) → p at ≡ x → ((s : ℕ) → s < n → climbs p r k s ≡ climbs q r k s) → climbs p r (suc k) at ≡ climbs q r (suc k) at
    go zero z i = climb_out p r k at z ∙ sym (climb_out q r k at (sym (e at l) ∙ z))
    go (suc s) z i =
        let a = i s (omega (arith, h at l)) in
        let y : q at ≡ suc s = sym (e at l) ∙ z in
        split (ℕ_discrete r s) (λ d. climb_back p r k at (z ∙ ap suc (sym d)) ∙ sym (climb_back q r k at (y ∙ ap suc (sym d))))
        (λ d. climb_on p r k at s z d ∙ a ∙ sym (climb_on q r k at s y d))
