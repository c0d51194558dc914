-- The steps of the pass that says in which kept block each position stands. Assumes nothing.
--     alone-..       a point that is absorbed by none
--     join-..        whether a point can be absorbed
--     absorb-..        whether a point absorbs the next one
--     AbsorbPass, absorbing-..      the pass
use mathlib.Core.Path.{◌≡◌, refl, sym, ap, ap₂, subst, ◌∙◌}
use mathlib.Core.Bool.{Bool, true, false, ◌&&◌, false≢true}
use mathlib.Core.List.{List}
use mathlib.Core.Option.{Option, none, some}
use Prim.Native.Nat.{ℕ, zero, suc, ◌+◌, ◌-◌, ◌≤◌, ◌<◌}
use native.Mathlib.Decide.{ℕ_discrete}
use native.Mathlib.Numerals.{add-one}
use native.Mathlib.Omega.{arith}
use lib.Dec.{eqb}
use lib.ListN.{get_or, length, length-set, set}
use lib.Seq.{get_or-set_other, get_or-set_same}
use borrow.Author.Tests.{eq-eqb, ne_eqb}
use Rattle.lifting.specs.Points.{CfgPoint, Terminator}
use Rattle.lifting.specs.Walk.{walk_of}
use Rattle.lifting.specs.Absorb.{labels, sole_target, use_count}
use Rattle.func.specs.Decode.{func_of}
use Rattle.general_laws.specs.Members.{In, here}
use Rattle.lifting_runs.specs.AbsorbCount.{sole_straight}
use Rattle.work.specs.Layout.{points_at, uses_at, statuses_at, absorbs_at, absorbs_end}
use Rattle.general_laws.specs.Tests.{split}
use Rattle.work.specs.Aside.{Aside, aside_none, aside_set, aside_more}
use Rattle.lifting_blocks.specs.Flat.{by_count, absorbs_next, absorbs_target}
use Rattle.lifting_blocks.specs.FlatLaws.{absorb_last, absorb_next}
use Rattle.walk_points.specs.Numbers.{Small, point_low, point_number, point_of}
use Rattle.terminators.specs.At.{visited_block, point_at}
use Rattle.terminators.specs.Visited.{Visited, label_small, point_small, point_word, visited_below, point_read}
use Rattle.std.specs.Prelude.{Some, None}
use Rattle.terminators.specs.Kinds.{Sole, as_sole}
use Rattle.block_uses.specs.Uses.{Counted}
use Rattle.block_absorbs.specs.Absorbs.{Beyond, AbsorbWords, absorbed, absorbs, alone_word, absorb_is, absorb_word, joinable, stands, status_alone, status_joined, status_word}

-- ---- one position

unused : (n : ℕ) (p : CfgPoint) → n ≡ 0 → 0 ≡ status_word (by_count n) p
unused n p e = sym (ap (λ (x : ℕ). status_word (by_count x) p) e)

used : (n : ℕ) (p : CfgPoint) → ¬ (n ≡ 0) → point_number p + 1 ≡ status_word (by_count n) p
used zero p h = absurd (h refl)
used (suc n) p h = refl

module _ {w u : List ℕ} {m : ℕ} (k : Visited w u m) (t : Counted (func_of w) u) (i : ℕ) (h : i < m) {q : ℕ} (e : q ≡ get_or u (points_at + i) 0) where
  abbrev p : CfgPoint
  p = point_at (func_of w) i

  abbrev n : ℕ
  n = use_count (walk_of (func_of w)) p

  number : q ≡ point_number p
  number = e ∙ point_word k i h

  pub number_small : q < 512
  number_small = omega (arith, number, point_low p (point_small k i h))

  uses_are : get_or u (uses_at + q) 0 ≡ n
  uses_are = t.word q number_small ∙ ap (use_count (walk_of (func_of w))) (sym (point_read k i h ∙ ap point_of (sym e)))

  pub alone_unused : get_or u (uses_at + q) 0 ≡ 0 → 0 ≡ status_word (by_count n) p
  alone_unused z = unused n p (sym uses_are ∙ z)

  pub alone_used : ¬ (get_or u (uses_at + q) 0 ≡ 0) → q + 1 ≡ status_word (by_count n) p
  alone_used z = ap (λ (x : ℕ). x + 1) number ∙ used n p (λ y. z (uses_are ∙ y))

  -- x is the point's number, it has one use, and it has no phis
  abbrev Joins : Bool → ℕ → Type 0
  Joins b x = b ≡ joinable (func_of w) i x

  pub join_other : {x : ℕ} → ¬ (x ≡ q) → Joins false x
  join_other {x} z =
      sym (ap (λ (b : Bool). b && (eqb n 1 && eqb (length (visited_block (func_of w) i).keys) 0)) (ne_eqb x (point_number p) (λ y. z (y ∙ sym number))))

  same : {x : ℕ} → x ≡ q → eqb x (point_number p) ≡ true
  same {x} y = eq-eqb x (point_number p) (y ∙ number)

  pub join_uses : {x : ℕ} → x ≡ q → ¬ (get_or u (uses_at + q) 0 ≡ 1) → Joins false x
  join_uses {x} y z =
      sym (ap₂ (λ (a b : Bool). a && (b && eqb (length (visited_block (func_of w) i).keys) 0)) (same y) (ne_eqb n 1 (λ o. z (uses_are ∙ o))))

  pub join_all : {x : ℕ} → x ≡ q → get_or u (uses_at + q) 0 ≡ 1 → {j : ℕ} → j ≡ length (visited_block (func_of w) i).keys → Joins (eqb j 0) x
  join_all {x} y z {j} l =
      ap (λ (c : ℕ). eqb c 0) l
      ∙ sym (ap₂ (λ (a b : Bool). a && (b && eqb (length (visited_block (func_of w) i).keys) 0)) (same y) (eq-eqb n 1 (sym uses_are ∙ z)))

-- ---- the word of a position

pub joined_some : (w : List ℕ) (i : ℕ) {b : Bool} → b ≡ absorbed (func_of w) i → b ≡ true → 0 < i
joined_some w zero e y = absurd (false≢true (sym e ∙ y))
joined_some w (suc i) e y = omega arith

pub status_before : (w : List ℕ) (i : ℕ) {u : List ℕ} → AbsorbWords (func_of w) i u → {b : Bool} → b ≡ absorbed (func_of w) i → b ≡ true
    → get_or u (statuses_at + (i - 1)) 0 ≡ status_word (stands (func_of w) i) (point_at (func_of w) i)
status_before w zero g e y = absurd (false≢true (sym e ∙ y))
status_before w (suc i) {u} g e y =
    let z : suc i - 1 ≡ i = omega arith in
    ap (λ (x : ℕ). get_or u (statuses_at + x) 0) z ∙ g.status i (omega arith) ∙ sym (status_joined (func_of w) i (sym e ∙ y))

pub status_new : (w : List ℕ) (i : ℕ) {b : Bool} → b ≡ absorbed (func_of w) i → b ≡ false → {x : ℕ}
    → x ≡ alone_word (func_of w) i → x ≡ status_word (stands (func_of w) i) (point_at (func_of w) i)
status_new w i e y l = l ∙ ap (λ s. status_word s (point_at (func_of w) i)) (sym (status_alone (func_of w) i (sym e ∙ y)))

-- ---- absorption

none_of : (o : Option CfgPoint) → as_sole o ≡ None → o ≡ none
none_of none e = refl
none_of (some p) e = absurd (let z : ◌≡◌ {A = ℕ} 0 1 = cc in omega arith)

some_of : (o : Option CfgPoint) (t : ℕ) → as_sole o ≡ Some t → (p : CfgPoint) × (o ≡ some p) × (t ≡ point_number p)
some_of none t e = absurd (let z : ◌≡◌ {A = ℕ} 0 1 = cc in omega arith)
some_of (some p) t e = (p, refl, cc)

module _ {w u : List ℕ} {m : ℕ} (k : Visited w u m) (i : ℕ) (h : i < m) where
  abbrev sole : Option CfgPoint
  sole = sole_target (visited_block (func_of w) i).term

  pub absorb_end : i + 1 ≡ m → false ≡ absorbs (func_of w) i
  absorb_end e = sym (absorb_last (use_count (walk_of (func_of w))) (walk_of (func_of w)) i (omega (arith, k.count)))

  module _ (more : ¬ (i + 1 ≡ m)) {s : Sole} (e : s ≡ as_sole sole) where
    abbrev q : CfgPoint
    q = point_at (func_of w) (suc i)

    pub next_low : i + 1 < m
    next_low = omega arith

    by : absorbs (func_of w) i ≡ absorbs_target sole q (use_count (walk_of (func_of w)) q) (visited_block (func_of w) (suc i)).keys
    unfolding absorbs_next
    by = absorb_next (use_count (walk_of (func_of w))) (walk_of (func_of w)) i (omega (arith, k.count))

    pub absorb_none : s ≡ None → false ≡ absorbs (func_of w) i
    absorb_none g =
        sym (by ∙ ap (λ (o : Option CfgPoint). absorbs_target o q (use_count (walk_of (func_of w)) q) (visited_block (func_of w) (suc i)).keys) (none_of sole (sym e ∙ g)))

    pub absorb_to : {t : ℕ} → s ≡ Some t → {b : Bool}
        → b ≡ joinable (func_of w) (i + 1) t → b ≡ absorbs (func_of w) i
    absorb_to {t} g {b} y =
        let o = some_of sole t (sym e ∙ g) in
        let term : (visited_block (func_of w) i).term ≡ _ = sole_straight (visited_block (func_of w) i).term o.0 o.1 in
        let small : Small o.0 = label_small k i h o.0 (subst (λ (x : Terminator). In o.0 (labels x)) (sym term) here) in
        y
        ∙ ap (λ (x : ℕ). joinable (func_of w) x t) (add-one i)
        ∙ ap (joinable (func_of w) (suc i)) o.2
        ∙ sym (by
        ∙ ap (λ (x : Option CfgPoint). absorbs_target x q (use_count (walk_of (func_of w)) q) (visited_block (func_of w) (suc i)).keys) o.1
        ∙ absorb_is o.0 q small (point_small k (suc i) (omega (arith, next_low))) (use_count (walk_of (func_of w)) q) (visited_block (func_of w) (suc i)).keys)

-- ---- the pass

pub record AbsorbPass (func w : List ℕ) (m i : ℕ) (joined : Bool) (work : List ℕ) : Type 0 where
  pub visited : Visited func work m
  pub counted : Counted (func_of func) work
  pub below : i ≤ m
  pub before : joined ≡ absorbed (func_of func) i
  pub absorbing : AbsorbWords (func_of func) i work
  pub same : length work ≡ length w
  pub aside : Aside statuses_at absorbs_end w work
  pub beyond : Beyond i w work

pub absorbing_first : {func w : List ℕ} {m : ℕ} → Visited func w m → Counted (func_of func) w → AbsorbPass func w m 0 false w
absorbing_first {w = w} k t = record {
  visited = k;
  counted = t;
  below = omega arith;
  before = refl;
  absorbing = record { status = λ i h. absurd (omega arith); absorb = λ i h. absurd (omega arith) };
  same = refl;
  aside = aside_none statuses_at absorbs_end w;
  beyond = record { status = λ i h l. refl; absorb = λ i h l. refl };
}

module _ {func w : List ℕ} {m i : ℕ} {joined : Bool} {work : List ℕ} (f : AbsorbPass func w m i joined work) (h : i < m) (s : ℕ) (b : Bool) where
  abbrev one : List ℕ
  one = set work (statuses_at + i) s

  abbrev two : List ℕ
  two = set one (absorbs_at + i) (absorb_word b)

  inside : absorbs_end ≤ length work
  inside = omega (arith, f.visited.size)

  low : i < 512
  low = omega (arith, f.visited.few)

  between : Aside statuses_at absorbs_end work two
  between =
      aside_set (aside_set (aside_none statuses_at absorbs_end work) (statuses_at + i) s (omega arith) (omega (arith, low))) (absorbs_at + i) (absorb_word b)
      (omega arith) (omega (arith, low))

  status_words : s ≡ status_word (stands (func_of func) i) (point_at (func_of func) i) → (j : ℕ) → j < i + 1
      → get_or two (statuses_at + j) 0 ≡ status_word (stands (func_of func) j) (point_at (func_of func) j)
  status_words e j l =
      get_or-set_other one (absorbs_at + i) (statuses_at + j) (absorb_word b) 0 (λ y. omega (arith, low))
      ∙ split (ℕ_discrete j i)
      (λ z.
      ap (λ (x : ℕ). get_or one (statuses_at + x) 0) z
      ∙ get_or-set_same work (statuses_at + i) s 0 (omega (arith, inside, low))
      ∙ e
      ∙ ap (λ (x : ℕ). status_word (stands (func_of func) x) (point_at (func_of func) x)) (sym z))
      (λ z. get_or-set_other work (statuses_at + i) (statuses_at + j) s 0 (λ y. z (omega arith)) ∙ f.absorbing.status j (omega arith))

  absorb_words : b ≡ absorbs (func_of func) i → (j : ℕ) → j < i + 1 → get_or two (absorbs_at + j) 0 ≡ absorb_word (absorbs (func_of func) j)
  absorb_words e j l =
      split (ℕ_discrete j i)
      (λ z.
      ap (λ (x : ℕ). get_or two (absorbs_at + x) 0) z
      ∙ get_or-set_same one (absorbs_at + i) (absorb_word b) 0 (omega (arith, inside, low, length-set work (statuses_at + i) s))
      ∙ ap absorb_word e
      ∙ ap (λ (x : ℕ). absorb_word (absorbs (func_of func) x)) (sym z))
      (λ z.
      get_or-set_other one (absorbs_at + i) (absorbs_at + j) (absorb_word b) 0 (λ y. z (omega arith))
      ∙ get_or-set_other work (statuses_at + i) (absorbs_at + j) s 0 (λ y. omega (arith, low))
      ∙ f.absorbing.absorb j (omega arith))

  later : Beyond (i + 1) w two
  later = record {
    status = λ j h l.
        get_or-set_other one (absorbs_at + i) (statuses_at + j) (absorb_word b) 0 (λ y. omega arith)
        ∙ get_or-set_other work (statuses_at + i) (statuses_at + j) s 0 (λ y. omega arith)
        ∙ f.beyond.status j (omega arith) l;
    absorb = λ j h l.
        get_or-set_other one (absorbs_at + i) (absorbs_at + j) (absorb_word b) 0 (λ y. omega arith)
        ∙ get_or-set_other work (statuses_at + i) (absorbs_at + j) s 0 (λ y. omega (arith, low))
        ∙ f.beyond.absorb j (omega arith) l;
  }

  pub absorbing_next : s ≡ status_word (stands (func_of func) i) (point_at (func_of func) i) → b ≡ absorbs (func_of func) i → {out : List ℕ} → out ≡ two
      → length out ≡ length work
      → AbsorbPass func w m (i + 1) b out
  absorbing_next es eb {out} eo l =
      let s2 : Aside statuses_at absorbs_end work out = subst (Aside statuses_at absorbs_end work) (sym eo) between in
      record {
        visited = visited_below f.visited (λ x z. s2.before x (omega arith)) l;
        counted = record { word = λ q z. s2.before (uses_at + q) (omega arith) ∙ f.counted.word q z };
        below = omega arith;
        before = eb ∙ sym (ap (absorbed (func_of func)) (add-one i));
        absorbing = subst (AbsorbWords (func_of func) (i + 1)) (sym eo) (record { status = status_words es; absorb = absorb_words eb });
        same = l ∙ f.same;
        aside = aside_more f.aside s2;
        beyond = subst (Beyond (i + 1) w) (sym eo) later;
      }

pub absorbing_done : {func w : List ℕ} {m i : ℕ} {joined : Bool} {work : List ℕ} → AbsorbPass func w m i joined work → m ≤ i → AbsorbWords (func_of func) m work
absorbing_done {func} {m = m} {i} {work = work} f h =
    let e : i ≡ m = omega (arith, f.below) in
    subst (λ (n : ℕ). AbsorbWords (func_of func) n work) e f.absorbing

pub absorbing_beyond : {func w : List ℕ} {m i : ℕ} {joined : Bool} {work : List ℕ} → AbsorbPass func w m i joined work → m ≤ i → Beyond m w work
absorbing_beyond {w = w} {m} {i} {work = work} f h =
    let e : i ≡ m = omega (arith, f.below) in
    subst (λ (n : ℕ). Beyond n w work) e f.beyond
