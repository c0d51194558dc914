-- The search for a region that lies around itself, by stamps: each climb outward stamps the regions on its way, and stops where a region has
-- a stamp already. Assumes nothing.
--     found_cycle                  a region that is met again makes the test fail
--     all_clean                    where every region has a way out to a root, the test passes
--     acyclic_same, stamped_same   only the parents of the n regions count
--     free_less                    a stamp leaves one region less without one
use Rattle.std.specs.Prelude.{◌≡◌, Bool, not, List, eqb, length, get_or, set}
use Rattle.std.proofs.Math.Path.{refl, sym, ap}
use Rattle.std.proofs.Common.{subst, ◌∙◌, arith, get_or-set_same, get_or-set_other}
use Rattle.std.proofs.Math.Bool.{true, false, cond}
use Prim.Native.Nat.{ℕ, zero, suc, ◌+◌, ◌≤◌, ◌<◌}
use Rattle.std.proofs.Math.Decide.{ℕ_discrete}
use borrow.Author.Tests.{eq-eqb, ne_eqb}
use Rattle.work.specs.Layout.{stamps_at, work_need}
use Rattle.general_laws.specs.Tests.{split}
use Rattle.check_marks.specs.Once.{every_tab, tab_every, tab_same_test}
use Rattle.check_marks.specs.Test.{climbs, acyclic}
use Rattle.check_marks.specs.Marks.{climb_out, climb_back, climb_on, climbs_same}

-- region c's parent, as one more than its number, or 0, and region c's stamp: one more than the region from which it was met first, or 0
abbrev pub parent : List ℕ → ℕ → ℕ
parent u c = get_or u c 0

abbrev pub stamp : List ℕ → ℕ → ℕ
stamp u c = get_or u (stamps_at + c) 0

-- the way outward from region c ends at a root after j steps
unfoldable pub OutwardEnd : (ℕ → ℕ) → ℕ → ℕ → Type 0
OutwardEnd p c zero = p c ≡ 0
OutwardEnd p c (suc j) = (s : ℕ) × (p c ≡ suc s) × OutwardEnd p s j

-- i steps outward from region a is region b
unfoldable pub Way : (ℕ → ℕ) → ℕ → ℕ → ℕ → Type 0
Way p zero a b = a ≡ b
Way p (suc i) a b = (s : ℕ) × (p a ≡ suc s) × Way p i s b

-- how many of the first n regions have no stamp
unfoldable pub free : List ℕ → ℕ → ℕ
free u zero = 0
free u (suc n) = cond (eqb (stamp u n) 0) (suc (free u n)) (free u n)

-- Of n regions with the parents p those below k have been climbed from, and no cycle was found: each region that has a stamp has a way out.
pub record Stamped (p : ℕ → ℕ) (n k : ℕ) (u : List ℕ) : Type 0 where
  pub few : n ≤ stamps_at
  pub size : work_need ≤ length u
  pub low : (c : ℕ) → c < n → p c ≤ n
  pub same : (c : ℕ) → c < n → parent u c ≡ p c
  pub old : (c : ℕ) → c < n → stamp u c ≤ k
  pub seen : (c : ℕ) → c < k → 0 < stamp u c
  pub out : (c : ℕ) → c < n → 0 < stamp u c → (j : ℕ) × OutwardEnd p c j

-- After a climb from region r: it has met a region of its own, and the test fails, or it is over.
abbrev pub Climbed : Bool → (ℕ → ℕ) → ℕ → ℕ → List ℕ → Type 0
Climbed true p n r u = acyclic p n ≡ false
Climbed false p n r u = Stamped p n (r + 1) u

-- ---- ways

module _ (p : ℕ → ℕ) where
  pub way_one : (a b : ℕ) → p a ≡ suc b → Way p 1 a b
  unfolding Way
  way_one a b e = (b, e, refl)

  pub way_on : (i a b c : ℕ) → Way p i a b → p b ≡ suc c → Way p (suc i) a c
  unfolding Way
  way_on zero a b c w e = (c, ap p w ∙ e, refl)
  way_on (suc i) a b c w e = (w.0, w.1, way_on i w.0 b c w.2 e)

  pub way_out_law : (i a b j : ℕ) → Way p i a b → OutwardEnd p b j → (k : ℕ) × OutwardEnd p a k
  unfolding Way OutwardEnd
  way_out_law zero a b zero w o = (zero, ap p w ∙ o)
  way_out_law zero a b (suc j) w o = (suc j, (o.0, ap p w ∙ o.1, o.2))
  way_out_law (suc i) a b j w o = let q = way_out_law i w.0 b j w.2 o in (suc q.0, (w.0, w.1, q.1))

  pub out_root : (c : ℕ) → p c ≡ 0 → OutwardEnd p c 0
  unfolding OutwardEnd
  out_root c e = e

  -- the number of steps to the root is one
  out_once : (c i j : ℕ) → OutwardEnd p c i → OutwardEnd p c j → i ≡ j
  unfolding OutwardEnd
  out_once c zero zero x y = refl
  out_once c zero (suc j) x y = absurd (omega (arith, y.1))
  out_once c (suc i) zero x y = absurd (omega (arith, x.1))
  out_once c (suc i) (suc j) x y =
      let e : x.0 ≡ y.0 = omega (arith, x.1, y.1) in
      ap suc (out_once y.0 i j (subst (λ (s : ℕ). OutwardEnd p s i) e x.2) y.2)

  -- a climb from a region with a way out does not meet one that is further from its root
  out_climb : (r k at j : ℕ) → OutwardEnd p at j → ((m : ℕ) → m < j → OutwardEnd p r m → ⊥) → climbs p r k at ≡ false
  unfolding OutwardEnd climbs
  out_climb r zero at j o h = refl
  out_climb r (suc k) at zero o h = climb_out p r k at o
  out_climb r (suc k) at (suc j) o h =
      split (ℕ_discrete r o.0) (λ e. absurd (h j (omega arith) (subst (λ (s : ℕ). OutwardEnd p s j) (sym e) o.2)))
      (λ e. climb_on p r k at o.0 o.1 e ∙ out_climb r k o.0 j o.2 (λ m l. h m (omega arith)))

  clean_way : (c k j : ℕ) → OutwardEnd p c j → climbs p c k c ≡ false
  clean_way c k j o = out_climb c k c j o (λ m l x. omega (arith, out_once c j m o x))

  -- a region that is met again
  way_climb : (i k a b : ℕ) → i < k → Way p (suc i) a b → climbs p b k a ≡ true
  unfolding Way
  way_climb i zero a b h w = absurd (omega arith)
  way_climb zero (suc k) a b h w = climb_back p b k a (w.1 ∙ ap suc w.2)
  way_climb (suc i) (suc k) a b h w =
      split (ℕ_discrete b w.0) (λ e. climb_back p b k a (w.1 ∙ ap suc (sym e)))
      (λ e. climb_on p b k a w.0 w.1 e ∙ way_climb i k w.0 b (omega arith) w.2)

  pub found_cycle : (n c i : ℕ) → c < n → 0 < i → i ≤ n → Way p i c c → acyclic p n ≡ false
  found_cycle n c zero l z h w = absurd (omega arith)
  found_cycle n c (suc i) l z h w = go (acyclic p n) refl
    where
      go : (b : Bool) → acyclic p n ≡ b → acyclic p n ≡ false
      go false q = q
      go true q =
          let x : not (climbs p c n c) ≡ true = every_tab (λ r. not (climbs p r n r)) 0 n q c (omega arith) (omega arith) in
          let y : climbs p c n c ≡ true = way_climb i n c c (omega arith) w in
          let f : false ≡ true = sym (ap not y) ∙ x in
          let m : ◌≡◌ {A = ℕ} 0 1 = cc in
          absurd (omega arith)

  pub all_clean : (n : ℕ) → ((c : ℕ) → c < n → (j : ℕ) × OutwardEnd p c j) → acyclic p n ≡ true
  all_clean n h = tab_every (λ r. not (climbs p r n r)) 0 n (λ c l m. let o = h c (omega arith) in ap not (clean_way c n o.0 o.1))

-- ---- parents that are the same

module _ (p q : ℕ → ℕ) (n : ℕ) (e : (c : ℕ) → c < n → p c ≡ q c) (h : (c : ℕ) → c < n → p c ≤ n) where
  out_same : (j c : ℕ) → c < n → OutwardEnd p c j → OutwardEnd q c j
  unfolding OutwardEnd
  out_same zero c l o = sym (e c l) ∙ o
  out_same (suc j) c l o = (o.0, sym (e c l) ∙ o.1, out_same j o.0 (omega (arith, h c l, o.1)) o.2)

  pub acyclic_same : acyclic p n ≡ acyclic q n
  acyclic_same = tab_same_test (λ r. not (climbs p r n r)) (λ r. not (climbs q r n r)) 0 n (λ r l. ap not (climbs_same p q n r e h n r (omega arith)))

  pub stamped_same : (k : ℕ) (u : List ℕ) → Stamped p n k u → Stamped q n k u
  stamped_same k u s = record {
    few = s.few;
    size = s.size;
    low = λ c l. omega (arith, e c l, h c l);
    same = λ c l. s.same c l ∙ e c l;
    old = s.old;
    seen = s.seen;
    out = λ c l z. let o = s.out c l z in (o.0, out_same o.0 c l o.1);
  }

-- ---- counting the regions without a stamp

pub free_low : (u : List ℕ) (n : ℕ) → free u n ≤ n
unfolding free
free_low u zero = omega arith
free_low u (suc n) = go (eqb (stamp u n) 0) (free_low u n)
  where
    go : (b : Bool) → free u n ≤ n → cond b (suc (free u n)) (free u n) ≤ suc n
    go true i = omega arith
    go false i = omega arith

module _ (u : List ℕ) (at v : ℕ) where
  pub stamp_same : stamps_at + at < length u → stamp (set u (stamps_at + at) v) at ≡ v
  stamp_same h = get_or-set_same u (stamps_at + at) v 0 h

  pub stamp_other : (c : ℕ) → ¬ (c ≡ at) → stamp (set u (stamps_at + at) v) c ≡ stamp u c
  stamp_other c e = get_or-set_other u (stamps_at + at) (stamps_at + c) v 0 (λ x. e (omega arith))

  pub parent_other : (c : ℕ) → c < stamps_at → parent (set u (stamps_at + at) v) c ≡ parent u c
  parent_other c l = get_or-set_other u (stamps_at + at) c v 0 (λ x. omega arith)

  free_other : (n : ℕ) → n ≤ at → free (set u (stamps_at + at) v) n ≡ free u n
  unfolding free
  free_other zero l = refl
  free_other (suc n) l = rw (stamp_other n (λ x. omega arith), free_other n (omega arith))

  -- one less, where a region gets its stamp
  pub free_less : (n : ℕ) → at < n → stamps_at + at < length u → stamp u at ≡ 0 → 0 < v → free u n ≡ suc (free (set u (stamps_at + at) v) n)
  unfolding free
  free_less zero l h z f = absurd (omega arith)
  free_less (suc n) l h z f =
      split (ℕ_discrete n at)
      (λ e. rw (e, stamp_same h, eq-eqb (stamp u at) 0 z, ne_eqb v 0 (λ x. omega arith), free_other at (omega arith)))
      (λ e. rw (stamp_other n e, free_less n (omega arith) h z f) (swap (eqb (stamp u n) 0) (free (set u (stamps_at + at) v) n)))
    where
      swap : (b : Bool) (x : ℕ) → cond b (suc (suc x)) (suc x) ≡ suc (cond b (suc x) x)
      swap true x = refl
      swap false x = refl
