-- Points by number, and where the walk leaves them in the work slice: 512 words. Assumes nothing.
--     point_back, number_back    the number of a point says which it is, and each number is a point's
--     point_low      a point of a text has a number below 512
--     visited_sets    words that hold the numbers of points say these points
--     visited_at, visited_word    one of the points, and the word that says it
--     points_few      points that stand once each are at most 512
use Rattle.std.specs.Prelude.{◌≡◌, refl, Bool, true, false, cond, List, [], ◌∷◌, map, ℕ, zero, suc, ◌+◌, ◌*◌, ◌-◌, ◌/◌, ◌%◌, ◌≤◌, ◌<◌, eqb, ltb, length, get_or, set}
use Rattle.std.proofs.Common.{sym, ap, subst, ◌∙◌, arith, length-set, get_or-set_same, eqb-true, ltb-true, ltb-false, eq-eqb, ne_eqb, lt-ltb, le-ltb}
use Rattle.std.proofs.lemmas.List.{length-map}
use Rattle.std.proofs.lemmas.List.Edits.{sets}
use Rattle.std.proofs.lemmas.Bool.{eqb-false}
use Rattle.general_laws.specs.Part.{at_before}
use Rattle.general_laws.specs.Lists.{tabulate}
use Rattle.lifting.specs.Points.{CfgPoint, region_entry, region_exit, node_entry, node_exit}
use Rattle.general_laws.specs.Members.{In, All, NoDup, map_in, all_in}
use Rattle.work.specs.Layout.{points_at}
use Rattle.general_laws.specs.Fewer.{fewer_below}

-- the first number of a node's point
abbrev pub node_base : ℕ
node_base = 256

abbrev pub point_number : CfgPoint → ℕ
point_number (region_entry r) = 2 * r
point_number (region_exit r) = 2 * r + 1
point_number (node_entry n) = node_base + 2 * n
point_number (node_exit n) = node_base + 2 * n + 1

-- the entry for an even number, the exit for an odd one
abbrev side : (ℕ → CfgPoint) → (ℕ → CfgPoint) → ℕ → CfgPoint
side a b x = cond (eqb (x % 2) 0) (a (x / 2)) (b (x / 2))

unfoldable pub point_of : ℕ → CfgPoint
point_of x = cond (ltb x node_base) (side region_entry region_exit x) (side node_entry node_exit (x - node_base))

-- its region or node is one of at most 128
abbrev pub Small : CfgPoint → Type 0
Small (region_entry r) = r < 128
Small (region_exit r) = r < 128
Small (node_entry n) = n < 128
Small (node_exit n) = n < 128

-- the first m words from `points_at` on
abbrev pub visited : List ℕ → ℕ → List CfgPoint
visited w m = tabulate (λ i. point_of (get_or w i 0)) points_at m

side_even : (a b : ℕ → CfgPoint) (x n : ℕ) → x ≡ 2 * n → side a b x ≡ a n
side_even a b x n e =
    ap (λ (t : Bool). cond t (a (x / 2)) (b (x / 2))) (eq-eqb (x % 2) 0 (omega arith)) ∙ ap a (omega arith)

side_odd : (a b : ℕ → CfgPoint) (x n : ℕ) → x ≡ 2 * n + 1 → side a b x ≡ b n
side_odd a b x n e =
    ap (λ (t : Bool). cond t (a (x / 2)) (b (x / 2))) (ne_eqb (x % 2) 0 (λ z. omega arith)) ∙ ap b (omega arith)

low_point : (x : ℕ) → x < node_base → point_of x ≡ side region_entry region_exit x
unfolding point_of
low_point x h = ap (λ (t : Bool). cond t (side region_entry region_exit x) (side node_entry node_exit (x - node_base))) (lt-ltb x node_base h)

high_point : (x : ℕ) → node_base ≤ x → point_of x ≡ side node_entry node_exit (x - node_base)
unfolding point_of
high_point x h = ap (λ (t : Bool). cond t (side region_entry region_exit x) (side node_entry node_exit (x - node_base))) (le-ltb x node_base h)

pub point_back : (p : CfgPoint) → Small p → point_of (point_number p) ≡ p
point_back (region_entry r) h = low_point (2 * r) (omega arith) ∙ side_even region_entry region_exit (2 * r) r refl
point_back (region_exit r) h = low_point (2 * r + 1) (omega arith) ∙ side_odd region_entry region_exit (2 * r + 1) r refl
point_back (node_entry n) h = high_point (node_base + 2 * n) (omega arith) ∙ side_even node_entry node_exit (node_base + 2 * n - node_base) n (omega arith)
point_back (node_exit n) h = high_point (node_base + 2 * n + 1) (omega arith) ∙ side_odd node_entry node_exit (node_base + 2 * n + 1 - node_base) n (omega arith)

region_side : (x : ℕ) → point_number (side region_entry region_exit x) ≡ x
region_side x = go (eqb (x % 2) 0) refl
  where
    go : (b : Bool) → eqb (x % 2) 0 ≡ b → point_number (cond b (region_entry (x / 2)) (region_exit (x / 2))) ≡ x
    go true e = omega (arith, eqb-true (x % 2) 0 e)
    go false e = let h : ¬ (x % 2 ≡ 0) = eqb-false (x % 2) 0 e in omega arith

node_side : (x : ℕ) → point_number (side node_entry node_exit x) ≡ node_base + x
node_side x = go (eqb (x % 2) 0) refl
  where
    go : (b : Bool) → eqb (x % 2) 0 ≡ b → point_number (cond b (node_entry (x / 2)) (node_exit (x / 2))) ≡ node_base + x
    go true e = omega (arith, eqb-true (x % 2) 0 e)
    go false e = let h : ¬ (x % 2 ≡ 0) = eqb-false (x % 2) 0 e in omega arith

pub number_back : (x : ℕ) → point_number (point_of x) ≡ x
number_back x = go (ltb x node_base) refl
  where
    go : (b : Bool) → ltb x node_base ≡ b → point_number (point_of x) ≡ x
    go true e = ap point_number (low_point x (ltb-true x node_base e)) ∙ region_side x
    go false e = let h : node_base ≤ x = ltb-false x node_base e in ap point_number (high_point x h) ∙ node_side (x - node_base) ∙ omega arith

pub point_low : (p : CfgPoint) → Small p → point_number p < 512
point_low (region_entry r) h = omega arith
point_low (region_exit r) h = omega arith
point_low (node_entry n) h = omega arith
point_low (node_exit n) h = omega arith

-- ---- what the words say

shown : (w : List ℕ) (a : ℕ) (ps : List CfgPoint) → All Small ps → a + length ps ≤ length w
    → tabulate (λ i. point_of (get_or (sets w a (map point_number ps)) i 0)) a (length ps) ≡ ps
shown w a [] small h = refl
shown w a (p ∷ ps) small h =
    let v : List ℕ = set w a (point_number p) in
    let first : get_or (sets v (suc a) (map point_number ps)) a 0 ≡ point_number p =
    at_before v (map point_number ps) (suc a) a (omega arith) ∙ get_or-set_same w a (point_number p) 0 (omega arith) in
    ap (λ (x : ℕ). point_of x ∷ tabulate (λ i. point_of (get_or (sets v (suc a) (map point_number ps)) i 0)) (suc a) (length ps)) first
    ∙ ap (λ (q : CfgPoint). q ∷ tabulate (λ i. point_of (get_or (sets v (suc a) (map point_number ps)) i 0)) (suc a) (length ps)) (point_back p small.0)
    ∙ ap (λ (l : List CfgPoint). p ∷ l) (shown v (suc a) ps small.1 (omega (arith, length-set w a (point_number p))))

pub visited_sets : (w : List ℕ) (ps : List CfgPoint) → All Small ps → points_at + length ps ≤ length w
    → visited (sets w points_at (map point_number ps)) (length ps) ≡ ps
visited_sets w ps small h = shown w points_at ps small h

pub get_d_tabulate : {A : Type 0} (f : ℕ → A) (a n i : ℕ) (d : A) → i < n → get_or (tabulate f a n) i d ≡ f (a + i)
get_d_tabulate f a zero i d h = absurd (omega arith)
get_d_tabulate f a (suc n) zero d h = ap f (omega arith)
get_d_tabulate f a (suc n) (suc i) d h = get_d_tabulate f (suc a) n i d (omega arith) ∙ ap f (omega arith)

module _ (w : List ℕ) (m : ℕ) (ps : List CfgPoint) (e : visited w m ≡ ps) (i : ℕ) (h : i < m) (d : CfgPoint) where
  pub visited_at : get_or ps i d ≡ point_of (get_or w (points_at + i) 0)
  visited_at = ap (λ (l : List CfgPoint). get_or l i d) (sym e) ∙ get_d_tabulate (λ j. point_of (get_or w j 0)) points_at m i d h

  pub visited_word : get_or w (points_at + i) 0 ≡ point_number (get_or ps i d)
  visited_word = sym (ap point_number visited_at ∙ number_back (get_or w (points_at + i) 0))

-- ---- how many they are

numbers_low : (ps : List CfgPoint) → All Small ps → All (λ x. x < 512) (map point_number ps)
numbers_low [] small = tt
numbers_low (p ∷ ps) small = (point_low p small.0, numbers_low ps small.1)

numbers_once : (ps : List CfgPoint) → All Small ps → NoDup ps → NoDup (map point_number ps)
numbers_once [] small once = tt
numbers_once (p ∷ ps) small once = (
  λ i.
      let q = map_in point_number ps i in
      let e : p ≡ q.0 = sym (point_back p small.0) ∙ ap point_of q.2 ∙ point_back q.0 (all_in Small ps small.1 q.0 q.1) in
      once.0 (subst (λ (x : CfgPoint). In x ps) (sym e) q.1),
  numbers_once ps small.1 once.1,
)

pub points_few : (ps : List CfgPoint) → All Small ps → NoDup ps → length ps ≤ 512
points_few ps small once = omega (arith, fewer_below 512 (map point_number ps) (numbers_once ps small once) (numbers_low ps small), length-map ps point_number)
