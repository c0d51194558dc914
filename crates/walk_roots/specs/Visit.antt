-- The walk of the roots in the words of the work slice: its marks, and at the end of their table the roots that are done, the last one first. Assumes nothing.
--     unseen-..      how many regions have no mark
--     ahead_all      targets last to first, one at a time
--     listed_more    one more root is done
use Rattle.std.specs.Prelude.{◌≡◌, refl, Bool, true, false, cond, ℕ, zero, suc, ◌+◌, ◌-◌, ◌≤◌, ◌<◌, eqb, length, get_or, set}
use Rattle.std.proofs.Common.{sym, ap, ◌∙◌, arith, get_or-set_same, get_or-set_other, eq-eqb, ne_eqb}
use mathlib.Core.List.{List, [], ◌∷◌, ◌++◌, reverse, reverse_aux, append-nil, append_assoc}
use Rattle.std.proofs.Math.Decide.{ℕ_discrete}
use Rattle.general_laws.specs.Lists.{tabulate}
use Rattle.lifting.specs.Ast.{Func}
use Rattle.lifting.specs.Parts.{ctrl_of}
use Rattle.lifting.specs.Order.{Seen, targets_of, visit}
use Rattle.func.specs.Decode.{func_of}
use Rattle.func.specs.Tables.{Tables}
use Rattle.work.specs.Layout.{roots_end, lines_at, marks_at, tables_end}
use Rattle.general_laws.specs.Tests.{split}
use Rattle.work.specs.Aside.{Aside}
use Rattle.walk_roots.specs.Tables.{RegionsNamed, Indexed, RegionsMarked}

-- the targets of a root
abbrev pub ways : Func → ℕ → List ℕ
ways F r = targets_of (ctrl_of F r)

-- the last n words of the table of roots
abbrev pub last_roots : List ℕ → ℕ → List ℕ
last_roots w n = tabulate (λ i. get_or w i 0) (roots_end - n) n

-- how many of the first n regions have no mark
unfoldable pub unseen : List ℕ → ℕ → ℕ
unseen w zero = 0
unseen w (suc n) = cond (eqb (get_or w (marks_at + n) 0) 0) 1 0 + unseen w n

-- the walk has seen and done what the words say
pub record WalkStands (w : List ℕ) (n : ℕ) (s : Seen) : Type 0 where
  pub marks : RegionsMarked marks_at s.seen w
  pub order : last_roots w n ≡ s.order

-- each of the n words before `roots_end` names a region
pub record RootsLow (F : Func) (w : List ℕ) (n : ℕ) : Type 0 where
  pub word : (x : ℕ) → roots_end - n ≤ x → x < roots_end → get_or w x 0 < length F.regions

-- what a visit of r asks: there is room for every region that is not marked
pub record WalkReady (func w : List ℕ) (r n : ℕ) : Type 0 where
  pub tables : Tables func
  pub named : RegionsNamed (func_of func)
  pub lines : Indexed (func_of func) w
  pub size : tables_end ≤ length w
  pub known : r < length (func_of func).regions
  pub fresh : get_or w (marks_at + r) 0 ≡ 0
  pub room : n + unseen w (length (func_of func).regions) ≤ length (func_of func).regions
  pub low : RootsLow (func_of func) w n

-- what it leaves: any depth from the count of the regions that are not marked on says the same
pub record RootsVisited (F : Func) (w : List ℕ) (r n : ℕ) (u : List ℕ) (m : ℕ) : Type 0 where
  pub reach : (k : ℕ) (s : Seen) → unseen w (length F.regions) ≤ k → WalkStands w n s → WalkStands u m (visit F k r s)
  pub room : m + unseen u (length F.regions) ≤ n + unseen w (length F.regions)
  pub less : unseen u (length F.regions) ≤ unseen w (length F.regions)
  pub lines : (x : ℕ) → x < 128 → get_or u (lines_at + x) 0 ≡ get_or w (lines_at + x) 0
  pub low : RootsLow F u m
  pub above : Aside 0 tables_end w u

-- ---- regions without a mark

pub unseen_same : (w u : List ℕ) (n : ℕ) → ((x : ℕ) → x < n → get_or u (marks_at + x) 0 ≡ get_or w (marks_at + x) 0) → unseen u n ≡ unseen w n
unfolding unseen
unseen_same w u zero a = refl
unseen_same w u (suc n) a =
    ap (λ (x : ℕ). cond (eqb x 0) 1 0 + unseen u n) (a n (omega arith))
    ∙ ap (λ (x : ℕ). cond (eqb (get_or w (marks_at + n) 0) 0) 1 0 + x) (unseen_same w u n (λ x l. a x (omega arith)))

pub unseen_set : (w : List ℕ) (t n : ℕ) → t < n → marks_at + t < length w → get_or w (marks_at + t) 0 ≡ 0 → unseen w n ≡ suc (unseen (set w (marks_at + t) 1) n)
unfolding unseen
unseen_set w t zero h l q = absurd (omega arith)
unseen_set w t (suc n) h l q =
    split (ℕ_discrete n t)
    (λ e.
    let here : get_or v (marks_at + n) 0 ≡ 1 = ap (λ (y : ℕ). get_or v (marks_at + y) 0) e ∙ get_or-set_same w (marks_at + t) 1 0 l in
    let was : one w ≡ 1 = ap (λ (b : Bool). cond {A = ℕ} b 1 0) (eq-eqb (get_or w (marks_at + n) 0) 0 (ap (λ (y : ℕ). get_or w (marks_at + y) 0) e ∙ q)) in
    let is : one v ≡ 0 = ap (λ (b : Bool). cond {A = ℕ} b 1 0) (ne_eqb (get_or v (marks_at + n) 0) 0 (λ z. omega arith)) in
    omega (arith, unseen_same w v n (λ x g. get_or-set_other w (marks_at + t) (marks_at + x) 1 0 (λ z. omega arith))))
    (λ e.
    let same : one v ≡ one w = ap (λ (x : ℕ). cond {A = ℕ} (eqb x 0) 1 0) (get_or-set_other w (marks_at + t) (marks_at + n) 1 0 (λ z. e (omega arith))) in
    omega (arith, unseen_set w t n (omega arith) l q))
  where
    v : List ℕ
    v = set w (marks_at + t) 1

    one : List ℕ → ℕ
    one u = cond (eqb (get_or u (marks_at + n) 0) 0) 1 0

pub unseen_most : (w : List ℕ) (n : ℕ) → unseen w n ≤ n
unfolding unseen
unseen_most w zero = omega arith
unseen_most w (suc n) = go (eqb (get_or w (marks_at + n) 0) 0) (unseen_most w n)
  where
    go : (b : Bool) → unseen w n ≤ n → cond {A = ℕ} b 1 0 + unseen w n ≤ suc n
    go true h = omega arith
    go false h = omega arith

-- ---- targets last to first

-- the first n elements, last to first
abbrev pub ahead : List ℕ → ℕ → List ℕ
ahead l zero = []
ahead l (suc n) = get_or l n 0 ∷ ahead l n

ahead_cons : (x : ℕ) (l : List ℕ) (n : ℕ) → ahead (x ∷ l) (suc n) ≡ ahead l n ++ (x ∷ [])
ahead_cons x l zero = refl
ahead_cons x l (suc n) = ap (λ (k : List ℕ). get_or l n 0 ∷ k) (ahead_cons x l n)

ahead_aux : (l k : List ℕ) → ahead l (length l) ++ k ≡ reverse_aux l k
ahead_aux [] k = refl
ahead_aux (x ∷ l) k =
    ap (λ (z : List ℕ). z ++ k) (ahead_cons x l (length l))
    ∙ append_assoc (ahead l (length l)) (x ∷ []) k
    ∙ ahead_aux l (x ∷ k)

pub ahead_all : (l : List ℕ) → ahead l (length l) ≡ reverse l
ahead_all l = sym (append-nil (ahead l (length l))) ∙ ahead_aux l []

-- ---- the roots that are done

tab_same : (f g : ℕ → ℕ) (a n : ℕ) → ((i : ℕ) → a ≤ i → i < a + n → f i ≡ g i) → tabulate f a n ≡ tabulate g a n
tab_same f g a zero h = refl
tab_same f g a (suc n) h =
    ap (λ (z : ℕ). z ∷ tabulate f (suc a) n) (h a (omega arith) (omega arith))
    ∙ ap (λ (l : List ℕ). g a ∷ l) (tab_same f g (suc a) n (λ i l b. h i (omega arith) (omega arith)))

module _ (w u : List ℕ) (n : ℕ) (h : n ≤ roots_end) (same : (x : ℕ) → roots_end - n ≤ x → x < roots_end → get_or u x 0 ≡ get_or w x 0) where
  pub listed_same : last_roots u n ≡ last_roots w n
  listed_same = tab_same (λ i. get_or u i 0) (λ i. get_or w i 0) (roots_end - n) n (λ i l b. same i l (omega arith))

-- one more
pub listed_more : (w : List ℕ) (n r : ℕ) → n < roots_end → roots_end - 1 - n < length w → last_roots (set w (roots_end - 1 - n) r) (n + 1) ≡ r ∷ last_roots w n
listed_more w n r h z =
    let u = set w (roots_end - 1 - n) r in
    let one : n + 1 ≡ suc n = omega arith in
    let a : roots_end - suc n ≡ roots_end - 1 - n = omega arith in
    let b : suc (roots_end - 1 - n) ≡ roots_end - n = omega arith in
    ap (λ (y : ℕ). last_roots u y) one
    ∙ ap (λ (y : ℕ). tabulate (λ i. get_or u i 0) y (suc n)) a
    ∙ ap (λ (y : ℕ). y ∷ tabulate (λ i. get_or u i 0) (suc (roots_end - 1 - n)) n) (get_or-set_same w (roots_end - 1 - n) r 0 z)
    ∙ ap (λ (y : ℕ). r ∷ tabulate (λ i. get_or u i 0) y n) b
    ∙ ap (λ (l : List ℕ). r ∷ l) (listed_same w u n (omega arith) (λ i l g. get_or-set_other w (roots_end - 1 - n) i r 0 (λ y. omega arith)))
