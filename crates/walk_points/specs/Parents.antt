-- The parents of regions, in 128 words of the work slice: 0 for a region that is no child, else 1 + the number of the node
-- whose child it is. Assumes nothing.
--     parent_is, parent_has, parent_none     what a region's word says of a checked tree
--     names_more      a node's children, written one after the other
--     parents-..      the table, filled from the last node to the first
use Rattle.std.specs.Prelude.{◌≡◌, refl, Bool, true, false, cond, List, [], ◌∷◌, ℕ, zero, suc, ◌+◌, ◌≤◌, ◌<◌, length, get_or, set, drop}
use Rattle.std.proofs.Common.{sym, ap, subst, ◌∙◌, add-one, arith, get_or-set_same, get_or-set_other}
use Rattle.std.proofs.Math.Decide.{ℕ_discrete}
use Rattle.std.proofs.Math.Seq.{drop-length}
use Rattle.general_laws.specs.Lists.{choose_yes, choose_no, within}
use Rattle.lifting.specs.Ast.{Node, block, Func}
use Rattle.lifting.specs.Parts.{node_of, children_of}
use Rattle.general_laws.specs.Members.{In, in_within, within_yes, within_no}
use Rattle.lifting_runs.specs.Accepted.{Forest, Root}
use Rattle.work.specs.Layout.{parents_at, parents_end}
use Rattle.general_laws.specs.Tests.{split}
use Rattle.work.specs.Aside.{Cleared}
use Rattle.walk_roots.specs.Tables.{drop_one}

-- a region's word by a list of nodes whose numbers begin at i
abbrev pub first_parent : ℕ → ℕ → List Node → ℕ
first_parent r i [] = 0
first_parent r i (x ∷ l) = cond (within r (children_of x)) (suc i) (first_parent r (suc i) l)

-- 0, or 1 + the first node that has the region as a child
abbrev pub parent_word : Func → ℕ → ℕ
parent_word F r = first_parent r 0 F.nodes

pub record Parents (F : Func) (w : List ℕ) : Type 0 where
  pub word : (r : ℕ) → r < 128 → get_or w (parents_at + r) 0 ≡ parent_word F r

-- the words of all regions are 0
pub record Empty (w : List ℕ) : Type 0 where
  pub word : (r : ℕ) → r < 128 → get_or w (parents_at + r) 0 ≡ 0

-- the words of node n's children name it, and the others stay
pub record Adopted (F : Func) (n : ℕ) (w u : List ℕ) : Type 0 where
  pub word : (r : ℕ) → r < 128 → get_or u (parents_at + r) 0 ≡ cond (within r (children_of (node_of F n))) (n + 1) (get_or w (parents_at + r) 0)

-- ---- what a word says

module _ (r : ℕ) where
  first_is : (l : List Node) (i n : ℕ) → n < length l → In r (children_of (get_or l n (block [])))
      → ((k : ℕ) → k < n → ¬ (In r (children_of (get_or l k (block []))))) → first_parent r i l ≡ suc (i + n)
  first_is [] i n h c other = absurd (omega arith)
  first_is (x ∷ l) i zero h c other = ap (λ (b : Bool). cond b (suc i) (first_parent r (suc i) l)) (within_yes r (children_of x) c) ∙ omega arith
  first_is (x ∷ l) i (suc n) h c other =
      ap (λ (b : Bool). cond b (suc i) (first_parent r (suc i) l)) (within_no r (children_of x) (other zero (omega arith)))
      ∙ first_is l (suc i) n (omega arith) c (λ k z. other (suc k) (omega arith))
      ∙ omega arith

  first_none : (l : List Node) (i : ℕ) → ((n : ℕ) → ¬ (In r (children_of (get_or l n (block []))))) → first_parent r i l ≡ 0
  first_none [] i none = refl
  first_none (x ∷ l) i none =
      ap (λ (b : Bool). cond b (suc i) (first_parent r (suc i) l)) (within_no r (children_of x) (none zero))
      ∙ first_none l (suc i) (λ n. none (suc n))

  first_has : (l : List Node) (i p : ℕ) → first_parent r i l ≡ suc p → (n : ℕ) × (p ≡ i + n) × (n < length l) × In r (children_of (get_or l n (block [])))
  first_has [] i p e = absurd (omega arith)
  first_has (x ∷ l) i p e = by_case (within r (children_of x)) refl e (first_has l (suc i) p)
    where
      by_case : (b : Bool) → within r (children_of x) ≡ b → cond b (suc i) (first_parent r (suc i) l) ≡ suc p
          → (first_parent r (suc i) l ≡ suc p → (n : ℕ) × (p ≡ suc i + n) × (n < length l) × In r (children_of (get_or l n (block []))))
          → (n : ℕ) × (p ≡ i + n) × (n < suc (length l)) × In r (children_of (get_or (x ∷ l) n (block [])))
      by_case true h e ih = (0, omega arith, omega arith, in_within r (children_of x) h)
      by_case false h e ih = let f = ih e in (suc f.0, omega (arith, f.1), omega (arith, f.2), f.3)

pub parent_is : {F : Func} → Forest F → (n c : ℕ) → n < length F.nodes → In c (children_of (node_of F n)) → parent_word F c ≡ 1 + n
parent_is {F} t n c h i = first_is c F.nodes 0 n h i (λ k l j. omega (arith, t.child_once k n c j i)) ∙ omega arith

pub parent_has : (F : Func) (c n : ℕ) → parent_word F c ≡ 1 + n → (n < length F.nodes) × In c (children_of (node_of F n))
parent_has F c n e =
    let f = first_has c F.nodes 0 n (e ∙ omega arith) in
    let q : f.0 ≡ n = omega (arith, f.1) in
    (omega (arith, f.2), subst (λ (k : ℕ). In c (children_of (node_of F k))) q f.3)

pub parent_none : (F : Func) (r : ℕ) → Root F r → parent_word F r ≡ 0
parent_none F r h = first_none r F.nodes 0 h

-- ---- the table is filled

pub empty_cleared : {w u : List ℕ} → Cleared parents_at parents_end w u → Empty u
empty_cleared k = record { word = λ r h. k.blank (parents_at + r) (omega arith) (omega arith) }

-- the children of a list name n
abbrev pub Names : ℕ → List ℕ → List ℕ → List ℕ → Type 0
Names n l w u = (r : ℕ) → r < 128 → get_or u (parents_at + r) 0 ≡ cond (within r l) (n + 1) (get_or w (parents_at + r) 0)

pub names_more : (n : ℕ) (l w u : List ℕ) → Names n l w u → (c : ℕ) → c < 128 → parents_end ≤ length u → Names n (c ∷ l) w (set u (parents_at + c) (n + 1))
names_more n l w u k c h z r g =
    split (ℕ_discrete r c)
    (λ e.
    ap (λ (y : ℕ). get_or (set u (parents_at + c) (n + 1)) (parents_at + y) 0) e
    ∙ get_or-set_same u (parents_at + c) (n + 1) 0 (omega arith)
    ∙ sym (ap (λ (b : Bool). cond b (n + 1) (get_or w (parents_at + r) 0)) (choose_yes (ℕ_discrete r c) true (within r l) e)))
    (λ e.
    get_or-set_other u (parents_at + c) (parents_at + r) (n + 1) 0 (λ y. e (omega arith))
    ∙ k r g
    ∙ sym (ap (λ (b : Bool). cond b (n + 1) (get_or w (parents_at + r) 0)) (choose_no (ℕ_discrete r c) true (within r l) e)))

-- the table of the nodes from node i on
abbrev pub ParentsFrom : Func → ℕ → List ℕ → Type 0
ParentsFrom F i w = (r : ℕ) → r < 128 → get_or w (parents_at + r) 0 ≡ first_parent r i (drop i F.nodes)

pub parents_first : {w : List ℕ} → Empty w → (F : Func) → ParentsFrom F (length F.nodes) w
parents_first k F r h = k.word r h ∙ ap (first_parent r (length F.nodes)) (sym (drop-length F.nodes))

pub parents_more : (F : Func) (i : ℕ) (w u : List ℕ) → i < length F.nodes → ParentsFrom F (i + 1) w → Adopted F i w u → ParentsFrom F i u
parents_more F i w u h k a r l =
    a.word r l
    ∙ ap (λ (y : ℕ). cond (within r (children_of (node_of F i))) y (get_or w (parents_at + r) 0)) (add-one i)
    ∙ ap (λ (y : ℕ). cond (within r (children_of (node_of F i))) (suc i) y) (k r l ∙ ap (λ (y : ℕ). first_parent r y (drop (i + 1) F.nodes)) (add-one i))
    ∙ ap (first_parent r i) (sym (drop_one F.nodes i (block []) h))
