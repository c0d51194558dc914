-- Chains of edges in the work slice: the first edge into each of 512 points, and of each of 1,024 edges the next one and where it comes from. Edges
-- are numbered as they are linked. Assumes nothing.
--     link_length, link_aside, link_append    what linking leaves, and how it goes on
--     chain_next      a chain, edge by edge: the next edge has a smaller number
--     chain_linked, linked_all    the chains hold the edges into each point, in order
--     rest-..         a walk along a chain
use Rattle.std.specs.Prelude.{◌≡◌, refl, get_or, set}
use Rattle.std.proofs.Common.{sym, ◌∙◌, length-append, length-set, get_or-set_other, get_or-set_same}
use Rattle.std.proofs.Math.Path.{ap, subst}
use mathlib.Core.List.{List, [], ◌∷◌, ◌++◌, append_assoc, append-nil}
use Prim.Native.Nat.{ℕ, zero, suc, ◌+◌, ◌-◌, ◌*◌, ◌/◌, ◌%◌, ◌≤◌, ◌<◌}
use Rattle.std.proofs.Math.Decide.{ℕ_discrete}
use native.Mathlib.Omega.{arith}
use Rattle.std.proofs.Math.ListN.{length}
use Rattle.general_laws.specs.Lists.{choose}
use Rattle.lifting.specs.Ast.{Func}
use Rattle.lifting.specs.Points.{CfgPoint, eq_point}
use Rattle.general_laws.specs.Members.{All, In, here, in_right}
use Rattle.work.specs.Layout.{heads_at, nexts_at, origins_at, origins_end}
use Rattle.general_laws.specs.Tests.{split}
use Rattle.work.specs.Aside.{Aside, Cleared, aside_none, aside_set}
use Rattle.walk_points.specs.Numbers.{Small, point_low, point_back, point_number, point_of}
use Rattle.emit_edge_ends.specs.Ends.{Edge, edges_from, edges_into, edges_to}

-- a word of the origins: position and entry
abbrev pub origin_word : ℕ → ℕ → ℕ
origin_word i k = i * 1024 + k

-- an edge with number e to the point with number q, with the origin o, becomes the first of its point
abbrev pub link_at : ℕ → ℕ → ℕ → List ℕ → List ℕ
link_at q o e w = set (set (set w (nexts_at + e) (get_or w (heads_at + q) 0)) (origins_at + e) o) (heads_at + q) (e + 1)

-- edges are linked from the last to the first, where e edges are linked already
unfoldable pub link_all : List Edge → ℕ → List ℕ → List ℕ
link_all [] e w = w
link_all (x ∷ l) e w = link_at (point_number x.to) (origin_word x.from x.entry) (e + length l) (link_all l e w)

-- all edges between kept blocks, from the last position to the first
unfoldable pub linked : Func → List ℕ → List ℕ
unfolding edges_from link_all
linked F w = link_all (edges_from F 0) 0 w

-- no edge is linked: the words of first and of next edges are clear
pub record Unlinked (w : List ℕ) : Type 0 where
  pub word : (x : ℕ) → heads_at ≤ x → x < origins_at → get_or w x 0 ≡ 0

-- from the words w on: these are cleared, and the edges linked
pub record LinkedFrom (F : Func) (w u : List ℕ) : Type 0 where
  pub blank : List ℕ
  pub cleared : Cleared heads_at origins_at w blank
  pub words : u ≡ linked F blank

-- ---- chains

-- where edge e comes from, position and entry; and 1 + the number of the next edge into the same point, or 0 for none
abbrev pub origin_at : List ℕ → ℕ → ℕ × ℕ
origin_at u e = (get_or u (origins_at + e) 0 / 1024, get_or u (origins_at + e) 0 % 1024)

abbrev pub next_at : List ℕ → ℕ → ℕ
next_at u e = get_or u (nexts_at + e) 0

-- at most n edges, from the edge whose number is one below h on
abbrev pub along : ℕ → List ℕ → ℕ → List (ℕ × ℕ)
along zero u h = []
along (suc n) u zero = []
along (suc n) u (suc e) = origin_at u e ∷ along n u (next_at u e)

-- all of them: a next edge has a smaller number
unfoldable pub chain : List ℕ → ℕ → List (ℕ × ℕ)
chain u h = along h u h

-- the words can be walked along: they hold numbers of edges, and a next edge has a smaller number
pub record Chained (u : List ℕ) : Type 0 where
  pub size : origins_end ≤ length u
  pub heads : (q : ℕ) → q < 512 → get_or u (heads_at + q) 0 ≤ 1024
  pub falls : (e : ℕ) → e < 1024 → next_at u e ≤ e

-- the chains hold the edges into each point
pub record Linked (F : Func) (u : List ℕ) : Type 0 where
  pub chained : Chained u
  pub edges : (q : CfgPoint) → Small q → chain u (get_or u (heads_at + point_number q) 0) ≡ edges_into F q 0

-- ---- one edge more

pub length_link : (q o e : ℕ) (w : List ℕ) → length (link_at q o e w) ≡ length w
length_link q o e w =
    let one : List ℕ = set w (nexts_at + e) (get_or w (heads_at + q) 0) in
    length-set (set one (origins_at + e) o) (heads_at + q) (e + 1) ∙ length-set one (origins_at + e) o ∙ length-set w (nexts_at + e) (get_or w (heads_at + q) 0)

module _ (q o e : ℕ) (w : List ℕ) (lq : q < 512) (le : e < 1024) where
  abbrev one : List ℕ
  one = set w (nexts_at + e) (get_or w (heads_at + q) 0)

  abbrev two : List ℕ
  two = set one (origins_at + e) o

  -- words that are none of the three
  pub link_other : (x : ℕ) → ¬ (x ≡ heads_at + q) → ¬ (x ≡ nexts_at + e) → ¬ (x ≡ origins_at + e) → get_or (link_at q o e w) x 0 ≡ get_or w x 0
  link_other x a b c =
      get_or-set_other two (heads_at + q) x (e + 1) 0 a
      ∙ get_or-set_other one (origins_at + e) x o 0 c
      ∙ get_or-set_other w (nexts_at + e) x (get_or w (heads_at + q) 0) 0 b

  module _ (z : origins_end ≤ length w) where
    pub link_head : get_or (link_at q o e w) (heads_at + q) 0 ≡ e + 1
    link_head =
        get_or-set_same two (heads_at + q) (e + 1) 0 (omega (arith, length-set one (origins_at + e) o, length-set w (nexts_at + e) (get_or w (heads_at + q) 0)))

    pub link_origin : get_or (link_at q o e w) (origins_at + e) 0 ≡ o
    link_origin =
        get_or-set_other two (heads_at + q) (origins_at + e) (e + 1) 0 (λ y. omega arith)
        ∙ get_or-set_same one (origins_at + e) o 0 (omega (arith, length-set w (nexts_at + e) (get_or w (heads_at + q) 0)))

    pub link_next : next_at (link_at q o e w) e ≡ get_or w (heads_at + q) 0
    link_next =
        get_or-set_other two (heads_at + q) (nexts_at + e) (e + 1) 0 (λ y. omega arith)
        ∙ get_or-set_other one (origins_at + e) (nexts_at + e) o 0 (λ y. omega arith)
        ∙ get_or-set_same w (nexts_at + e) (get_or w (heads_at + q) 0) 0 (omega arith)

-- ---- edges one after the other

-- an edge that the words can hold
pub record Held (x : Edge) : Type 0 where
  pub small : Small x.to
  pub low : x.entry < 1024

pub link_length : (l : List Edge) (e : ℕ) (w : List ℕ) → length (link_all l e w) ≡ length w
unfolding link_all
link_length [] e w = refl
link_length (x ∷ l) e w =
    length_link (point_number x.to) (origin_word x.from x.entry) (e + length l) (link_all l e w) ∙ link_length l e w

pub link_append : (k l : List Edge) (e : ℕ) (w : List ℕ) → link_all (k ++ l) e w ≡ link_all k (e + length l) (link_all l e w)
unfolding link_all
link_append [] l e w = refl
link_append (x ∷ k) l e w =
    let n : e + length (k ++ l) ≡ e + length l + length k = omega (arith, length-append k l) in
    ap (λ (y : ℕ). link_at (point_number x.to) (origin_word x.from x.entry) y (link_all (k ++ l) e w)) n
    ∙ ap (link_at (point_number x.to) (origin_word x.from x.entry) (e + length l + length k)) (link_append k l e w)

pub link_aside : (l : List Edge) (e : ℕ) (w : List ℕ) → All Held l → e + length l ≤ 1024 → Aside heads_at origins_end w (link_all l e w)
unfolding link_all
link_aside [] e w a h = aside_none heads_at origins_end w
link_aside (x ∷ l) e w a h =
    let q : point_number x.to < 512 = point_low x.to a.0.small in
    aside_set
    (aside_set (aside_set (link_aside l e w a.1 (omega arith)) (nexts_at + (e + length l)) _ (omega arith) (omega arith)) (origins_at + (e + length l)) _ (omega arith) (omega arith))
    (heads_at + point_number x.to) _ (omega arith) (omega arith)

-- the words of n edges
record Built (n : ℕ) (u : List ℕ) : Type 0 where
  size : origins_end ≤ length u
  heads : (q : ℕ) → q < 512 → get_or u (heads_at + q) 0 ≤ n
  falls : (e : ℕ) → e < 1024 → next_at u e ≤ e

built_none : {w : List ℕ} → Unlinked w → origins_end ≤ length w → Built 0 w
built_none k z = record {
  size = z;
  heads = λ q h. omega (arith, k.word (heads_at + q) (omega arith) (omega arith));
  falls = λ e h. omega (arith, k.word (nexts_at + e) (omega arith) (omega arith));
}

built_more : {n : ℕ} {u : List ℕ} → Built n u → (q o : ℕ) → q < 512 → n < 1024 → Built (suc n) (link_at q o n u)
built_more {n} {u} k q o lq ln = record {
  size = omega (arith, k.size, length_link q o n u);
  heads = λ r h. split (ℕ_discrete r q)
      (λ e. omega (arith, ap (λ (y : ℕ). get_or (link_at q o n u) (heads_at + y) 0) e, link_head q o n u lq ln k.size))
      (λ e. omega (arith, link_other q o n u lq ln (heads_at + r) (λ y. e (omega arith)) (λ y. omega arith) (λ y. omega arith), k.heads r h));
  falls = λ d h. split (ℕ_discrete d n)
      (λ e. omega (arith, e, ap (next_at (link_at q o n u)) e, link_next q o n u lq ln k.size, k.heads q lq))
      (λ e. omega (arith, link_other q o n u lq ln (nexts_at + d) (λ y. omega arith) (λ y. e (omega arith)) (λ y. omega arith), k.falls d h));
}

-- ---- chains

along_none : (n : ℕ) (u : List ℕ) → along n u 0 ≡ []
along_none zero u = refl
along_none (suc n) u = refl

-- where no next edge has a larger number, as many steps as that are enough
along_enough : (u : List ℕ) → ((e : ℕ) → e < 1024 → next_at u e ≤ e) → (n m h : ℕ) → h ≤ n → h ≤ m → h ≤ 1024 → along n u h ≡ along m u h
along_enough u f zero m h a b c = let z : h ≡ 0 = omega arith in sym (ap (along m u) z ∙ along_none m u)
along_enough u f (suc n) m zero a b c = sym (along_none m u)
along_enough u f (suc n) zero (suc e) a b c = absurd (omega arith)
along_enough u f (suc n) (suc m) (suc e) a b c =
    let l = f e (omega arith) in
    ap (λ (r : List (ℕ × ℕ)). origin_at u e ∷ r) (along_enough u f n m (next_at u e) (omega arith) (omega arith) (omega arith))

pub chain_none : (u : List ℕ) → chain u 0 ≡ []
unfolding chain
chain_none u = refl

step_on : (u : List ℕ) → ((e : ℕ) → e < 1024 → next_at u e ≤ e) → (e : ℕ) → e < 1024 → chain u (e + 1) ≡ origin_at u e ∷ chain u (next_at u e)
unfolding chain
step_on u f e h =
    let l = f e h in
    let s : e + 1 ≡ suc e = omega arith in
    ap (λ (y : ℕ). along y u y) s
    ∙ ap (λ (r : List (ℕ × ℕ)). origin_at u e ∷ r) (along_enough u f e (next_at u e) (next_at u e) l (omega arith) (omega arith))

pub chain_next : {u : List ℕ} → Chained u → (e : ℕ) → e < 1024 → (chain u (e + 1) ≡ origin_at u e ∷ chain u (next_at u e)) × (next_at u e < e + 1)
chain_next {u} k e h = (step_on u k.falls e h, omega (arith, k.falls e h))

-- a chain reads only the words of the edges below it
chain_same : (u v : List ℕ) (n : ℕ) → ((e : ℕ) → e < n → next_at v e ≡ next_at u e) → ((e : ℕ) → e < n → get_or v (origins_at + e) 0 ≡ get_or u (origins_at + e) 0)
    → ((e : ℕ) → e < n → next_at u e ≤ e) → (h : ℕ) → h ≤ n → chain v h ≡ chain u h
unfolding chain
chain_same u v n nexts origins falls h l = go h h l
  where
    go : (k h : ℕ) → h ≤ n → along k v h ≡ along k u h
    go zero h l = refl
    go (suc k) zero l = refl
    go (suc k) (suc e) l =
        let i : e < n = omega arith in
        let f = falls e i in
        ap (λ (o : ℕ). (o / 1024, o % 1024) ∷ along k v (next_at v e)) (origins e i)
        ∙ ap (λ (y : ℕ). origin_at u e ∷ along k v y) (nexts e i)
        ∙ ap (λ (r : List (ℕ × ℕ)). origin_at u e ∷ r) (go k (next_at u e) (omega arith))

-- one edge more leaves the chains of those before it
chain_older : {n : ℕ} {u : List ℕ} → Built n u → (q o : ℕ) → q < 512 → n < 1024 → (h : ℕ) → h ≤ n → chain (link_at q o n u) h ≡ chain u h
chain_older {n} {u} k q o lq ln h l =
    let other = link_other q o n u lq ln in
    chain_same u (link_at q o n u) n (λ e i. other (nexts_at + e) (λ y. omega arith) (λ y. omega arith) (λ y. omega arith))
    (λ e i. other (origins_at + e) (λ y. omega arith) (λ y. omega arith) (λ y. omega arith))
    (λ e i. k.falls e (omega arith)) h l

origin_back : (i k : ℕ) → k < 1024 → ◌≡◌ {A = ℕ × ℕ} (origin_word i k / 1024, origin_word i k % 1024) (i, k)
origin_back i k h =
    let a : origin_word i k / 1024 ≡ i = omega arith in
    let b : origin_word i k % 1024 ≡ k = omega arith in
    λ j. (a j, b j)

-- the chain of q, where x becomes the first edge of its point
module _ {n : ℕ} {u : List ℕ} (k : Built n u) (x : Edge) (held : Held x) (ln : n < 1024) (q : CfgPoint) (s : Small q) (l : List (ℕ × ℕ))
    (ih : chain u (get_or u (heads_at + point_number q) 0) ≡ l) where
  abbrev p : ℕ
  p = point_number x.to

  abbrev o : ℕ
  o = origin_word x.from x.entry

  abbrev v : List ℕ
  v = link_at p o n u

  lp : p < 512
  lp = point_low x.to held.small

  older : chain v (get_or u (heads_at + point_number q) 0) ≡ l
  older = chain_older k p o lp ln (get_or u (heads_at + point_number q) 0) (k.heads (point_number q) (point_low q s)) ∙ ih

  chain_more : (d : Dec (q ≡ x.to)) → chain v (get_or v (heads_at + point_number q) 0) ≡ choose d ((x.from, x.entry) ∷ []) [] ++ l
  chain_more (yes e) =
      let same : p ≡ point_number q = ap point_number (sym e) in
      let origin : origin_at v n ≡ (x.from, x.entry) = ap (λ (y : ℕ). (y / 1024, y % 1024)) (link_origin p o n u lp ln k.size) ∙ origin_back x.from x.entry held.low in
      ap (chain v) (ap (λ (y : ℕ). get_or v (heads_at + y) 0) (sym same) ∙ link_head p o n u lp ln k.size)
      ∙ step_on v (built_more k p o lp ln).falls n ln
      ∙ ap (λ (y : ℕ × ℕ). y ∷ chain v (next_at v n)) origin
      ∙ ap (λ (y : ℕ). (x.from, x.entry) ∷ chain v y) (link_next p o n u lp ln k.size ∙ ap (λ (y : ℕ). get_or u (heads_at + y) 0) same)
      ∙ ap (λ (r : List (ℕ × ℕ)). (x.from, x.entry) ∷ r) older
  chain_more (no m) =
      let low = point_low q s in
      ap (chain v) (link_other p o n u lp ln (heads_at + point_number q) (λ y. m (sym (point_back q s) ∙ ap point_of (omega arith) ∙ point_back x.to held.small)) (λ y. omega arith) (λ y. omega arith))
      ∙ older

module _ {w : List ℕ} (clear : Unlinked w) (z : origins_end ≤ length w) where
  built_all : (l : List Edge) → All Held l → length l ≤ 1024 → Built (length l) (link_all l 0 w)
  unfolding link_all
  built_all [] a h = built_none clear z
  built_all (x ∷ l) a h =
      let n : 0 + length l ≡ length l = omega arith in
      let q : point_number x.to < 512 = point_low x.to a.0.small in
      subst (λ (y : ℕ). Built (suc (length l)) (link_at (point_number x.to) (origin_word x.from x.entry) y (link_all l 0 w))) (sym n)
      (built_more (built_all l a.1 (omega arith)) (point_number x.to) (origin_word x.from x.entry) q (omega arith))

  -- the chain of the first edge into q holds those of the edges that lead there, in order
  pub chain_linked : (l : List Edge) → All Held l → length l ≤ 1024 → (q : CfgPoint) → Small q
      → chain (link_all l 0 w) (get_or (link_all l 0 w) (heads_at + point_number q) 0) ≡ edges_to q l
  unfolding link_all
  chain_linked [] a h q s =
      let low = point_low q s in
      ap (chain w) (clear.word (heads_at + point_number q) (omega arith) (omega arith)) ∙ chain_none w
  chain_linked (x ∷ l) a h q s =
      let e : 0 + length l ≡ length l = omega arith in
      let u : List ℕ = link_all l 0 w in
      let y : ℕ → List ℕ = λ n. link_at (point_number x.to) (origin_word x.from x.entry) n u in
      subst (λ (n : ℕ). chain (y n) (get_or (y n) (heads_at + point_number q) 0) ≡ edges_to q (x ∷ l)) (sym e)
      (chain_more (built_all l a.1 (omega arith)) x a.0 (omega arith) q s (edges_to q l) (chain_linked l a.1 (omega arith) q s) (eq_point q x.to))

  pub linked_all : (F : Func) → All Held (edges_from F 0) → length (edges_from F 0) ≤ 1024 → Linked F (linked F w)
  unfolding linked edges_into
  linked_all F a h =
      let k = built_all (edges_from F 0) a h in
      record {
        chained = record { size = k.size; heads = λ q l. omega (arith, k.heads q l); falls = k.falls };
        edges = λ q s. chain_linked (edges_from F 0) a h q s;
      }

-- ---- a walk along a chain

-- the edges `done` into q are read, and those from h on are left
pub record ChainRest (F : Func) (q : CfgPoint) (u : List ℕ) (done : List (ℕ × ℕ)) (h : ℕ) : Type 0 where
  pub low : h ≤ 1024
  pub all : done ++ chain u h ≡ edges_into F q 0

pub chain_rest_first : {F : Func} {u : List ℕ} → Linked F u → (q : CfgPoint) → Small q → {h : ℕ} → h ≡ get_or u (heads_at + point_number q) 0 → ChainRest F q u [] h
chain_rest_first {F} {u} k q s e = record { low = omega (arith, k.chained.heads (point_number q) (point_low q s)); all = ap (chain u) e ∙ k.edges q s }

module _ {F : Func} {q : CfgPoint} {u : List ℕ} {done : List (ℕ × ℕ)} {h : ℕ} (k : Chained u) (r : ChainRest F q u done h) where
  pub rest_next : 0 < h → {n : ℕ} → n ≡ next_at u (h - 1) → ChainRest F q u (done ++ (origin_at u (h - 1) ∷ [])) n
  rest_next p {n} e =
      let y : h - 1 + 1 ≡ h = omega arith in
      let c = chain_next k (h - 1) (omega (arith, r.low)) in
      record {
        low = omega (arith, c.1, r.low);
        all =
            append_assoc done (origin_at u (h - 1) ∷ []) (chain u n)
            ∙ ap (λ (m : ℕ). done ++ (origin_at u (h - 1) ∷ chain u m)) e
            ∙ ap (λ (l : List (ℕ × ℕ)). done ++ l) (sym c.0 ∙ ap (chain u) y)
            ∙ r.all;
      }

  -- the edge that is read next is one of those into q
  pub rest_edge : 0 < h → In (origin_at u (h - 1)) (edges_into F q 0)
  rest_edge p =
      let y : h - 1 + 1 ≡ h = omega arith in
      let c = chain_next k (h - 1) (omega (arith, r.low)) in
      subst (In (origin_at u (h - 1))) (ap (λ (l : List (ℕ × ℕ)). done ++ l) (sym c.0 ∙ ap (chain u) y) ∙ r.all) (in_right done here)

  pub rest_done : h ≡ 0 → done ≡ edges_into F q 0
  rest_done e = sym (append-nil done) ∙ ap (λ (l : List (ℕ × ℕ)). done ++ l) (sym (ap (chain u) e ∙ chain_none u)) ∙ r.all
