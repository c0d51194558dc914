-- The edges between kept blocks that may carry values into phis, by the position of the visited point that ends the block. Assumes nothing.
--     edges_done, edges_step    the edges from a position on
--     position_in, edge_end, end_edge     where an edge comes from
--     edge_entry                the number of its entry
--     head_word                 the label of a block, by the word of a position in it
use Rattle.std.specs.Prelude.{◌≡◌, refl, ◌⊎◌, Bool, true, false, not, List, [], ◌∷◌, ◌++◌, map, get_or}
use Rattle.std.proofs.Common.{sym, ◌∙◌, inl, inr}
use Rattle.std.proofs.Math.Path.{ap, subst}
use Rattle.std.proofs.lemmas.Bool.{false≢true}
use Prim.Native.Nat.{ℕ, zero, suc, ◌+◌, ◌-◌, ◌≤◌, ◌<◌}
use native.Mathlib.Omega.{arith}
use Rattle.std.proofs.Math.ListN.{length}
use Rattle.general_laws.specs.Lists.{choose, gather, tabulate}
use Rattle.lifting.specs.Ast.{Func, Value}
use Rattle.lifting.specs.Points.{CfgPoint, Terminator, eq_point, region_entry}
use Rattle.lifting.specs.Walk.{walk_of}
use Rattle.general_laws.specs.Members.{In, in_cases, in_nil, gather_in, map_in}
use Rattle.lifting_blocks.specs.Flat.{Status, gone, starts, goes}
use Rattle.walk_points.specs.Numbers.{point_number}
use Rattle.terminators.specs.At.{visited_block, point_at}
use Rattle.terminators.specs.Edges.{edges_by, entry_edges, sole_edge, term_edges}
use Rattle.block_absorbs.specs.Absorbs.{absorbs, stands, status_word}

-- the edge to a point from the block that ends at position `from`, along the entry of that number
pub record Edge : Type 0 where
  pub to : CfgPoint
  pub from : ℕ
  pub entry : ℕ

-- the point whose label the block of point p has
abbrev pub label_point : Status → CfgPoint → CfgPoint
label_point gone p = p
label_point starts p = p
label_point (goes h) p = h

-- a point ends a kept block where it stands in one, and does not absorb the next point
abbrev pub ends_by : Status → Bool → Bool
ends_by gone g = false
ends_by starts g = not g
ends_by (goes h) g = not g

-- a list, or nothing
abbrev pub list_if : {A : Type 0} → Bool → List A → List A
list_if true l = l
list_if false l = []

-- position and entry of an edge, if it leads to q
abbrev pub towards : CfgPoint → Edge → List (ℕ × ℕ)
towards q x = choose (eq_point q x.to) ((x.from, x.entry) ∷ []) []

-- those of the edges l that lead to q, each by its position and entry
abbrev pub edges_to : CfgPoint → List Edge → List (ℕ × ℕ)
edges_to q l = gather (towards q) l

-- an edge (target, entry) of a way out at position i, and all of its edges
abbrev pub edge_from : ℕ → CfgPoint × ℕ → Edge
edge_from i o = record { to = o.0; from = i; entry = o.1 }

abbrev pub edges_from_position : ℕ → List (CfgPoint × ℕ) → List Edge
edges_from_position i l = map (edge_from i) l

module _ (F : Func) where
  -- the point whose label the block of position i has
  abbrev pub head_at : ℕ → CfgPoint
  head_at i = label_point (stands F i) (point_at F i)

  -- a kept block ends at position i
  abbrev pub ends_here : ℕ → Bool
  ends_here i = ends_by (stands F i) (absorbs F i)

  -- the edges (target, entry) of the block that ends at position i
  unfoldable pub end_edges : ℕ → List (CfgPoint × ℕ)
  end_edges i = list_if (ends_here i) (term_edges (visited_block F i).term)

  -- the same, each with its position
  unfoldable pub position_edges : ℕ → List Edge
  unfolding end_edges
  position_edges i = edges_from_position i (end_edges i)

  -- of n positions from position i on
  abbrev pub edges_run : ℕ → ℕ → List Edge
  edges_run i n = gather position_edges (tabulate (λ j. j) i n)

  -- of all positions from position i on
  unfoldable pub edges_from : ℕ → List Edge
  unfolding position_edges
  edges_from i = edges_run i (length (walk_of F) - i)

  -- those that lead to q, each by its position and entry, in order
  unfoldable pub edges_into : CfgPoint → ℕ → List (ℕ × ℕ)
  unfolding edges_from
  edges_into q i = edges_to q (edges_from i)

  pub edges_done : (i : ℕ) → length (walk_of F) ≤ i → edges_from i ≡ []
  unfolding edges_from
  edges_done i h = let e : length (walk_of F) - i ≡ 0 = omega arith in ap (edges_run i) e

  pub edges_step : (i : ℕ) → i < length (walk_of F) → edges_from i ≡ position_edges i ++ edges_from (suc i)
  unfolding edges_from
  edges_step i h = let e : length (walk_of F) - i ≡ suc (length (walk_of F) - suc i) = omega arith in ap (edges_run i) e

-- ---- where an edge comes from

towards_in : (q : CfgPoint) (x : Edge) {o : ℕ × ℕ} → In o (towards q x) → (x.to ≡ q) × (◌≡◌ {A = ℕ × ℕ} o (x.from, x.entry))
towards_in q x {o} i = by_case (eq_point q x.to) i
  where
    by_case : (d : Dec (q ≡ x.to)) → In o (choose d ((x.from, x.entry) ∷ []) []) → (x.to ≡ q) × (◌≡◌ {A = ℕ × ℕ} o (x.from, x.entry))
    by_case (yes e) i = (sym e, elim (in_cases i) [ inl z ↦ z | inr j ↦ absurd (in_nil j) ])
    by_case (no n) i = absurd (in_nil i)

pub ends_by_law : (s : Status) (g : Bool) → ends_by s g ≡ true → (¬ (s ≡ gone)) × (g ≡ false)
ends_by_law gone g e = absurd (false≢true e)
ends_by_law starts true e = absurd (false≢true e)
ends_by_law starts false e = (λ e. let z : ◌≡◌ {A = ℕ} 0 1 = cc in omega arith, refl)
ends_by_law (goes h) true e = absurd (false≢true e)
ends_by_law (goes h) false e = (λ e. let z : ◌≡◌ {A = ℕ} 0 1 = cc in omega arith, refl)

if_in : {A : Type 0} {x : A} (b : Bool) (l : List A) → In x (list_if b l) → (b ≡ true) × In x l
if_in true l i = (refl, i)
if_in false l i = absurd (in_nil i)

below_in : (i n : ℕ) {x : ℕ} → In x (tabulate (λ j. j) i n) → (i ≤ x) × (x < i + n)
below_in i zero h = absurd (in_nil h)
below_in i (suc n) {x} h = by_case (in_cases h) (below_in (suc i) n)
  where
    by_case : (x ≡ i) ⊎ In x (tabulate (λ j. j) (suc i) n) → (In x (tabulate (λ j. j) (suc i) n) → (suc i ≤ x) × (x < suc i + n)) → (i ≤ x) × (x < i + suc n)
    by_case (inl e) ih = (omega arith, omega arith)
    by_case (inr k) ih = let r = ih k in (omega (arith, r.0), omega (arith, r.1))

module _ (F : Func) where
  -- a kept block ends at position p, and has an edge to q along entry e
  pub record EndsAt (q : CfgPoint) (p e : ℕ) : Type 0 where
    pub low : p < length (walk_of F)
    pub kept : ¬ (stands F p ≡ gone)
    pub last : absorbs F p ≡ false
    pub edge : In (q, e) (term_edges (visited_block F p).term)

  pub position_in : (i : ℕ) (x : Edge) → In x (edges_from F i) → EndsAt x.to x.from x.entry
  unfolding edges_from position_edges end_edges
  position_in i x h =
      let p = gather_in (position_edges F) (tabulate (λ j. j) i (length (walk_of F) - i)) h in
      let y = map_in (edge_from p.0) (end_edges F p.0) p.2 in
      let e = if_in (ends_here F p.0) (term_edges (visited_block F p.0).term) y.1 in
      let s = ends_by_law (stands F p.0) (absorbs F p.0) e.0 in
      let b = below_in i (length (walk_of F) - i) p.1 in
      subst (λ (z : Edge). EndsAt z.to z.from z.entry) (sym y.2)
      (record { low = omega (arith, b.0, b.1); kept = s.0; last = s.1; edge = e.1 })

  pub edge_end : (q : CfgPoint) (i : ℕ) (o : ℕ × ℕ) → In o (edges_into F q i) → EndsAt q o.0 o.1
  unfolding edges_into
  edge_end q i o h =
      let x = gather_in (towards q) (edges_from F i) h in
      let y = towards_in q x.0 x.2 in
      subst (λ (p : CfgPoint). EndsAt p o.0 o.1) y.0 (subst (λ (z : ℕ × ℕ). EndsAt x.0.to z.0 z.1) (sym y.1) (position_in i x.0 x.1))

-- ---- the number of an edge's entry is its place

entry_at : (e : ℕ) (l : List (CfgPoint × List Value)) (k : ℕ) (d : CfgPoint × ℕ) → k < length (entry_edges e l) → (get_or (entry_edges e l) k d).1 ≡ e + k
entry_at e [] k d h = absurd (omega arith)
entry_at e (x ∷ l) zero d h = omega arith
entry_at e (x ∷ l) (suc k) d h = entry_at (suc e) l k d (omega arith) ∙ omega arith

sole_at : (l : List CfgPoint) (k : ℕ) (d : CfgPoint × ℕ) → k < length (sole_edge l) → (get_or (sole_edge l) k d).1 ≡ k
sole_at [] k d h = absurd (omega arith)
sole_at (p ∷ []) zero d h = refl
sole_at (p ∷ []) (suc k) d h = absurd (omega arith)
sole_at (p ∷ q ∷ l) k d h = absurd (omega arith)

pub edge_entry : (t : Terminator) (k : ℕ) (d : CfgPoint × ℕ) → k < length (term_edges t) → (get_or (term_edges t) k d).1 ≡ k
edge_entry t k d h = go t.vals h
  where
    go : (vs : List (CfgPoint × List Value)) → k < length (edges_by vs t.targets) → (get_or (edges_by vs t.targets) k d).1 ≡ k
    go [] h = sole_at t.targets k d h
    go (x ∷ l) h = entry_at 0 (x ∷ l) k d h ∙ omega arith

-- an edge goes along an entry, or along a sole edge that has none
entries_in : (e : ℕ) (l : List (CfgPoint × List Value)) {q : CfgPoint} {k : ℕ} → In (q, k) (entry_edges e l)
    → (e ≤ k) × (k < e + length l) × ((get_or l (k - e) (region_entry 0, [])).0 ≡ q)
entries_in e [] i = absurd (in_nil i)
entries_in e (x ∷ l) {q} {k} i = by_case (in_cases i) (entries_in (suc e) l)
  where
    by_case : (◌≡◌ {A = CfgPoint × ℕ} (q, k) (x.0, e)) ⊎ In (q, k) (entry_edges (suc e) l)
        → (In (q, k) (entry_edges (suc e) l) → (suc e ≤ k) × (k < suc e + length l) × ((get_or l (k - suc e) (region_entry 0, [])).0 ≡ q))
        → (e ≤ k) × (k < e + suc (length l)) × ((get_or (x ∷ l) (k - e) (region_entry 0, [])).0 ≡ q)
    by_case (inl z) ih =
        let a : k ≡ e = ap (λ (y : CfgPoint × ℕ). y.1) z in
        let n : k - e ≡ 0 = omega arith in
        (omega arith, omega arith, ap (λ (j : ℕ). (get_or (x ∷ l) j (region_entry 0, [])).0) n ∙ ap (λ (y : CfgPoint × ℕ). y.0) (sym z))
    by_case (inr j) ih =
        let r = ih j in
        let n : k - e ≡ suc (k - suc e) = omega (arith, r.0) in
        (omega (arith, r.0), omega (arith, r.1), ap (λ (j : ℕ). (get_or (x ∷ l) j (region_entry 0, [])).0) n ∙ r.2)

-- entry e of the values, or, where there are none, a way with one target
pub data EdgeAlong (vs : List (CfgPoint × List Value)) (ps : List CfgPoint) (q : CfgPoint) (e : ℕ) : Type 0 where
  by_entry : e < length vs → (get_or vs e (region_entry 0, [])).0 ≡ q → EdgeAlong vs ps q e
  by_sole : vs ≡ [] → ps ≡ q ∷ [] → e ≡ 0 → EdgeAlong vs ps q e

pub end_edge : (t : Terminator) {q : CfgPoint} {e : ℕ} → In (q, e) (term_edges t) → EdgeAlong t.vals t.targets q e
end_edge t {q} {e} i = go t.vals refl i
  where
    sole : t.vals ≡ [] → (ps : List CfgPoint) → t.targets ≡ ps → In (q, e) (sole_edge ps) → EdgeAlong t.vals t.targets q e
    sole v [] z i = absurd (in_nil i)
    sole v (p ∷ []) z i = elim (in_cases i) [
      | inl y ↦ by_sole v (z ∙ ap (λ (o : CfgPoint × ℕ). o.0 ∷ []) (sym y)) (ap (λ (o : CfgPoint × ℕ). o.1) y)
      | inr j ↦ absurd (in_nil j)
    ]
    sole v (p ∷ r ∷ ps) z i = absurd (in_nil i)

    go : (vs : List (CfgPoint × List Value)) → t.vals ≡ vs → In (q, e) (edges_by vs t.targets) → EdgeAlong t.vals t.targets q e
    go [] v i = sole v t.targets refl i
    go (x ∷ l) v i =
        let r = entries_in 0 (x ∷ l) i in
        let n : e - 0 ≡ e = omega arith in
        by_entry (subst (λ (k : List (CfgPoint × List Value)). e < length k) (sym v) (omega (arith, r.1)))
        (subst (λ (k : List (CfgPoint × List Value)). (get_or k e (region_entry 0, [])).0 ≡ q) (sym v) (ap (λ (j : ℕ). (get_or (x ∷ l) j (region_entry 0, [])).0) (sym n) ∙ r.2))

-- the word of a position in a kept block says the block's label
pub head_word : (s : Status) (p : CfgPoint) → ¬ (s ≡ gone) → status_word s p ≡ point_number (label_point s p) + 1
head_word gone p h = absurd (h refl)
head_word starts p h = refl
head_word (goes k) p h = refl
