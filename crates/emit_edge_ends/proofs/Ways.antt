-- The edges of each kind of way out: how many, and where they lead. Assumes nothing.
use mathlib.Core.Path.{◌≡◌, refl, sym, ap, subst, ◌∙◌}
use mathlib.Core.List.{List, [], ◌∷◌, map}
use Prim.Native.Nat.{ℕ, zero, suc, ◌<◌}
use native.Mathlib.Omega.{arith}
use lib.ListN.{get_or, length, length-map}
use Rattle.lifting.specs.Ast.{ControlInst, Func, Value}
use Rattle.lifting.specs.Parts.{children_of, node_of, region_of}
use Rattle.lifting.specs.Points.{CfgPoint, node_entry, node_exit, region_entry}
use Rattle.lifting.specs.Walk.{some_vals, line_term}
use Rattle.walk_points.specs.Numbers.{point_number}
use Rattle.terminators.specs.declared.TermKind.{TermKind}
use Rattle.terminators.specs.declared.TermKind.TheVariants.{Join, Repeat, Select, Test}
use Rattle.terminators.specs.Edges.{edges_by, entry_edges, sole_edge, term_edges}
use Rattle.terminators.specs.Kinds.{term_of}
use Rattle.emit_edge_ends.specs.Aimed.{any_of, length_entries, number_at, sole_count}

-- ---- how many

pub sole_other : (n : ℕ) → ¬ (n ≡ 1) → 0 ≡ sole_count n
sole_other zero h = refl
sole_other (suc zero) h = absurd (h refl)
sole_other (suc (suc n)) h = refl

pub any_none : (vs : List Value) → length vs ≡ 0 → 0 ≡ any_of vs
any_none [] h = refl
any_none (v ∷ vs) h = absurd (omega arith)

pub any_some : (vs : List Value) → ¬ (length vs ≡ 0) → 1 ≡ any_of vs
any_some [] h = absurd (h refl)
any_some (v ∷ vs) h = refl

sole_length : (ps : List CfgPoint) → sole_count (length ps) ≡ length (sole_edge ps)
sole_length [] = refl
sole_length (p ∷ []) = refl
sole_length (p ∷ q ∷ ps) = refl

-- the entries of a ctrl line, as those of its way out
abbrev as_entry : ℕ × List Value → CfgPoint × List Value
as_entry e = (region_entry e.0, e.1)

by_entries : (l : List (ℕ × List Value)) (ps : List CfgPoint) → ¬ (length l ≡ 0) → length l ≡ length (edges_by (map as_entry l) ps)
by_entries [] ps h = absurd (h refl)
by_entries (x ∷ l) ps h = sym (length_entries 0 (map as_entry (x ∷ l)) ∙ length-map (x ∷ l) as_entry)

by_target : (l : List (ℕ × List Value)) (ps : List CfgPoint) → length l ≡ 0 → edges_by (map as_entry l) ps ≡ sole_edge ps
by_target [] ps h = refl
by_target (x ∷ l) ps h = absurd (omega arith)

module _ (c : ControlInst) where
  pub line_some : ¬ (length c.vals ≡ 0) → length c.vals ≡ length (term_edges (line_term c))
  line_some h = by_entries c.vals (map region_entry c.to) h

  pub line_none : length c.vals ≡ 0 → sole_count (length c.to) ≡ length (term_edges (line_term c))
  line_none h =
      ap sole_count (sym (length-map c.to region_entry))
      ∙ sole_length (map region_entry c.to)
      ∙ sym (ap length (by_target c.vals (map region_entry c.to) h))

-- a way with one target has one edge, with values or without
one_edge : (p : CfgPoint) (vs : List Value) → edges_by (some_vals p vs) (p ∷ []) ≡ (p, 0) ∷ []
one_edge p [] = refl
one_edge p (v ∷ vs) = refl

test_edge : (p q : CfgPoint) (vs : List Value) → any_of vs ≡ length (edges_by (some_vals p vs) (p ∷ q ∷ []))
test_edge p q [] = refl
test_edge p q (v ∷ vs) = refl

module _ (F : Func) {x : TermKind} where
  pub count_as : {y : TermKind} → x ≡ y → {n : ℕ} → n ≡ length (term_edges (term_of F y)) → n ≡ length (term_edges (term_of F x))
  count_as g e = e ∙ sym (ap (λ (z : TermKind). length (term_edges (term_of F z))) g)

  pub count_select : {n u : ℕ} → x ≡ Select n u → {a b : ℕ} → a ≡ length (children_of (node_of F n)) → b ≡ sole_count a → b ≡ length (term_edges (term_of F x))
  count_select {n} g {a} ea eb =
      count_as g (eb ∙ ap sole_count (ea ∙ sym (length-map (children_of (node_of F n)) region_entry)) ∙ sole_length (map region_entry (children_of (node_of F n))))

  pub count_join : {n r : ℕ} → x ≡ Join n r → 1 ≡ length (term_edges (term_of F x))
  count_join {n} {r} g = count_as g (sym (ap length (one_edge (node_exit n) (region_of F r).outs)))

  pub count_repeat : {n r : ℕ} → x ≡ Repeat n r → 1 ≡ length (term_edges (term_of F x))
  count_repeat {n} {r} g = count_as g (sym (ap length (one_edge (node_entry n) (region_of F r).outs)))

  pub count_test : {n r : ℕ} → x ≡ Test n r → {a : ℕ} → a ≡ any_of (region_of F r).outs → a ≡ length (term_edges (term_of F x))
  count_test {n} {r} g e = count_as g (e ∙ test_edge (node_entry n) (node_exit n) (region_of F r).outs)

-- ---- where they lead

-- the only one of some regions
sole_point : (rs : List ℕ) (k : ℕ) → k < length (sole_edge (map region_entry rs))
    → (0 < length rs) × (number_at (sole_edge (map region_entry rs)) k ≡ point_number (region_entry (get_or rs 0 0)))
sole_point [] k h = absurd (omega arith)
sole_point (r ∷ []) zero h = (omega arith, refl)
sole_point (r ∷ []) (suc k) h = absurd (omega arith)
sole_point (r ∷ s ∷ rs) k h = absurd (omega arith)

entry_point_law : (e : ℕ) (l : List (ℕ × List Value)) (k : ℕ) → k < length l → number_at (entry_edges e (map as_entry l)) k ≡ point_number (region_entry (get_or l k (0, [])).0)
entry_point_law e [] k h = absurd (omega arith)
entry_point_law e (x ∷ l) zero h = refl
entry_point_law e (x ∷ l) (suc k) h = entry_point_law (suc e) l k (omega arith)

by_entry : (l : List (ℕ × List Value)) (ps : List CfgPoint) → ¬ (length l ≡ 0) → (k : ℕ) → k < length l
    → number_at (edges_by (map as_entry l) ps) k ≡ point_number (region_entry (get_or l k (0, [])).0)
by_entry [] ps n k h = absurd (n refl)
by_entry (x ∷ l) ps n k h = entry_point_law 0 (x ∷ l) k h

module _ (c : ControlInst) (k : ℕ) (h : k < length (term_edges (line_term c))) where
  pub line_sole : length c.vals ≡ 0 → (0 < length c.to) × (number_at (term_edges (line_term c)) k ≡ point_number (region_entry (get_or c.to 0 0)))
  line_sole z =
      let e = by_target c.vals (map region_entry c.to) z in
      let s = sole_point c.to k (subst (λ (l : List (CfgPoint × ℕ)). k < length l) e h) in
      (s.0, ap (λ (l : List (CfgPoint × ℕ)). number_at l k) e ∙ s.1)

  pub line_entry : ¬ (length c.vals ≡ 0) → (k < length c.vals) × (number_at (term_edges (line_term c)) k ≡ point_number (region_entry (get_or c.vals k (0, [])).0))
  line_entry z =
      let l : k < length c.vals = omega (arith, line_some c z) in
      (l, by_entry c.vals (map region_entry c.to) z k l)

first_of : {l : List (CfgPoint × ℕ)} {p : CfgPoint} (k : ℕ) → l ≡ (p, 0) ∷ [] → k < length l → number_at l k ≡ point_number p
first_of {l} {p} k e h = go k (subst (λ (m : List (CfgPoint × ℕ)). k < length m) e h) (ap (λ (m : List (CfgPoint × ℕ)). number_at m k) e)
  where
    go : (k : ℕ) → k < 1 → number_at l k ≡ number_at ((p, 0) ∷ []) k → number_at l k ≡ point_number p
    go zero h q = q
    go (suc k) h q = absurd (omega arith)

module _ (F : Func) {x : TermKind} (k : ℕ) (h : k < length (term_edges (term_of F x))) where
  pub edge_within : {y : TermKind} → x ≡ y → k < length (term_edges (term_of F y))
  edge_within g = subst (λ (y : TermKind). k < length (term_edges (term_of F y))) g h

  pub edge_as : {y : TermKind} → x ≡ y → {q : ℕ} → q ≡ number_at (term_edges (term_of F y)) k → q ≡ number_at (term_edges (term_of F x)) k
  edge_as g e = e ∙ sym (ap (λ (y : TermKind). number_at (term_edges (term_of F y)) k) g)

  -- to the only target
  pub edge_one : {y : TermKind} {p : CfgPoint} → x ≡ y → term_edges (term_of F y) ≡ (p, 0) ∷ [] → {q : ℕ} → q ≡ point_number p → q ≡ number_at (term_edges (term_of F x)) k
  edge_one g e z = edge_as g (z ∙ sym (first_of k e (edge_within g)))

  pub edge_case : {n u : ℕ} → x ≡ Select n u
      → (0 < length (children_of (node_of F n))) × (number_at (term_edges (term_of F x)) k ≡ point_number (region_entry (get_or (children_of (node_of F n)) 0 0)))
  edge_case {n} g =
      let s = sole_point (children_of (node_of F n)) k (edge_within g) in
      (s.0, ap (λ (y : TermKind). number_at (term_edges (term_of F y)) k) g ∙ s.1)

  pub edge_join : {n r : ℕ} → x ≡ Join n r → {q : ℕ} → q ≡ point_number (node_exit n) → q ≡ number_at (term_edges (term_of F x)) k
  edge_join {n} {r} g z = edge_one g (one_edge (node_exit n) (region_of F r).outs) z

  pub edge_repeat : {n r : ℕ} → x ≡ Repeat n r → {q : ℕ} → q ≡ point_number (node_entry n) → q ≡ number_at (term_edges (term_of F x)) k
  edge_repeat {n} {r} g z = edge_one g (one_edge (node_entry n) (region_of F r).outs) z

  pub edge_test : {n r : ℕ} → x ≡ Test n r → {q : ℕ} → q ≡ point_number (node_entry n) → q ≡ number_at (term_edges (term_of F x)) k
  edge_test {n} {r} g z = edge_as g (z ∙ sym (go (region_of F r).outs k (edge_within g)))
    where
      go : (vs : List Value) (k : ℕ) → k < length (edges_by (some_vals (node_entry n) vs) (node_entry n ∷ node_exit n ∷ []))
          → number_at (edges_by (some_vals (node_entry n) vs) (node_entry n ∷ node_exit n ∷ [])) k ≡ point_number (node_entry n)
      go [] k l = absurd (omega arith)
      go (v ∷ vs) zero l = refl
      go (v ∷ vs) (suc k) l = absurd (omega arith)
