-- The pairs of a phi are those of the edges into its point, in order. Assumes nothing.
--     pairs_linked    for a text with a body that passes refusals 4 to 7
use Rattle.std.specs.Prelude.{◌≡◌, refl, ◌⊎◌, Bool, true, false, List, [], ◌∷◌, ◌++◌, ℕ, zero, suc, ◌+◌, ◌-◌, ◌<◌, get_or, length}
use Rattle.std.proofs.Math.Path.{sym}
use Rattle.std.proofs.Common.{ap, ap₂, subst, ◌∙◌, inl, inr, append-nil, arith}
use Rattle.std.proofs.Math.Option.{Option, none, some}
use Rattle.general_laws.specs.Lists.{choose, choose_no, choose_yes, find, gather, keys, tabulate}
use Rattle.lifting.specs.Ast.{Func, Value, const}
use Rattle.lifting.specs.Parts.{node_of, vals_or}
use Rattle.lifting.specs.Control.{control_fits}
use Rattle.lifting.specs.Points.{BlockLifting, CfgPoint, Table, Terminator, block_or, edge_of, eq_point, node_entry, region_entry}
use Rattle.lifting.specs.Walk.{in_block, walk_of}
use Rattle.lifting.specs.Absorb.{count_in, kept, use_count}
use Rattle.lifting.specs.Ids.{id_of, label_of}
use Rattle.lifting.specs.Instructions.{if_used, pairs}
use Rattle.general_laws.specs.Gather.{gather_gather, gather_none}
use Rattle.general_laws.specs.Members.{In, NoDup, here, there, in_cases, in_get_or, in_nil}
use Rattle.lifting_runs.specs.AbsorbCount.{in_count}
use Rattle.lifting_runs.specs.Pairs.{counted_in}
use Rattle.general_laws.specs.Tests.{find_in}
use Rattle.lifting_runs.specs.Tour.{find_unique, unique_of}
use Rattle.lifting_runs.specs.Shaped.{Shaped}
use Rattle.lifting_blocks.specs.Flat.{Status, goes, gone, no_pair, pass_part, part_at, starts, up_to}
use Rattle.lifting_blocks.specs.FlatLaws.{up_to_cons, up_to_same}
use Rattle.lifting_blocks.specs.ListFlat.{pairing}
use Rattle.lifting_blocks.specs.Steps.{Step, step_entry, step_exit, step_in, step_out}
use Rattle.lifting_blocks.specs.Laws.{each_once, edge_unchanged, pairs_are, stands_fit, steps}
use Rattle.terminators.specs.At.{visited_block, point_at}
use Rattle.terminators.specs.Edges.{edges_by, entry_edges, sole_edge, term_edges, values_along}
use Rattle.block_absorbs.specs.Absorbs.{absorbs, stands}
use Rattle.emit_edge_ends.specs.Ends.{position_edges, edges_from, edges_into, edges_from_position, end_edges, ends_by_law, ends_by, ends_here, head_at, label_point, edges_to, list_if, towards}
use Rattle.emit_edge_ends.specs.Values.{carries}

-- ---- edges of one way out

-- the entries of the edges that lead to q
abbrev entry_to : CfgPoint → CfgPoint × ℕ → List ℕ
entry_to q x = choose (eq_point q x.0) (x.1 ∷ []) []

abbrev entries_to : CfgPoint → List (CfgPoint × ℕ) → List ℕ
entries_to q l = gather (entry_to q) l

gather_into : (f : ℕ × ℕ → List ℕ) (q : CfgPoint) (p : ℕ) (l : List (CfgPoint × ℕ)) → gather f (edges_to q (edges_from_position p l)) ≡ gather (λ e. f (p, e)) (entries_to q l)
gather_into f q p [] = refl
gather_into f q p (x ∷ l) = by_case (eq_point q x.0) (gather_into f q p l)
  where
    by_case : (d : Dec (q ≡ x.0)) → gather f (edges_to q (edges_from_position p l)) ≡ gather (λ e. f (p, e)) (entries_to q l)
        → gather f (choose d ((p, x.1) ∷ []) [] ++ edges_to q (edges_from_position p l)) ≡ gather (λ e. f (p, e)) (choose d (x.1 ∷ []) [] ++ entries_to q l)
    by_case (yes e) ih = ap (λ (r : List ℕ). f (p, x.1) ++ r) ih
    by_case (no n) ih = ih

-- no edge to a point that no entry names, or that is no target
entries_none : (q : CfgPoint) (k : ℕ) (l : List (CfgPoint × List Value)) → ¬ (In q (keys l)) → entries_to q (entry_edges k l) ≡ []
entries_none q k [] n = refl
entries_none q k (x ∷ l) n =
    ap (λ (r : List ℕ). r ++ entries_to q (entry_edges (suc k) l))
    (choose_no {A = List ℕ} (eq_point q x.0) (k ∷ []) [] (λ e. n (subst (λ (y : CfgPoint). In q (y ∷ keys l)) e here)))
    ∙ entries_none q (suc k) l (λ i. n (there i))

sole_none : (q : CfgPoint) (ps : List CfgPoint) → ¬ (In q ps) → entries_to q (sole_edge ps) ≡ []
sole_none q [] n = refl
sole_none q (p ∷ []) n =
    ap (λ (r : List ℕ). r ++ []) (choose_no {A = List ℕ} (eq_point q p) (0 ∷ []) [] (λ e. n (subst (λ (y : CfgPoint). In q (y ∷ [])) e here)))
sole_none q (p ∷ r ∷ ps) n = refl

-- one edge to a point that one entry names, with that entry's values
module _ (q : CfgPoint) (g : List Value → List ℕ) (h : ℕ → List Value) (d : List Value) where
  entry_one : (k : ℕ) (l : List (CfgPoint × List Value)) → ((i : ℕ) → i < length l → h (k + i) ≡ (get_or l i (region_entry 0, [])).1) → NoDup (keys l) → In q (keys l)
      → gather (λ e. g (h e)) (entries_to q (entry_edges k l)) ≡ g (vals_or (find eq_point q l) d)
  entry_one k [] a u i = absurd (in_nil i)
  entry_one k (x ∷ l) a u i =
      by_case (eq_point q x.0) (λ j. entry_one (suc k) l (λ i b. let s : k + suc i ≡ suc k + i = omega arith in ap h (sym s) ∙ a (suc i) (omega arith)) u.1 j)
    where
      first : h k ≡ x.1
      first = let z : k + 0 ≡ k = omega arith in ap h (sym z) ∙ a 0 (omega arith)

      by_case : (c : Dec (q ≡ x.0)) → (In q (keys l) → gather (λ e. g (h e)) (entries_to q (entry_edges (suc k) l)) ≡ g (vals_or (find eq_point q l) d))
          → gather (λ e. g (h e)) (choose c (k ∷ []) [] ++ entries_to q (entry_edges (suc k) l)) ≡ g (vals_or (choose c (some x.1) (find eq_point q l)) d)
      by_case (yes e) ih =
          ap (λ (r : List ℕ). g (h k) ++ gather (λ e. g (h e)) r) (entries_none q (suc k) l (λ j. u.0 (subst (λ (y : CfgPoint). In y (keys l)) e j)))
          ∙ append-nil (g (h k))
          ∙ ap g first
      by_case (no n) ih = ih (elim (in_cases i) [ inl e ↦ absurd (n e) | inr j ↦ j ])

-- a way out takes values along to q by the entry for q, or by a sole edge
abbrev Takes : CfgPoint → Terminator → Type 0
Takes q t = In q (keys t.vals) ⊎ ((t.vals ≡ []) × (t.targets ≡ q ∷ []))

module _ (q : CfgPoint) (g : List Value → List ℕ) (d : List Value) (ts : List CfgPoint) where
  abbrev taken : List (CfgPoint × List Value) → List ℕ
  taken vs = gather (λ e. g (values_along vs e d)) (entries_to q (edges_by vs ts))

  -- no edge
  away : (vs : List (CfgPoint × List Value)) → ¬ (In q ts) → ((p : CfgPoint) → In p (keys vs) → In p ts) → taken vs ≡ []
  away [] n led = ap (gather (λ e. g (values_along [] e d))) (sole_none q ts n)
  away (x ∷ l) n led = ap (gather (λ e. g (values_along (x ∷ l) e d))) (entries_none q 0 (x ∷ l) (λ i. n (led q i)))

  -- one
  by_entry : (vs : List (CfgPoint × List Value)) → NoDup (keys vs) → In q (keys vs) → taken vs ≡ g (vals_or (find eq_point q vs) d)
  by_entry [] u i = absurd (in_nil i)
  by_entry (x ∷ l) u i =
      entry_one q g (λ e. values_along (x ∷ l) e d) d 0 (x ∷ l) (λ i b. let z : 0 + i ≡ i = omega arith in ap (λ (n : ℕ). (get_or (x ∷ l) n (region_entry 0, [])).1) z) u i

  alone : (vs : List (CfgPoint × List Value)) → vs ≡ [] → ts ≡ q ∷ [] → taken vs ≡ g (vals_or (find eq_point q vs) d)
  alone vs v e =
      ap taken v
      ∙ ap (λ (ps : List CfgPoint). gather (λ e. g d) (entries_to q (sole_edge ps))) e
      ∙ ap (λ (r : List ℕ). gather (λ e. g d) (r ++ [])) (choose_yes {A = List ℕ} (eq_point q q) (0 ∷ []) [] refl)
      ∙ append-nil (g d)
      ∙ ap (λ (ws : List (CfgPoint × List Value)). g (vals_or (find eq_point q ws) d)) (sym v)

-- what the edges of a way out give a phi at q is what its edge to q gives
edges_give : (t : Terminator) (q : CfgPoint) (g : List Value → List ℕ) (d : List Value) → NoDup (keys t.vals) → ((p : CfgPoint) → In p (keys t.vals) → In p t.targets)
    → (In q t.targets → Takes q t)
    → if_used (count_in q t.targets) (g (vals_or (find eq_point q t.vals) d)) ≡ gather (λ e. g (values_along t.vals e d)) (entries_to q (term_edges t))
edges_give t q g d once led takes = by_count_law (count_in q t.targets) refl
  where
    by_way : Takes q t → g (vals_or (find eq_point q t.vals) d) ≡ taken q g d t.targets t.vals
    by_way (inl i) = sym (by_entry q g d t.targets t.vals once i)
    by_way (inr e) = sym (alone q g d t.targets t.vals e.0 e.1)

    by_count_law : (n : ℕ) → count_in q t.targets ≡ n → if_used n (g (vals_or (find eq_point q t.vals) d)) ≡ taken q g d t.targets t.vals
    by_count_law zero e = sym (away q g d t.targets t.vals (λ i. omega (arith, in_count q t.targets i)) led)
    by_count_law (suc n) e = by_way (takes (counted_in q t.targets (omega arith)))

-- ---- which way values are taken to a point with phis

in_key : {q : CfgPoint} {vs : List Value} (l : List (CfgPoint × List Value)) → In (q, vs) l → In q (keys l)
in_key l (here {l = k}) = here
in_key l (there {l = k} i) = there (in_key k i)

module _ (F : Func) where
  -- only the entry of a loop has phis that take values along an edge without an entry
  abbrev Given : CfgPoint × BlockLifting → Type 0
  Given x = (length x.1.defaults ≡ 0) ⊎ ((n : ℕ) × (x.0 ≡ node_entry n) × (x.1 ≡ in_block F (node_of F n) n))

  given_step : {x : CfgPoint × BlockLifting} {o : Option CfgPoint} → Step F x o → Given x
  given_step (step_entry v) = inl refl
  given_step (step_in {n = n} v sf e) = inr (n, refl, refl)
  given_step (step_out v sf) = inl refl
  given_step (step_exit v a) = inl refl

  module _ (ok : Shaped F) (control : control_fits F ≡ true) (i : ℕ) (h : i < length (walk_of F)) where
    abbrev T : Table
    T = walk_of F

    abbrev q : CfgPoint
    q = point_at F i

    abbrev b : BlockLifting
    b = visited_block F i

    found : find eq_point q T ≡ some b
    found = find_unique T (unique_of T (each_once F ok)) q b (in_get_or T i no_pair h)

    takes : (p : ℕ) → p < length (walk_of F) → ¬ (stands F p ≡ gone) → 0 < length b.keys → In q (visited_block F p).term.targets → Takes q (visited_block F p).term
    takes p l stays some_keys j =
        let w = (stands_fit F ok p l stays).to q j in
        let same : some w.0 ≡ some b = sym w.1 ∙ found in
        let block : w.0 ≡ b = cc in
        by_find (find eq_point q t.vals) refl (subst (λ (x : BlockLifting). length x.keys ≡ length (vals_or (find eq_point q t.vals) x.defaults)) block w.2)
      where
        t : Terminator
        t = (visited_block F p).term

        by_given : Given (get_or T i no_pair) → length b.keys ≡ length b.defaults → Takes q t
        by_given (inl z) e = absurd (omega arith)
        by_given (inr g) e =
            let c = carries F ok control p l in
            let keys_are : (in_block F (node_of F g.0) g.0).keys ≡ b.keys = ap (λ (x : BlockLifting). x.keys) (sym g.2) in
            let at : In (node_entry g.0) t.targets = subst (λ (x : CfgPoint). In x t.targets) g.1 j in
            subst (λ (x : CfgPoint). Takes x t) (sym g.1) (c.back g.0 at (λ z. omega (arith, ap length (sym keys_are ∙ z))))

        by_find : (o : Option (List Value)) → find eq_point q t.vals ≡ o → length b.keys ≡ length (vals_or (find eq_point q t.vals) b.defaults) → Takes q t
        by_find (some vs) e k = inl (in_key t.vals (find_in eq_point q t.vals e))
        by_find none e k = by_given (given_step (steps F ok i h)) (k ∙ ap (λ (o : Option (List Value)). length (vals_or o b.defaults)) e)

-- ---- all positions

run_up_to : {A : Type 0} (f : ℕ → List A) (k n : ℕ) → gather f (tabulate (λ j. j) k n) ≡ up_to (λ i. f (k + i)) n
unfolding up_to
run_up_to f k zero = refl
run_up_to {A} f k (suc n) =
    let z : k + 0 ≡ k = omega arith in
    ap (λ (l : List A). f k ++ l) (run_up_to f (suc k) n ∙ up_to_same _ _ (λ i. let s : suc k + i ≡ k + suc i = omega arith in ap f s) n)
    ∙ ap (λ (x : ℕ). f x ++ up_to (λ i. f (k + suc i)) n) (sym z)
    ∙ sym (up_to_cons (λ i. f (k + i)) n)

up_to_below : {A : Type 0} (f g : ℕ → List A) (n : ℕ) → ((i : ℕ) → i < n → f i ≡ g i) → up_to f n ≡ up_to g n
unfolding up_to
up_to_below f g zero h = refl
up_to_below {A} f g (suc n) h = ap₂ (λ (a b : List A). a ++ b) (up_to_below f g n (λ i l. h i (omega arith))) (h n (omega arith))

into_run : (F : Func) (f : ℕ × ℕ → List ℕ) (q : CfgPoint) → gather f (edges_into F q 0) ≡ up_to (λ p. gather f (edges_to q (position_edges F p))) (length (walk_of F))
unfolding edges_into edges_from
into_run F f q =
    let n : length (walk_of F) - 0 ≡ length (walk_of F) = omega arith in
    ap (gather f) (gather_gather (towards q) (position_edges F) (tabulate (λ j. j) 0 (length (walk_of F) - 0)))
    ∙ gather_gather f (λ p. edges_to q (position_edges F p)) (tabulate (λ j. j) 0 (length (walk_of F) - 0))
    ∙ run_up_to (λ p. gather f (edges_to q (position_edges F p))) 0 (length (walk_of F) - 0)
    ∙ ap (up_to (λ i. gather f (edges_to q (position_edges F (0 + i))))) n
    ∙ up_to_same _ _ (λ i. let z : 0 + i ≡ i = omega arith in ap (λ (p : ℕ). gather f (edges_to q (position_edges F p))) z) (length (walk_of F))

if_into : (f : ℕ × ℕ → List ℕ) (q : CfgPoint) (p : ℕ) (c : Bool) (l : List (CfgPoint × ℕ)) → gather f (edges_to q (edges_from_position p (list_if c l))) ≡ list_if c (gather f (edges_to q (edges_from_position p l)))
if_into f q p true l = refl
if_into f q p false l = refl

if_true : {A : Type 0} (c : Bool) {k l : List A} → (c ≡ true → k ≡ l) → list_if c k ≡ list_if c l
if_true true h = h refl
if_true false h = refl

-- pairs are written at the ends of blocks
pair_part : (F : Func) (first : ℕ) (T K : Table) (q : CfgPoint) (j : ℕ) (s : Status) (c : Bool) (x : CfgPoint × BlockLifting)
    → pass_part (pairing F first T K q j) s c x ≡ list_if (ends_by s c) ((pairing F first T K q j).end (label_point s x.0) x.1.term)
unfolding pass_part
pair_part F first T K q j gone c x = refl
pair_part F first T K q j starts true x = ap (λ (l : List ℕ). l ++ []) (gather_none x.1.ops)
pair_part F first T K q j starts false x = ap (λ (l : List ℕ). l ++ (pairing F first T K q j).end x.0 x.1.term) (gather_none x.1.ops)
pair_part F first T K q j (goes h) true x = ap (λ (l : List ℕ). l ++ []) (gather_none x.1.ops)
pair_part F first T K q j (goes h) false x = ap (λ (l : List ℕ). l ++ (pairing F first T K q j).end h x.1.term) (gather_none x.1.ops)

-- the pair of an edge, for phi j of a block that takes the values d along an edge without an entry
abbrev pub edge_pair : Func → ℕ → List Value → ℕ → ℕ × ℕ → List ℕ
edge_pair F first d j o =
    id_of F first (walk_of F) (kept (walk_of F)) (get_or (values_along (visited_block F o.0).term.vals o.1 d) j (const 0))
    ∷ label_of F first (walk_of F) (kept (walk_of F)) (head_at F o.0)
    ∷ []

module _ (F : Func) (ok : Shaped F) (control : control_fits F ≡ true) (first : ℕ) where
  abbrev W : Table
  W = walk_of F

  abbrev K : Table
  K = kept (walk_of F)

  module _ (i j : ℕ) (h : i < length (walk_of F)) (l : j < length (visited_block F i).keys) where
    abbrev p : CfgPoint
    p = point_at F i

    abbrev d : List Value
    d = (visited_block F i).defaults

    -- of the way out at position k
    end_pairs : (k : ℕ) → k < length (walk_of F) → ¬ (stands F k ≡ gone)
        → (pairing F first W K p j).end (head_at F k) (visited_block F k).term ≡ gather (edge_pair F first d j) (edges_to p (edges_from_position k (term_edges (visited_block F k).term)))
    end_pairs k b stays =
        let t : Terminator = (visited_block F k).term in
        let g : List Value → List ℕ = λ vs. id_of F first W K (get_or vs j (const 0)) ∷ label_of F first W K (head_at F k) ∷ [] in
        let c = carries F ok control k b in
        let edge : edge_of K t p ≡ vals_or (find eq_point p t.vals) d =
        edge_unchanged F ok t p ∙ ap (λ (o : Option BlockLifting). vals_or (find eq_point p t.vals) (block_or o).defaults) (found F ok control i h) in
        ap (λ (vs : List Value). if_used (count_in p t.targets) (g vs)) edge
        ∙ edges_give t p g d c.once c.led (λ y. takes F ok control i h k b stays (omega arith) y)
        ∙ sym (gather_into (edge_pair F first d j) p k (term_edges t))

    position_pairs : (k : ℕ) → k < length (walk_of F) → part_at (use_count W) (pairing F first W K p j) W k ≡ gather (edge_pair F first d j) (edges_to p (position_edges F k))
    unfolding part_at position_edges end_edges
    position_pairs k b =
        pair_part F first W K p j (stands F k) (absorbs F k) (get_or W k no_pair)
        ∙ if_true (ends_here F k) (λ e. end_pairs k b (ends_by_law (stands F k) (absorbs F k) e).0)
        ∙ sym (if_into (edge_pair F first d j) p k (ends_here F k) (term_edges (visited_block F k).term))

    -- phi j of the block at position i has a pair for each edge into its point, in order
    pub pairs_linked : pairs F first (walk_of F) (kept (walk_of F)) (kept (walk_of F)) (point_at F i) j
        ≡ gather (edge_pair F first (visited_block F i).defaults j) (edges_into F (point_at F i) 0)
    pairs_linked = pairs_are F ok first p j ∙ up_to_below _ _ (length W) position_pairs ∙ sym (into_run F (edge_pair F first d j) p)
