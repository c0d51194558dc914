-- The edges into a visited point: the values along each, and the block that it comes from. Assumes nothing.
--     along_count, along_named    there are as many values as the point has phis, and each names something
--     origin_low, origin_kept     an edge comes from a position of the walk, which stands in a kept block
--     head_small                  the point whose label that block has is one of the text
use Rattle.std.specs.Prelude.{◌≡◌, refl, Bool, true, false, List, [], ◌∷◌, map, ℕ, zero, suc, ◌<◌, get_or, length}
use Rattle.std.proofs.Common.{sym, ap, subst, ◌∙◌, arith}
use Rattle.std.proofs.Math.Option.{Option, none, some}
use Rattle.general_laws.specs.Lists.{choose_no, choose_yes, find, gather, keys}
use Rattle.lifting.specs.Ast.{ControlInst, Func, Node, Value, block, exit, loop, select}
use Rattle.lifting.specs.Parts.{ctrl_of, node_of, node_values, region_of, vals_or}
use Rattle.lifting.specs.Control.{control_fits}
use Rattle.lifting.specs.Points.{BlockLifting, CfgPoint, Table, Terminator, eq_point, node_entry, node_exit, region_entry, region_exit}
use Rattle.lifting.specs.Walk.{Place, always, child_term, exit_term, in_block, in_node, loop_term, root_term, some_vals, top, walk_of}
use Rattle.func.specs.Decode.{func_of}
use Rattle.general_laws.specs.Members.{All, In, NoDup, in_get_or}
use Rattle.general_laws.specs.Tests.{all_split}
use Rattle.lifting_runs.specs.Refers.{Named, Refers}
use Rattle.lifting_runs.specs.Tour.{find_unique, unique_of}
use Rattle.lifting_blocks.specs.Flat.{Status, goes, gone, no_pair, starts}
use Rattle.lifting_blocks.specs.Laws.{each_once, stands_fit}
use Rattle.walk_points.specs.Numbers.{Small}
use Rattle.walk_points.specs.Walk.{Walkable}
use Rattle.terminators.specs.At.{block_is, visited_block, block_of, place_in, point_at}
use Rattle.terminators.specs.Edges.{values_along}
use Rattle.terminators.specs.Visited.{Visited, point_small}
use Rattle.block_absorbs.specs.Absorbs.{goes_from, stands}
use Rattle.emit_edge_ends.specs.Ends.{EdgeAlong, EndsAt, by_entry, by_sole, edge_end, edges_into, end_edge, head_at, label_point}
use Rattle.emit_edge_ends.specs.Links.{ChainRest}
use Rattle.emit_edge_ends.specs.Values.{carries, edge_target, in_keys_law}

-- ---- how many

-- the first entry of a key that stands once
find_at : {K A : Type 0} (eq : (x y : K) → Dec (x ≡ y)) (l : List (K × A)) → NoDup (keys l) → (e : ℕ) (d : K × A) → e < length l
    → find eq (get_or l e d).0 l ≡ some (get_or l e d).1
find_at eq [] u e d h = absurd (omega arith)
find_at eq (x ∷ l) u zero d h = choose_yes (eq x.0 x.0) (some x.1) (find eq x.0 l) refl
find_at {K} eq (x ∷ l) u (suc e) d h =
    choose_no (eq (get_or l e d).0 x.0) (some x.1) (find eq (get_or l e d).0 l)
    (λ y. u.0 (subst (λ (k : K). In k (keys l)) y (in_keys_law l e d (omega arith))))
    ∙ find_at eq l u.1 e d (omega arith)

-- the values along an edge to q are those of the entry for q, or what q takes along an edge without one
along_entry : (vs : List (CfgPoint × List Value)) (ps : List CfgPoint) (q : CfgPoint) (e : ℕ) (d : List Value) → NoDup (keys vs) → EdgeAlong vs ps q e
    → vals_or (find eq_point q vs) d ≡ values_along vs e d
along_entry [] ps q e d u (by_entry l y) = absurd (omega arith)
along_entry (x ∷ vs) ps q e d u (by_entry l y) =
    ap (λ (o : Option (List Value)). vals_or o d)
    (ap (λ (p : CfgPoint). find eq_point p (x ∷ vs)) (sym y) ∙ find_at eq_point (x ∷ vs) u e (region_entry 0, []) l)
along_entry vs ps q e d u (by_sole v y z) =
    ap (λ (ws : List (CfgPoint × List Value)). vals_or (find eq_point q ws) d) v ∙ sym (ap (λ (ws : List (CfgPoint × List Value)). values_along ws e d) v)

-- ---- what they name

module _ (F : Func) where
  abbrev EntryNamed : CfgPoint × List Value → Type 0
  EntryNamed x = All (Named F) x.1

  entries_named : (l : List (ℕ × List Value)) → All (Named F) (gather (λ e. e.1) l) → All EntryNamed (map (λ e. (region_entry e.0, e.1)) l)
  entries_named [] h = tt
  entries_named (x ∷ l) h = let s = all_split (Named F) x.1 (gather (λ e. e.1) l) h in (s.0, entries_named l s.1)

  some_named : (q : CfgPoint) (vs : List Value) → All (Named F) vs → All EntryNamed (some_vals q vs)
  some_named q [] h = tt
  some_named q (v ∷ vs) h = (h, tt)

  along_all : (vs : List (CfgPoint × List Value)) (e : ℕ) (d : List Value) → All EntryNamed vs → All (Named F) d → All (Named F) (values_along vs e d)
  along_all [] e d h k = k
  along_all (x ∷ vs) e d h k = at (x ∷ vs) e h
    where
      at : (vs : List (CfgPoint × List Value)) (e : ℕ) → All EntryNamed vs → EntryNamed (get_or vs e (region_entry 0, []))
      at [] e h = tt
      at (x ∷ vs) zero h = h.0
      at (x ∷ vs) (suc e) h = at vs e h.1

  module _ (refs : Refers F) where
    root_vals : (o : Option ControlInst) (r : ℕ) → ctrl_of F r ≡ o → All EntryNamed (root_term F o r).vals
    root_vals none r e = tt
    root_vals (some c) r e = entries_named c.vals (all_split (Named F) c.ins _ (refs.named.ctrl r e)).1

    loop_vals : (b : Bool) (n : ℕ) (c : Value) (vs : List Value) → All (Named F) vs → All EntryNamed (loop_term F b n c vs).vals
    loop_vals true n c vs h = some_named (node_entry n) vs h
    loop_vals false n c vs h = some_named (node_entry n) vs h

    child_vals : (d : Node) (n : ℕ) (vs : List Value) → All (Named F) vs → All EntryNamed (child_term F d n vs).vals
    child_vals (block is) n vs h = tt
    child_vals (select k v cs ds u) n vs h = some_named (node_exit n) vs h
    child_vals (loop b c is u) n vs h = loop_vals (always F c) n c vs h
    child_vals (exit i ws) n vs h = tt

    exit_vals : (r : ℕ) (p : Place) → All EntryNamed (exit_term F r p).vals
    exit_vals r top = root_vals (ctrl_of F r) r refl
    exit_vals r (in_node n) = child_vals (node_of F n) n (region_of F r).outs (refs.named.outs r)

    in_vals : (d : Node) (n : ℕ) → All EntryNamed (in_block F d n).term.vals
    in_vals (block is) n = tt
    in_vals (select k v cs ds u) n = tt
    in_vals (loop b c is u) n = tt
    in_vals (exit i vs) n = tt

    in_defaults : (d : Node) (n : ℕ) → All (Named F) (node_values d) → All (Named F) (in_block F d n).defaults
    in_defaults (block is) n h = tt
    in_defaults (select k v cs ds u) n h = tt
    in_defaults (loop b c is u) n h = h.1
    in_defaults (exit i vs) n h = tt

    block_vals : (p q : CfgPoint) → All EntryNamed (block_of F p q).term.vals
    block_vals (region_entry r) q = tt
    block_vals (region_exit r) q = exit_vals r (place_in F r)
    block_vals (node_entry n) q = in_vals (node_of F n) n
    block_vals (node_exit n) q = tt

    block_defaults : (p q : CfgPoint) → All (Named F) (block_of F p q).defaults
    block_defaults (region_entry r) q = tt
    block_defaults (region_exit r) q = tt
    block_defaults (node_entry n) q = in_defaults (node_of F n) n (refs.named.node n)
    block_defaults (node_exit n) q = tt

-- ---- an edge into the i-th visited point

-- the chain of the edges into it starts at edge h
abbrev pub FirstInto : Func → List ℕ → ℕ → ℕ → Type 0
FirstInto F u i h = ChainRest F (point_at F i) u [] h

-- what moves along it
abbrev pub along_edge : Func → ℕ → ℕ × ℕ → List Value
along_edge F i o = values_along (visited_block F o.0).term.vals o.1 (visited_block F i).defaults

module _ (F : Func) (i : ℕ) {o : ℕ × ℕ} (x : In o (edges_into F (point_at F i) 0)) where
  origin : EndsAt F (point_at F i) o.0 o.1
  origin = edge_end F (point_at F i) 0 o x

  pub origin_low : o.0 < length (walk_of F)
  origin_low = origin.low

  pub origin_kept : ¬ (stands F o.0 ≡ gone)
  origin_kept = origin.kept

  module _ (ok : Walkable F) (h : i < length (walk_of F)) where
    pub along_count : control_fits F ≡ true → length (visited_block F i).keys ≡ length (along_edge F i o)
    along_count control =
        let T : Table = walk_of F in
        let q : CfgPoint = point_at F i in
        let t : Terminator = (visited_block F o.0).term in
        let c = carries F ok.shaped control o.0 origin_low in
        let w = (stands_fit F ok.shaped o.0 origin_low origin_kept).to q (edge_target t c origin.edge) in
        let same : some w.0 ≡ some (visited_block F i) = sym w.1 ∙ find_unique T (unique_of T (each_once F ok.shaped)) q (visited_block F i) (in_get_or T i no_pair h) in
        let here : w.0 ≡ visited_block F i = cc in
        subst (λ (b : BlockLifting). length b.keys ≡ length (vals_or (find eq_point q t.vals) b.defaults)) here w.2
        ∙ ap length (along_entry t.vals t.targets q o.1 (visited_block F i).defaults c.once (end_edge t origin.edge))

    pub along_named : Refers F → All (Named F) (along_edge F i o)
    along_named refs =
        along_all F (visited_block F o.0).term.vals o.1 (visited_block F i).defaults
        (subst (λ (b : BlockLifting). All (EntryNamed F) b.term.vals) (sym (block_is F ok o.0 origin_low)) (block_vals F refs (point_at F o.0) (point_at F (suc o.0))))
        (subst (λ (b : BlockLifting). All (Named F) b.defaults) (sym (block_is F ok i h)) (block_defaults F refs (point_at F i) (point_at F (suc i))))

-- ---- the block that it comes from

pub head_small : {w u : List ℕ} {m : ℕ} → Visited w u m → (p : ℕ) → p < m → Small (head_at (func_of w) p)
head_small {w} k p h = go (stands (func_of w) p) refl
  where
    go : (s : Status) → stands (func_of w) p ≡ s → Small (label_point s (point_at (func_of w) p))
    go gone e = point_small k p h
    go starts e = point_small k p h
    go (goes q) e = let r = goes_from (func_of w) p e in subst Small (sym r.2) (point_small k r.0 (omega (arith, r.1)))
