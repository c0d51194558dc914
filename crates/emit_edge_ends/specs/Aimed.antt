-- What linking asks of a text: entries of ctrl lines name regions, and there are few enough edges for the tables. Assumes nothing.
--     aimed_checked   the entries of a text that passes refusal 4 name regions
--     edges_few       there are at most 1,024 edges: one for each position, and one for each entry of a ctrl line
--     edges_fit_law       all of them fit the tables
use Rattle.std.specs.Prelude.{◌≡◌, refl, Bool, true, false, ◌&&◌, List, [], ◌∷◌, ◌++◌, map, ℕ, zero, suc, ◌+◌, ◌-◌, ◌≤◌, ◌<◌, leb, ltb, get_or}
use Rattle.std.proofs.Math.Path.{ap}
use Rattle.std.proofs.Common.{subst, length-append, ltb-true}
use Rattle.std.proofs.Math.Option.{Option, none, some}
use Rattle.std.proofs.Math.Decide.{ℕ_discrete}
use native.Mathlib.Omega.{arith}
use Rattle.std.proofs.Math.ListN.{length, length-map}
use Rattle.general_laws.specs.Lists.{choose, choose_yes, distinct, every, find, gather, keys, tabulate}
use Rattle.lifting.specs.Ast.{ControlInst, Func, Node, Value, block, exit, loop, select}
use Rattle.lifting.specs.Parts.{child_list, ctrl_of, ctrl_regions, insts, node_of, region_of, required_ids, values}
use Rattle.lifting.specs.Limits.{max_opcode}
use Rattle.lifting.specs.References.{control_holds, inst_fits, named, references_hold}
use Rattle.lifting.specs.Points.{BlockLifting, CfgPoint, Table, Terminator, eq_point, node_entry, node_exit, points, region_entry, region_exit}
use Rattle.lifting.specs.Walk.{Place, always, child_term, exit_term, in_block, loop_term, root_term, some_vals, walk_of}
use Rattle.lifting.specs.Absorb.{merge_labels}
use Rattle.func.specs.Whole.{entry_list}
use Rattle.func.specs.Decode.{func_of}
use Rattle.func.specs.Tables.{ctrl_line_of, entry_of}
use Rattle.func_fits.specs.Parsed.{Few, few_control}
use Rattle.general_laws.specs.Members.{All, In, NoDup, all_from, all_in, in_get_or, in_nil, in_right}
use Rattle.general_laws.specs.Tests.{all_part, all_split, both, every_all}
use Rattle.lifting_runs.specs.Places.{VisitedAt, at_body, by_ctrl, in_case, in_loop}
use Rattle.lifting_runs.specs.Shaped.{Shaped}
use Rattle.check_text.specs.Same.{Stands}
use Rattle.lifting_blocks.specs.Flat.{no_pair}
use Rattle.lifting_blocks.specs.Steps.{Step, step_entry, step_exit, step_in, step_out}
use Rattle.lifting_blocks.specs.Totals.{total, total_once}
use Rattle.lifting_blocks.specs.Laws.{each_once, steps}
use Rattle.walk_points.specs.Numbers.{point_number}
use Rattle.terminators.specs.At.{visited_block, point_at}
use Rattle.terminators.specs.Edges.{edges_by, entry_edges, sole_edge, term_edges}
use Rattle.terminators.specs.Visited.{label_small}
use Rattle.blocks.specs.Laid.{Laid}
use Rattle.emit_edge_ends.specs.Ends.{EdgeAlong, Edge, by_entry, by_sole, edge_from, edges_done, position_edges, edges_from, edges_run, end_edge, end_edges, ends_here, list_if, position_in}
use Rattle.emit_edge_ends.specs.Links.{Held}
use Rattle.emit_edge_ends.specs.Values.{carries, edge_target, in_keys_law}

-- how many edges without an entry a way out with n targets has, and how many a way back that takes these values along
abbrev pub sole_count : ℕ → ℕ
sole_count zero = 0
sole_count (suc zero) = 1
sole_count (suc (suc n)) = 0

abbrev pub any_of : List Value → ℕ
any_of [] = 0
any_of (v ∷ vs) = 1

-- where edge k leads
abbrev pub number_at : List (CfgPoint × ℕ) → ℕ → ℕ
number_at l k = point_number (get_or l k (region_entry 0, 0)).0

-- entries of ctrl lines name regions
pub record Aimed (F : Func) : Type 0 where
  pub entry : (c e : ℕ) → c < length F.ctrls → e < length (ctrl_line_of F c).1.vals → (entry_of F c e).0 < length F.regions

pub aimed_checked : (F : Func) → references_hold F ≡ true → Aimed F
unfolding references_hold ctrl_regions
aimed_checked F e =
    let fit = both _ (every inst_fits (insts F)) e in
    let controls = both _ (every control_holds F.nodes) fit.0 in
    let opcodes = both _ (every (λ c. leb c.opcode max_opcode) F.consts) controls.0 in
    let consts = both _ (distinct (map (λ c. c.id) F.consts)) opcodes.0 in
    let ids = both _ (every (λ x. ltb 0 x) (required_ids F)) consts.0 in
    let regions = both (every (named F) (values F) && _ && _) (every (λ r. ltb r (length F.regions)) (child_list F ++ ctrl_regions F)) ids.0 in
    let low : All (λ r. r < length F.regions) (child_list F ++ ctrl_regions F) =
    every_all _ _ (λ r t. ltb-true r (length F.regions) t) (child_list F ++ ctrl_regions F) regions.1 in
    record {
      entry = λ c e h l.
          let x = ctrl_line_of F c in
          let all = all_part _ (λ c. c.0 ∷ (c.1.to ++ keys c.1.vals)) F.ctrls (all_split _ (child_list F) (ctrl_regions F) low).1 (in_get_or F.ctrls c _ h) in
          all_in _ (keys x.1.vals) (all_split _ x.1.to (keys x.1.vals) all.1).1 (entry_of F c e).0 (in_keys_law x.1.vals e (0, []) l);
    }

-- ---- how many edges there are

-- the entries of a ctrl line, where the point is the exit of its region
abbrev weight : Option ControlInst → ℕ
weight none = 0
weight (some c) = length c.vals

abbrev entries_at : List (ℕ × ControlInst) → CfgPoint → ℕ
entries_at L (region_entry r) = 0
entries_at L (region_exit r) = weight (find ℕ_discrete r L)
entries_at L (node_entry n) = 0
entries_at L (node_exit n) = 0

abbrev at_point : CfgPoint → ℕ → CfgPoint → ℕ
at_point x n p = choose (eq_point p x) n 0

entries_more : (x : ℕ × ControlInst) (L : List (ℕ × ControlInst)) (p : CfgPoint)
    → entries_at (x ∷ L) p ≤ at_point (region_exit x.0) (length x.1.vals) p + entries_at L p
entries_more x L (region_entry r) = omega arith
entries_more x L (node_entry n) = omega arith
entries_more x L (node_exit n) = omega arith
entries_more x L (region_exit r) = by_case (ℕ_discrete r x.0)
  where
    n : ℕ
    n = length x.1.vals

    by_case : (d : Dec (r ≡ x.0)) → weight (choose d (some x.1) (find ℕ_discrete r L)) ≤ at_point (region_exit x.0) n (region_exit r) + weight (find ℕ_discrete r L)
    by_case (yes e) = omega (arith, choose_yes {A = ℕ} (eq_point (region_exit r) (region_exit x.0)) n 0 (ap region_exit e))
    by_case (no m) = omega arith

entries_none : (l : List CfgPoint) → total (entries_at []) l ≡ 0
entries_none [] = refl
entries_none (region_entry r ∷ l) = omega (arith, entries_none l)
entries_none (region_exit r ∷ l) = omega (arith, entries_none l)
entries_none (node_entry n ∷ l) = omega (arith, entries_none l)
entries_none (node_exit n ∷ l) = omega (arith, entries_none l)

total_sum : (f g h : CfgPoint → ℕ) → ((p : CfgPoint) → f p ≤ g p + h p) → (l : List CfgPoint) → total f l ≤ total g l + total h l
total_sum f g h a [] = omega arith
total_sum f g h a (p ∷ l) = omega (arith, a p, total_sum f g h a l)

-- the lines of distinct regions have no more entries than all lines together
entries_once : (L : List (ℕ × ControlInst)) (l : List CfgPoint) → NoDup l → total (entries_at L) l ≤ length (gather (λ c. c.1.vals) L)
entries_once [] l u = omega (arith, entries_none l)
entries_once (x ∷ L) l u =
    omega (
      arith,
      total_sum (entries_at (x ∷ L)) (at_point (region_exit x.0) (length x.1.vals)) (entries_at L) (entries_more x L) l,
      total_once eq_point (region_exit x.0) (length x.1.vals) l u,
      entries_once L l u,
      length-append x.1.vals (gather (λ c. c.1.vals) L),
    )

-- ---- of one way out

pub length_entries : (e : ℕ) (l : List (CfgPoint × List Value)) → length (entry_edges e l) ≡ length l
length_entries e [] = refl
length_entries e (x ∷ l) = ap suc (length_entries (suc e) l)

sole_few : (ps : List CfgPoint) → length (sole_edge ps) ≤ 1
sole_few [] = omega arith
sole_few (p ∷ []) = omega arith
sole_few (p ∷ q ∷ l) = omega arith

by_few : (vs : List (CfgPoint × List Value)) (ps : List CfgPoint) → length (edges_by vs ps) ≤ 1 + length vs
by_few [] ps = omega (arith, sole_few ps)
by_few (x ∷ l) ps = omega (arith, length_entries 0 (x ∷ l))

by_most : (vs : List (CfgPoint × List Value)) (ps : List CfgPoint) → length vs ≤ length (edges_by vs ps)
by_most [] ps = omega arith
by_most (x ∷ l) ps = omega (arith, length_entries 0 (x ∷ l))

some_few : (p : CfgPoint) (vs : List Value) (ps : List CfgPoint) → length (edges_by (some_vals p vs) ps) ≤ 1
some_few p [] ps = sole_few ps
some_few p (v ∷ vs) ps = omega arith

module _ (F : Func) where
  few_in : (d : Node) (n : ℕ) → length (term_edges (in_block F d n).term) ≤ 1
  few_in (block is) n = omega arith
  few_in (select k v cs ds u) n = sole_few (map region_entry cs)
  few_in (loop b c is u) n = omega arith
  few_in (exit i vs) n = omega arith

  few_child : (d : Node) (n : ℕ) (vs : List Value) → length (term_edges (child_term F d n vs)) ≤ 1
  few_child (block is) n vs = omega arith
  few_child (select k v cs ds u) n vs = some_few (node_exit n) vs (node_exit n ∷ [])
  few_child (loop b c is u) n vs = by_case (always F c)
    where
      by_case : (a : Bool) → length (term_edges (loop_term F a n c vs)) ≤ 1
      by_case true = some_few (node_entry n) vs (node_entry n ∷ [])
      by_case false = some_few (node_entry n) vs (node_entry n ∷ node_exit n ∷ [])
  few_child (exit i ws) n vs = omega arith

  few_root : (o : Option ControlInst) (r : ℕ) → length (term_edges (root_term F o r)) ≤ 1 + weight o
  few_root none r = omega arith
  few_root (some c) r =
      omega (arith, by_few (root_term F (some c) r).vals (root_term F (some c) r).targets, length-map {B = CfgPoint × List Value} c.vals (λ e. (region_entry e.0, e.1)))

  few_exit : {r : ℕ} {p : Place} → VisitedAt F r p → length (term_edges (exit_term F r p)) ≤ 1 + entries_at F.ctrls (region_exit r)
  few_exit at_body = few_root (ctrl_of F 0) 0
  few_exit (by_ctrl {s = s} v e i) = few_root (ctrl_of F s) s
  few_exit (in_case {n = n} {c = c} v sf e i) = omega (arith, few_child (node_of F n) n (region_of F c).outs)
  few_exit (in_loop {n = n} {b = b} v sf e) = omega (arith, few_child (node_of F n) n (region_of F b).outs)

  few_step : {x : CfgPoint × BlockLifting} {o : Option CfgPoint} → Step F x o → length (term_edges x.1.term) ≤ 1 + entries_at F.ctrls x.0
  few_step (step_entry v) = omega arith
  few_step (step_in {n = n} v sf e) = omega (arith, few_in (node_of F n) n)
  few_step (step_out v sf) = omega arith
  few_step (step_exit v a) = few_exit v

-- ---- of all positions

edges_total : (f : CfgPoint → ℕ) (g : ℕ → List Edge) (T : Table) (k : ℕ) → ((j : ℕ) → j < length T → length (g (k + j)) ≤ 1 + f (get_or T j no_pair).0)
    → length (gather g (tabulate (λ j. j) k (length T))) ≤ length T + total f (points T)
edges_total f g [] k h = omega arith
edges_total f g (x ∷ T) k h =
    let z : k + 0 ≡ k = omega arith in
    let first : length (g k) ≤ 1 + f x.0 = subst (λ (n : ℕ). length (g n) ≤ 1 + f x.0) z (h 0 (omega arith)) in
    omega (
      arith,
      length-append (g k) (gather g (tabulate (λ j. j) (suc k) (length T))),
      edges_total f g T (suc k) (λ j l.
          let s : k + suc j ≡ suc k + j = omega arith in
          subst (λ (n : ℕ). length (g n) ≤ 1 + f (get_or T j no_pair).0) s (h (suc j) (omega arith))),
    )

if_few : {A : Type 0} (b : Bool) (l : List A) → length (list_if b l) ≤ length l
if_few true l = omega arith
if_few false l = omega arith

module _ (F : Func) (ok : Shaped F) (few : Few F) where
  entries_low : (p : CfgPoint) → entries_at F.ctrls p ≤ 512
  unfolding entry_list
  entries_low p = omega (arith, entries_once F.ctrls (p ∷ []) (λ i. in_nil i, tt), few.entries)

  position_few : (i : ℕ) → i < length (walk_of F) → length (term_edges (visited_block F i).term) ≤ 1 + entries_at F.ctrls (point_at F i)
  position_few i h = few_step F (steps F ok i h)

  pub edges_few : length (walk_of F) ≤ 512 → length (edges_from F 0) ≤ 1024
  unfolding edges_from position_edges end_edges entry_list
  edges_few h =
      let T : Table = walk_of F in
      let n : length T - 0 ≡ length T = omega arith in
      let each : (j : ℕ) → j < length T → length (position_edges F (0 + j)) ≤ 1 + entries_at F.ctrls (get_or T j no_pair).0 = λ j l.
      let y : 0 + j ≡ j = omega arith in
      omega (arith, ap (λ (x : ℕ). length (position_edges F x)) y, length-map (end_edges F j) (edge_from j), if_few (ends_here F j) (term_edges (visited_block F j).term), position_few j l) in
      omega (
        arith,
        ap (λ (x : ℕ). length (edges_run F 0 x)) n,
        edges_total (entries_at F.ctrls) (position_edges F) T 0 each,
        entries_once F.ctrls (points T) (each_once F ok),
        few.entries,
      )

-- all edges fit the tables
pub record EdgesFit (F : Func) : Type 0 where
  pub held : All Held (edges_from F 0)
  pub few : length (edges_from F 0) ≤ 1024

module _ {w u : List ℕ} {m : ℕ} (k : Laid w u m) (s : Stands (func_of w) w) where
  abbrev F : Func
  F = func_of w

  few_lines : Few (func_of w)
  few_lines = few_control F s.passes.limits s.passes.references s.passes.control

  held_at : (x : Edge) → In x (edges_from F 0) → Held x
  held_at x i =
      let e = position_in F 0 x i in
      let v = k.walked (omega (arith, k.count, e.low)) in
      let t : Terminator = (visited_block F x.from).term in
      let c = carries F v.walkable.shaped s.passes.control x.from e.low in
      record {
        small = label_small v x.from (omega (arith, k.count, e.low)) x.to (in_right (merge_labels t.merge) (edge_target t c e.edge));
        low = low v.walkable.shaped e.low (end_edge t e.edge);
      }
    where
      low : Shaped F → x.from < length (walk_of F) → EdgeAlong (visited_block F x.from).term.vals (visited_block F x.from).term.targets x.to x.entry → x.entry < 1024
      low ok h (by_entry l y) =
          let t : Terminator = (visited_block F x.from).term in
          omega (arith, by_most t.vals t.targets, position_few F ok few_lines x.from h, entries_low F ok few_lines (point_at F x.from))
      low ok h (by_sole v y z) = omega arith

  -- the edges of a text that passes refusals 3 to 7
  pub edges_fit_law : EdgesFit (func_of w)
  edges_fit_law = record { held = all_from Held (edges_from F 0) held_at; few = by_count_law m refl }
    where
      by_count_law : (n : ℕ) → m ≡ n → length (edges_from F 0) ≤ 1024
      by_count_law zero e = omega (arith, ap length (edges_done F 0 (omega (arith, k.count))))
      by_count_law (suc n) e = edges_few F (k.walked (omega arith)).walkable.shaped few_lines (omega (arith, k.few, k.count))
