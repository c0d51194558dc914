-- Steps of the proofs, over plain variables: which way out each kind of point has, and what its parts are. Assumes nothing.
--     low_even, ..     a point by its number
--     straight_on      the next visited point
--     is_loop_law, in_way  a node by its kind
use Rattle.std.specs.Prelude.{◌≡◌, refl, Option as Answer, Some, None, Bool, true, false, List, [], map, ℕ, zero, suc, ◌+◌, ◌-◌, ◌/◌, ◌%◌, ◌≤◌, ◌<◌, eqb, length, get_or}
use Rattle.std.proofs.Math.Path.{sym}
use Rattle.std.proofs.Common.{ap, ap₂, subst, ◌∙◌, arith, eq-eqb, ne_eqb, lt-ltb, le-ltb}
use Rattle.std.proofs.Math.Bool.{cond}
use Rattle.std.proofs.lemmas.Bool.{false≢true}
use Rattle.std.proofs.Math.Option.{Option}
use Rattle.lifting.specs.Ast.{ControlInst, Decl, Func, Node, Value, block, bool_cond, const, exit, loop, node_output, region_input, select, spv_inst}
use Rattle.lifting.specs.Parts.{children_of, node_control, node_of, node_values, out_keys, region_of}
use Rattle.lifting.specs.Points.{BlockLifting, CfgPoint, Terminator, no_merge, selection_merge, node_entry, node_exit, region_entry, region_exit, straight}
use Rattle.lifting.specs.Walk.{Place, always, child_term, entry_keys, exit_term, in_block, in_node, loop_term, root_term, top, walk_of}
use Rattle.func.specs.declared.NodeKind.{NodeKind}
use Rattle.func.specs.declared.NodeKind.TheVariants.{Block, SelectBool, SelectInst, Loop, Exit}
use Rattle.func.specs.Search.{CtrlIs}
use Rattle.func.specs.Decode.{first_value, func_of}
use Rattle.func.specs.Tables.{Tables}
use Rattle.func.specs.Kinds.{node_kind}
use Rattle.general_laws.specs.Members.{In, in_nil, length_tabulate}
use Rattle.work.specs.Layout.{points_at}
use Rattle.lifting_blocks.specs.Follow.{goes_on}
use Rattle.lifting_blocks.specs.Laws.{follows}
use Rattle.walk_points.specs.Numbers.{node_base, point_back, number_back, point_low, point_number, point_of}
use Rattle.walk_points.specs.Parents.{parent_has, parent_word}
use Rattle.walk_points.specs.Walk.{Walkable, few_nodes}
use Rattle.terminators.specs.At.{InText, visited_block, block_is, block_of, in_text_law, place_by, place_in, point_at}
use Rattle.terminators.specs.Visited.{Visited, point_small, point_read}
use Rattle.terminators.specs.declared.TermKind.{TermKind}
use Rattle.terminators.specs.declared.TermKind.TheVariants.{Straight, Return, Line, Select as SelectWay, Loop as LoopWay, Join, Repeat, Test}
use Rattle.terminators.specs.Kinds.{TermIs, is_loop, term_of}

-- ---- points by number

-- the entry for an even number, the exit for an odd one
abbrev side : (ℕ → CfgPoint) → (ℕ → CfgPoint) → Bool → ℕ → CfgPoint
side a b t x = cond t (a (x / 2)) (b (x / 2))

abbrev region : Bool → ℕ → CfgPoint
region = side region_entry region_exit

abbrev node : Bool → ℕ → CfgPoint
node = side node_entry node_exit

module _ (p : ℕ) where
  low : p < node_base → {t : Bool} → eqb (p % 2) 0 ≡ t → region t p ≡ point_of p
  unfolding point_of
  low l z = sym (ap₂ (λ (s t : Bool). cond s (region t p) (node (eqb ((p - node_base) % 2) 0) (p - node_base))) (lt-ltb p node_base l) z)

  high : node_base ≤ p → {t : Bool} → eqb ((p - node_base) % 2) 0 ≡ t → node t (p - node_base) ≡ point_of p
  unfolding point_of
  high l z = sym (ap₂ (λ (s t : Bool). cond s (region (eqb (p % 2) 0) p) (node t (p - node_base))) (le-ltb p node_base l) z)

  pub low_even : p < node_base → p % 2 ≡ 0 → region_entry (p / 2) ≡ point_of p
  low_even l z = low l (eq-eqb (p % 2) 0 z)

  pub low_odd : p < node_base → ¬ (p % 2 ≡ 0) → region_exit (p / 2) ≡ point_of p
  low_odd l z = low l (ne_eqb (p % 2) 0 z)

  pub high_even : node_base ≤ p → (p - node_base) % 2 ≡ 0 → node_entry ((p - node_base) / 2) ≡ point_of p
  high_even l z = high l (eq-eqb ((p - node_base) % 2) 0 z)

  pub high_odd : node_base ≤ p → ¬ ((p - node_base) % 2 ≡ 0) → node_exit ((p - node_base) / 2) ≡ point_of p
  high_odd l z = high l (ne_eqb ((p - node_base) % 2) 0 z)

-- ---- the point at a position

module _ {w u : List ℕ} {m : ℕ} (k : Visited w u m) (i : ℕ) (h : i < m) where
  inside : i < length (walk_of (func_of w))
  inside = omega (arith, k.count)

  pub of_text : {p : CfgPoint} → p ≡ point_at (func_of w) i → InText (func_of w) p
  of_text e = subst (InText (func_of w)) (sym e) (in_text_law (func_of w) k.walkable i inside)

  pub number_below : point_number (point_at (func_of w) i) < 512
  number_below = point_low (point_at (func_of w) i) (point_small k i h)

  pub block_of_law : {p : CfgPoint} → p ≡ point_at (func_of w) i → visited_block (func_of w) i ≡ block_of (func_of w) p (point_at (func_of w) (suc i))
  block_of_law e = block_is (func_of w) k.walkable i inside ∙ ap (λ (q : CfgPoint). block_of (func_of w) q (point_at (func_of w) (suc i))) (sym e)

  -- its phis
  pub keys_law : {p : CfgPoint} → p ≡ point_at (func_of w) i → length (block_of (func_of w) p (point_at (func_of w) (suc i))).keys ≡ length (visited_block (func_of w) i).keys
  keys_law e = sym (ap (λ (b : BlockLifting). length b.keys) (block_of_law e))

  -- the way out of a point from that of its block
  pub way_of : {p : CfgPoint} {x : TermKind} → p ≡ point_at (func_of w) i → TermIs (func_of w) (block_of (func_of w) p (point_at (func_of w) (suc i))).term x
      → TermIs (func_of w) (visited_block (func_of w) i).term x
  way_of e y = record { is = ap (λ (b : BlockLifting). b.term) (block_of_law e) ∙ y.is; fits = y.fits }

pub straight_on : {w u : List ℕ} {m : ℕ} → Visited w u m → (i : ℕ) → i < m → goes_on (func_of w) (point_at (func_of w) i) ≡ true
    → {p : ℕ} → p ≡ get_or u (points_at + i + 1) 0 → TermIs (func_of w) (visited_block (func_of w) i).term (Straight p)
straight_on {w} {u} {m} k i h g {p} e =
    let f = follows (func_of w) k.walkable.shaped i (omega (arith, k.count)) g in
    let l : suc i < m = omega (arith, f.0, k.count) in
    let at : points_at + i + 1 ≡ points_at + suc i = omega arith in
    let q : p ≡ get_or u (points_at + suc i) 0 = e ∙ ap (λ (x : ℕ). get_or u x 0) at in
    let point : point_at (func_of w) (suc i) ≡ point_of p = point_read k (suc i) l ∙ ap point_of (sym q) in
    let number : point_number (point_at (func_of w) (suc i)) ≡ p = ap point_number point ∙ number_back p in
    record { is = f.1 ∙ ap straight point; fits = omega (arith, number_below k (suc i) l) }

pub goes_on_law : (F : Func) (i : ℕ) {p : CfgPoint} → p ≡ point_at F i → goes_on F p ≡ true → goes_on F (point_at F i) ≡ true
goes_on_law F i e g = subst (λ (q : CfgPoint). goes_on F q ≡ true) e g

-- ---- nodes by kind

abbrev kind_loops : NodeKind → Bool
kind_loops Block = false
kind_loops SelectBool = false
kind_loops SelectInst = false
kind_loops Loop = true
kind_loops Exit = false

loop_kind : (d : Node) → kind_loops (node_kind d) ≡ is_loop d
loop_kind (block is) = refl
loop_kind (select bool_cond v cs ds u) = refl
loop_kind (select (spv_inst i) v cs ds u) = refl
loop_kind (loop b c is u) = refl
loop_kind (exit i vs) = refl

pub is_loop_law : (d : Node) {k x : NodeKind} → k ≡ node_kind d → k ≡ x → kind_loops x ≡ is_loop d
is_loop_law d e g = ap kind_loops (sym g ∙ e) ∙ loop_kind d

pub loop_child : (d : Node) → is_loop d ≡ true → 0 < length (children_of d)
loop_child (block is) e = absurd (false≢true e)
loop_child (select k v cs ds u) e = absurd (false≢true e)
loop_child (loop b c is u) e = omega arith
loop_child (exit i vs) e = absurd (false≢true e)

pub loop_value : (d : Node) → is_loop d ≡ true → 0 < length (node_values d)
loop_value (block is) e = absurd (false≢true e)
loop_value (select k v cs ds u) e = absurd (false≢true e)
loop_value (loop b c is u) e = omega arith
loop_value (exit i vs) e = absurd (false≢true e)

module _ (F : Func) where
  -- phis of entries
  pub loop_keys : (d : Node) (n : ℕ) → is_loop d ≡ true → length (region_of F (get_or (children_of d) 0 0)).ins ≡ length (in_block F d n).keys
  loop_keys (block is) n e = absurd (false≢true e)
  loop_keys (select k v cs ds u) n e = absurd (false≢true e)
  loop_keys (loop b c is u) n e = sym (length_tabulate (region_input b) 0 (length (region_of F b).ins))
  loop_keys (exit i vs) n e = absurd (false≢true e)

  pub no_phis : (d : Node) (n : ℕ) → is_loop d ≡ false → 0 ≡ length (in_block F d n).keys
  no_phis (block is) n e = refl
  no_phis (select k v cs ds u) n e = refl
  no_phis (loop b c is u) n e = absurd (false≢true (sym e))
  no_phis (exit i vs) n e = refl

  pub body_keys : {r : ℕ} (p : Place) → r ≡ 0 → 0 ≡ length (entry_keys F r p)
  body_keys top e = sym (ap (λ (x : ℕ). length (entry_keys F x top)) e)
  body_keys (in_node n) e = sym (ap (λ (x : ℕ). length (entry_keys F x (in_node n))) e)

  pub child_keys : (r : ℕ) {p : ℕ} → p ≡ parent_word F r → ¬ (p ≡ 0) → 0 ≡ length (entry_keys F r (place_in F r))
  child_keys r {p} e h = go r p h ∙ ap (λ (x : ℕ). length (entry_keys F r (place_by x))) e
    where
      go : (r p : ℕ) → ¬ (p ≡ 0) → 0 ≡ length (entry_keys F r (place_by p))
      go r zero h = absurd (h refl)
      go zero (suc p) h = refl
      go (suc r) (suc p) h = refl

  pub root_keys : (r : ℕ) {p : ℕ} → p ≡ parent_word F r → p ≡ 0 → ¬ (r ≡ 0) → length (region_of F r).ins ≡ length (entry_keys F r (place_in F r))
  root_keys r e z h = go r h ∙ ap (λ (x : ℕ). length (entry_keys F r (place_by x))) (sym z ∙ e)
    where
      go : (r : ℕ) → ¬ (r ≡ 0) → length (region_of F r).ins ≡ length (entry_keys F r top)
      go zero h = absurd (h refl)
      go (suc r) h = sym (length_tabulate (region_input (suc r)) 0 (length (region_of F (suc r)).ins))

  -- ---- ways out of regions

  pub line_way : (r : ℕ) {x : Answer ℕ} {c : ℕ} → x ≡ Some c → CtrlIs x F r → TermIs F (exit_term F r top) (Line c)
  line_way r {x} {c} e h =
      let l : CtrlIs (Some c) F r = subst (λ (y : Answer ℕ). CtrlIs y F r) e h in
      record { is = ap (λ (o : Option ControlInst). root_term F o r) l.is; fits = l.below }

  pub return_way : {r : ℕ} {x : Answer ℕ} → r < length F.regions → x ≡ None → CtrlIs x F r → TermIs F (exit_term F r top) (Return r)
  return_way {r} {x} l e h =
      let n : CtrlIs None F r = subst (λ (y : Answer ℕ). CtrlIs y F r) e h in
      record { is = ap (λ (o : Option ControlInst). root_term F o r) n; fits = l }

  back_term : (d : Node) (n : ℕ) (vs : List Value) (t : Bool) → is_loop d ≡ true → t ≡ always F (get_or (node_values d) 0 (const 0))
      → child_term F d n vs ≡ loop_term F t n (first_value (node_values d)) vs
  back_term (block is) n vs t l e = absurd (false≢true l)
  back_term (select k v cs ds u) n vs t l e = absurd (false≢true l)
  back_term (loop b c is u) n vs t l e = ap (λ (y : Bool). loop_term F y n c vs) (sym e)
  back_term (exit i ws) n vs t l e = absurd (false≢true l)

  -- the way back of loop n, whose condition is v
  module _ {n r : ℕ} (l : is_loop (node_of F n) ≡ true) (k : (n < length F.nodes) × (r < length F.regions)) {v : Value}
      (e : v ≡ get_or (node_values (node_of F n)) 0 (const 0)) {t : Bool} (a : t ≡ always F v) where
    back : child_term F (node_of F n) n (region_of F r).outs ≡ loop_term F t n (first_value (node_values (node_of F n))) (region_of F r).outs
    back = back_term (node_of F n) n (region_of F r).outs t l (a ∙ ap (always F) e)

    pub repeat_way : t ≡ true → TermIs F (child_term F (node_of F n) n (region_of F r).outs) (Repeat n r)
    repeat_way y = record { is = back ∙ ap (λ (b : Bool). loop_term F b n (first_value (node_values (node_of F n))) (region_of F r).outs) y; fits = k }

    pub test_way : t ≡ false → TermIs F (child_term F (node_of F n) n (region_of F r).outs) (Test n r)
    test_way y = record { is = back ∙ ap (λ (b : Bool). loop_term F b n (first_value (node_values (node_of F n))) (region_of F r).outs) y; fits = k }

  join_term : (d : Node) (n r : ℕ) → is_loop d ≡ false → In r (children_of d) → child_term F d n (region_of F r).outs ≡ term_of F (Join n r)
  join_term (block is) n r l i = absurd (in_nil i)
  join_term (select k v cs ds u) n r l i = refl
  join_term (loop b c is u) n r l i = absurd (false≢true (sym l))
  join_term (exit j ws) n r l i = absurd (in_nil i)

  pub join_way : {n r : ℕ} → is_loop (node_of F n) ≡ false → In r (children_of (node_of F n)) → (n < length F.nodes) × (r < length F.regions)
      → TermIs F (child_term F (node_of F n) n (region_of F r).outs) (Join n r)
  join_way {n} {r} l i k = record { is = join_term (node_of F n) n r l i; fits = k }

  -- the parent's word says which
  pub at_root : (r : ℕ) {p : ℕ} {x : TermKind} → p ≡ parent_word F r → p ≡ 0 → TermIs F (exit_term F r top) x → TermIs F (exit_term F r (place_in F r)) x
  at_root r {p} {x} e z h = subst (λ (y : ℕ). TermIs F (exit_term F r (place_by y)) x) (sym z ∙ e) h

  pub in_node_law : (r : ℕ) {p : ℕ} {x : TermKind} → p ≡ parent_word F r → ¬ (p ≡ 0) → TermIs F (child_term F (node_of F (p - 1)) (p - 1) (region_of F r).outs) x
      → TermIs F (exit_term F r (place_in F r)) x
  in_node_law r {p} {x} e z h =
      let q : suc (p - 1) ≡ parent_word F r = omega arith in
      subst (λ (y : ℕ). TermIs F (exit_term F r (place_by y)) x) q h

  pub held_child : (r : ℕ) {p : ℕ} → p ≡ parent_word F r → ¬ (p ≡ 0) → (p - 1 < length F.nodes) × In r (children_of (node_of F (p - 1)))
  held_child r {p} e z = parent_has F r (p - 1) (omega arith)

  -- ---- ways out of a node's entry

  abbrev select_term : Node → ℕ → ℕ → Terminator
  select_term d n u = record {
    attrs = 0;
    kind = (in_block F d n).term.kind;
    ins = node_values d;
    targets = map region_entry (children_of d);
    vals = [];
    merge = selection_merge (node_exit n) u;
  }

  abbrev leave_term : Node → ℕ → Terminator
  leave_term d n = record { attrs = 0; kind = (in_block F d n).term.kind; ins = node_values d; targets = []; vals = []; merge = no_merge }

  abbrev loop_in : ℕ → ℕ → ℕ → Terminator
  loop_in n b u = term_of F (LoopWay n b u)

  abbrev InWay : Node → ℕ → NodeKind → Type 0
  InWay d n Block = (in_block F d n).term ≡ straight (node_exit n)
  InWay d n SelectBool = (in_block F d n).term ≡ select_term d n (node_control d)
  InWay d n SelectInst = (in_block F d n).term ≡ select_term d n (node_control d)
  InWay d n Loop = (0 < length (children_of d)) × ((in_block F d n).term ≡ loop_in n (get_or (children_of d) 0 0) (node_control d))
  InWay d n Exit = (in_block F d n).term ≡ leave_term d n

  in_term : (d : Node) (n : ℕ) → InWay d n (node_kind d)
  in_term (block is) n = refl
  in_term (select bool_cond v cs ds u) n = refl
  in_term (select (spv_inst i) v cs ds u) n = refl
  in_term (loop b c is u) n = (omega arith, refl)
  in_term (exit i vs) n = refl

  pub in_way : (d : Node) (n : ℕ) {k x : NodeKind} → k ≡ node_kind d → k ≡ x → InWay d n x
  in_way d n e g = subst (InWay d n) (sym e ∙ g) (in_term d n)

module _ {w : List ℕ} (t : Tables w) {n : ℕ} (h : n < length (func_of w).nodes) where
  pub low_node : n < 128
  low_node = omega (arith, few_nodes t)

  -- a block goes on to its exit
  pub block_way : {k : NodeKind} → k ≡ node_kind (node_of (func_of w) n) → k ≡ Block → {p : ℕ} → p ≡ point_number (node_exit n)
      → TermIs (func_of w) (in_block (func_of w) (node_of (func_of w) n) n).term (Straight p)
  block_way e g {p} q = record {
    is = in_way (func_of w) (node_of (func_of w) n) n e g ∙ ap straight (sym (ap point_of q ∙ point_back (node_exit n) low_node));
    fits = omega (arith, point_low (node_exit n) low_node);
  }

  -- a select has its control number
  pub select_way : (in_block (func_of w) (node_of (func_of w) n) n).term ≡ select_term (func_of w) (node_of (func_of w) n) n (node_control (node_of (func_of w) n))
      → {u : ℕ} → u ≡ node_control (node_of (func_of w) n) → TermIs (func_of w) (in_block (func_of w) (node_of (func_of w) n) n).term (SelectWay n u)
  select_way e q = record { is = e ∙ ap (select_term (func_of w) (node_of (func_of w) n) n) (sym q); fits = h }

  -- a loop goes into its body
  module _ {k : NodeKind} (e : k ≡ node_kind (node_of (func_of w) n)) (g : k ≡ Loop) where
    pub loop_holds : 0 < length (children_of (node_of (func_of w) n))
    loop_holds = (in_way (func_of w) (node_of (func_of w) n) n e g).0

    pub loop_way : Walkable (func_of w) → {b u : ℕ} → b ≡ get_or (children_of (node_of (func_of w) n)) 0 0 → u ≡ node_control (node_of (func_of w) n)
        → TermIs (func_of w) (in_block (func_of w) (node_of (func_of w) n) n).term (LoopWay n b u)
    loop_way ok q z = record {
      is = (in_way (func_of w) (node_of (func_of w) n) n e g).1 ∙ ap₂ (loop_in (func_of w) n) (sym q) (sym z);
      fits = (h, omega (arith, ok.named.child n 0 h loop_holds));
    }

pub out_keys_law : (n : ℕ) (ds : List Decl) → length (out_keys n ds) ≡ length ds
out_keys_law n ds = length_tabulate (node_output n) 0 (length ds)
