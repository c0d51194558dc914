-- The names that get new ids, as passes over the visited positions: the function and its parameters, phis, results, labels. For texts with a body
-- and for imported functions. Assumes nothing.
--     names_flat, all_names_once, names_fit    all names in order, none twice, and the tables have words for them
--     key_run      the phis of a position are all inputs of one region, or all outputs of one node
--     result_none, result_some, ops_of_law    the results of a position
--     label_none, label_one    its label
--     few_phis, few_results, few_labels    a position has at most 4,095 of each kind
--     first_child_none, untyped    the first of no children, and the type of no op
--     names_few    how many names there can be
use Rattle.std.proofs.Math.Path.{◌≡◌, refl, sym, ap, ap₂}
use Rattle.std.proofs.Common.{subst, ◌∙◌, inl, inr, arith, length-append}
use Rattle.std.specs.Prelude.{Bool, ◌⊎◌, get_or}
use Rattle.std.proofs.Math.Bool.{true, false}
use mathlib.Core.List.{List, [], ◌∷◌, ◌++◌, map, append_assoc, append-nil}
use Prim.Native.Nat.{ℕ, zero, suc, ◌+◌, ◌*◌, ◌≤◌, ◌<◌}
use Rattle.std.proofs.Math.ListN.{length, get_or-eq_default}
use Rattle.std.proofs.lemmas.List.{length-map}
use Rattle.general_laws.specs.Lists.{gather, tabulate}
use Rattle.lifting.specs.Ast.{Func, Node, Op, Value, block, call, data_inst_output, exit, loop, node_output, region_input, select}
use Rattle.lifting.specs.Parts.{block_ops, children_of, ins_keys, node_of, op_of, out_keys, outs_of, region_of}
use Rattle.lifting.specs.Points.{BlockLifting, CfgPoint, Table, node_entry, node_exit, region_entry, region_exit}
use Rattle.lifting.specs.Walk.{Place, entry_keys, in_block, in_node, top, walk_of}
use Rattle.lifting.specs.Absorb.{absorb, kept, use_count}
use Rattle.lifting.specs.Ids.{Name, label, names, param_keys, phi_keys, result_of, the_function, value}
use Rattle.general_laws.specs.Gather.{map_append, gather_none}
use Rattle.func.specs.Decode.{func_of}
use Rattle.func.specs.Tables.{Tables}
use Rattle.func.proofs.Tables.{list_count, node_ops, node_outs, region_ins, few_ops, few_params}
use Rattle.general_laws.specs.Members.{All, In, NoDup, all_append, here, length_tabulate, map_in, map_tabulate, nodup_map, nodup_tabulate}
use Rattle.general_laws.specs.Tests.{all_tabulate}
use Rattle.work.specs.Layout.{input_ids_at, output_ids_at, ids_end}
use Rattle.lifting_blocks.specs.Flat.{Status, absorbs_here, goes, gone, no_pair, pass_part, part_at, starts, unless_absorbs, up_to}
use Rattle.lifting_blocks.specs.FlatLaws.{up_to_cons}
use Rattle.lifting_blocks.specs.ListFlat.{heads, result_pass}
use Rattle.lifting_blocks.specs.Laws.{names_are, list_names_once}
use Rattle.walk_points.specs.Walk.{Walkable, few_nodes, length_points, walk_few}
use Rattle.terminators.specs.At.{InText, visited_block, block_is, block_of, in_text_law, place_in, point_at, small_text}
use Rattle.block_absorbs.specs.Absorbs.{stands}
use Rattle.blocks.specs.Laid.{Laid}
use Rattle.emit_names.specs.Ids.{NameFits, names_of}

module _ (F : Func) where
  -- of the i-th visited point
  abbrev pub phi_names : ℕ → List Name
  phi_names i = map value (visited_block F i).keys

  abbrev pub result_names : ℕ → List Name
  result_names i = map value (part_at (use_count (walk_of F)) (result_pass F) (walk_of F) i)

  abbrev pub label_names : ℕ → List Name
  label_names i = map label (part_at (use_count (walk_of F)) heads (walk_of F) i)

  -- of op o
  abbrev pub op_names : ℕ → List Name
  op_names o = map value (result_of (op_of F o).type o)

  -- the function and its parameters
  abbrev pub first_names : List Name
  first_names = the_function ∷ map value (param_keys F)

  -- all names of a walk of m points
  abbrev pub flat_names : ℕ → List Name
  flat_names m = first_names ++ (up_to phi_names m ++ (up_to result_names m ++ up_to label_names m))

  -- the word of the ids of a point's phis, where it has some
  abbrev pub key_word : CfgPoint → ℕ
  key_word (region_entry r) = input_ids_at + r
  key_word (region_exit r) = input_ids_at
  key_word (node_entry n) = input_ids_at + get_or (children_of (node_of F n)) 0 0
  key_word (node_exit n) = output_ids_at + n

-- ---- lists by position

pub gather_positions : {A B : Type 0} (f : A → List B) (d : A) (l : List A) → gather f l ≡ up_to (λ i. f (get_or l i d)) (length l)
unfolding up_to
gather_positions f d [] = refl
gather_positions {A} {B} f d (x ∷ l) =
    ap (λ (r : List B). f x ++ r) (gather_positions f d l) ∙ sym (up_to_cons (λ i. f (get_or (x ∷ l) i d)) (length l))

pub map_up_to : {A B : Type 0} (f : A → B) (g : ℕ → List A) (n : ℕ) → map f (up_to g n) ≡ up_to (λ i. map f (g i)) n
unfolding up_to
map_up_to f g zero = refl
map_up_to {B = B} f g (suc n) = map_append f (up_to g n) (g n) ∙ ap (λ (l : List B). l ++ map f (g n)) (map_up_to f g n)

all_up_to : {A : Type 0} (P : A → Type 0) (f : ℕ → List A) (n : ℕ) → ((i : ℕ) → i < n → All P (f i)) → All P (up_to f n)
unfolding up_to
all_up_to P f zero h = tt
all_up_to P f (suc n) h = all_append P (up_to f n) (f n) (all_up_to P f n (λ i l. h i (omega arith))) (h n (omega arith))

pub length_up_to : {A : Type 0} (f : ℕ → List A) (c n : ℕ) → ((i : ℕ) → i < n → length (f i) ≤ c) → length (up_to f n) ≤ c * n
unfolding up_to
length_up_to f c zero h = omega arith
length_up_to f c (suc n) h = omega (arith, length-append (up_to f n) (f n), length_up_to f c n (λ i l. h i (omega arith)), h n (omega arith))

pub all_run : (P : Name → Type 0) (f : ℕ → Value) (n : ℕ) → ((i : ℕ) → P (value (f i))) → All P (map value (tabulate f 0 n))
all_run P f n h = subst (All P) (sym (map_tabulate value f 0 n)) (all_tabulate P (λ i. value (f i)) 0 n (λ i l. h i))

pub length_run : (f : ℕ → Value) (n : ℕ) → length (map value (tabulate f 0 n)) ≡ n
length_run f n = length-map (tabulate f 0 n) value ∙ length_tabulate f 0 n

-- ---- all names

-- a text with a body, or an imported function
abbrev pub AnyText : Func → Type 0
AnyText F = Walkable F ⊎ (walk_of F ≡ [])

no_points : (T : Table) → length T ≡ 0 → T ≡ []
no_points [] e = refl
no_points (x ∷ T) e = absurd (omega arith)

pub any_laid : {w u : List ℕ} {m : ℕ} → Laid w u m → AnyText (func_of w)
any_laid {w} {u} {m} k = go m k
  where
    go : (m : ℕ) → Laid w u m → AnyText (func_of w)
    go zero k = inr (no_points (walk_of (func_of w)) (sym k.count))
    go (suc m) k = inl (k.walked (omega arith)).walkable

kept_none : kept [] ≡ []
unfolding kept absorb
kept_none = refl

none_names : (F : Func) → walk_of F ≡ [] → names_of F ≡ first_names F
unfolding names
none_names F e =
    ap (λ (T : Table). names F T (kept T)) e
    ∙ ap (λ (K : Table). names F [] K) kept_none
    ∙ ap (λ (l : List Name). the_function ∷ l) (append-nil (map value (param_keys F ++ [])) ∙ ap (λ (l : List Value). map value l) (append-nil (param_keys F)))

pub not_function : {v : Value} → the_function ≡ value v → ⊥
not_function {v} e = let z : ◌≡◌ {A = ℕ} 0 1 = cc in omega arith

module _ (F : Func) where
  pub names_flat : AnyText F → {m : ℕ} → m ≡ length (walk_of F) → names_of F ≡ flat_names F m
  unfolding up_to
  names_flat (inr e) {m} q =
      none_names F e ∙ sym (append-nil (first_names F)) ∙ ap (flat_names F) (sym (q ∙ ap length e))
  names_flat (inl ok) {m} q =
      let n : ℕ = length (walk_of F) in
      let P : List Value = param_keys F in
      let Q : List Value = phi_keys (walk_of F) in
      let R : List Value = up_to (part_at (use_count (walk_of F)) (result_pass F) (walk_of F)) n in
      let H : List CfgPoint = up_to (part_at (use_count (walk_of F)) heads (walk_of F)) n in
      let phis : map value Q ≡ up_to (phi_names F) n =
      ap (λ (l : List Value). map value l) (gather_positions (λ (x : CfgPoint × BlockLifting). x.1.keys) no_pair (walk_of F)) ∙ map_up_to value (λ i. (visited_block F i).keys) n in
      names_are F ok.shaped
      ∙ ap (λ (l : List Name). the_function ∷ (l ++ map label H)) (map_append value P (Q ++ R) ∙ ap (λ (l : List Name). map value P ++ l) (map_append value Q R))
      ∙ ap (λ (l : List Name). the_function ∷ l) (append_assoc (map value P) (map value Q ++ map value R) (map label H)
      ∙ ap (λ (l : List Name). map value P ++ l) (append_assoc (map value Q) (map value R) (map label H)))
      ∙ ap₂ (λ (a b : List Name). first_names F ++ (a ++ b)) phis
      (ap₂ (λ (a b : List Name). a ++ b) (map_up_to value _ n) (map_up_to label _ n))
      ∙ ap (flat_names F) (sym q)

  value_same : (v w : Value) → value v ≡ value w → v ≡ w
  value_same v w e = cc

  input_same : (i j : ℕ) → region_input 0 i ≡ region_input 0 j → i ≡ j
  input_same i j e = cc

  pub all_names_once : AnyText F → NoDup (names_of F)
  all_names_once (inl ok) = list_names_once F ok.shaped
  all_names_once (inr e) = subst NoDup (sym (none_names F e)) (
    λ h. not_function (map_in value (param_keys F) h).2,
    nodup_map value value_same (param_keys F) (nodup_tabulate (region_input 0) input_same 0 (length F.params)),
  )

-- ---- phis

-- keys that are all inputs of one region or all outputs of one node, and the word of their ids
pub data KeyRun (F : Func) (s : ℕ) : List Value → Type 0 where
  no_keys_law : KeyRun F s []
  inputs : {r : ℕ} → r < length F.regions → s ≡ input_ids_at + r → KeyRun F s (ins_keys F r)
  outputs : {n : ℕ} → n < length F.nodes → s ≡ output_ids_at + n → KeyRun F s (out_keys n (outs_of (node_of F n)))

module _ (F : Func) (ok : Walkable F) where
  entry_run : (r : ℕ) (p : Place) → r < length F.regions → KeyRun F (input_ids_at + r) (entry_keys F r p)
  entry_run zero top h = no_keys_law
  entry_run (suc r) top h = inputs h refl
  entry_run zero (in_node n) h = no_keys_law
  entry_run (suc r) (in_node n) h = no_keys_law

  in_run : (n : ℕ) (d : Node) → node_of F n ≡ d → KeyRun F (input_ids_at + get_or (children_of d) 0 0) (in_block F d n).keys
  in_run n (block is) e = no_keys_law
  in_run n (select k v cs ds u) e = no_keys_law
  in_run n (loop b c is u) e = inputs (ok.shaped.forest.child_range n b (subst (λ (d : Node). In b (children_of d)) (sym e) here)) refl
  in_run n (exit i vs) e = no_keys_law

  point_run : (p q : CfgPoint) → InText F p → KeyRun F (key_word F p) (block_of F p q).keys
  point_run (region_entry r) q h = entry_run r (place_in F r) h
  point_run (region_exit r) q h = no_keys_law
  point_run (node_entry n) q h = in_run n (node_of F n) refl
  point_run (node_exit n) q h = outputs h refl

  pub key_run : (i : ℕ) → i < length (walk_of F) → KeyRun F (key_word F (point_at F i)) (visited_block F i).keys
  key_run i h = subst (λ (b : BlockLifting). KeyRun F (key_word F (point_at F i)) b.keys) (sym (block_is F ok i h))
      (point_run (point_at F i) (point_at F (suc i)) (in_text_law F ok i h))

  first_child : (n : ℕ) → n < length F.nodes → get_or (children_of (node_of F n)) 0 0 < 128
  first_child n h = go (children_of (node_of F n)) refl
    where
      go : (l : List ℕ) → children_of (node_of F n) ≡ l → get_or l 0 0 < 128
      go [] e = omega arith
      go (c ∷ l) e =
          let k = ok.named.child n 0 h (subst (λ (z : List ℕ). 0 < length z) (sym e) (omega arith)) in
          omega (arith, k, ap (λ (z : List ℕ). get_or z 0 0) e, ok.named.few)

  -- it is a word of the tables of inputs and outputs
  pub key_low : length F.nodes ≤ 128 → (p : CfgPoint) → InText F p → key_word F p < ids_end
  key_low few (region_entry r) h = omega (arith, ok.named.few)
  key_low few (region_exit r) h = omega arith
  key_low few (node_entry n) h = omega (arith, first_child n h)
  key_low few (node_exit n) h = omega arith

-- ---- where a position stands

starts_or : (s : Status) → (s ≡ starts) ⊎ (¬ (s ≡ starts))
starts_or gone = inr (λ e. let z : ◌≡◌ {A = ℕ} 0 1 = cc in omega arith)
starts_or starts = inl refl
starts_or (goes h) = inr (λ e. let z : ◌≡◌ {A = ℕ} 0 1 = cc in omega arith)

gone_or : (s : Status) → (s ≡ gone) ⊎ (¬ (s ≡ gone))
gone_or gone = inl refl
gone_or starts = inr (λ e. let z : ◌≡◌ {A = ℕ} 0 1 = cc in omega arith)
gone_or (goes h) = inr (λ e. let z : ◌≡◌ {A = ℕ} 0 1 = cc in omega arith)

-- ---- results

module _ (F : Func) where
  abbrev results_of : List ℕ → List Value
  results_of l = gather (λ o. result_of (op_of F o).type o) l

  no_more : (g : Bool) → unless_absorbs (result_pass F) g [] ≡ []
  no_more true = refl
  no_more false = refl

  part_some : (s : Status) (g : Bool) (x : CfgPoint × BlockLifting) → ¬ (s ≡ gone) → pass_part (result_pass F) s g x ≡ results_of x.1.ops
  unfolding pass_part
  part_some gone g x n = absurd (n refl)
  part_some starts g x n = ap (λ (l : List Value). results_of x.1.ops ++ l) (no_more g) ∙ append-nil (results_of x.1.ops)
  part_some (goes h) g x n = ap (λ (l : List Value). results_of x.1.ops ++ l) (no_more g) ∙ append-nil (results_of x.1.ops)

  pub result_none : (i : ℕ) → stands F i ≡ gone → result_names F i ≡ []
  unfolding part_at pass_part
  result_none i e = ap (λ (s : Status). map value (pass_part (result_pass F) s (absorbs_here (use_count (walk_of F)) (walk_of F) i) (get_or (walk_of F) i no_pair))) e

  -- a position in a kept block numbers the results of its ops, one after the other
  abbrev pub ops_names : List ℕ → List Name
  ops_names l = up_to (λ j. op_names F (get_or l j 0)) (length l)

  pub result_some : (i : ℕ) → ¬ (stands F i ≡ gone) → result_names F i ≡ ops_names (visited_block F i).ops
  unfolding part_at
  result_some i n =
      ap (λ (l : List Value). map value l) (part_some (stands F i) (absorbs_here (use_count (walk_of F)) (walk_of F) i) (get_or (walk_of F) i no_pair) n
      ∙ gather_positions (λ o. result_of (op_of F o).type o) 0 (visited_block F i).ops)
      ∙ map_up_to value (λ j. result_of (op_of F (get_or (visited_block F i).ops j 0)).type (get_or (visited_block F i).ops j 0)) (length (visited_block F i).ops)

  -- the ops of a point: those of a node, at its entry
  abbrev pub point_ops : CfgPoint → List ℕ
  point_ops (region_entry r) = []
  point_ops (region_exit r) = []
  point_ops (node_entry n) = block_ops (node_of F n)
  point_ops (node_exit n) = []

  in_ops : (n : ℕ) (d : Node) → (in_block F d n).ops ≡ block_ops d
  in_ops n (block is) = refl
  in_ops n (select k v cs ds u) = refl
  in_ops n (loop b c is u) = refl
  in_ops n (exit i vs) = refl

  point_ops_law : (p q : CfgPoint) → (block_of F p q).ops ≡ point_ops p
  point_ops_law (region_entry r) q = refl
  point_ops_law (region_exit r) q = refl
  point_ops_law (node_entry n) q = in_ops n (node_of F n)
  point_ops_law (node_exit n) q = refl

  pub ops_of_law : Walkable F → (i : ℕ) → i < length (walk_of F) → (visited_block F i).ops ≡ point_ops (point_at F i)
  ops_of_law ok i h = ap (λ (b : BlockLifting). b.ops) (block_is F ok i h) ∙ point_ops_law (point_at F i) (point_at F (suc i))

  -- an op has at most one result
  pub one_result : (o : ℕ) → length (op_names F o) ≤ 1
  one_result o = go (op_of F o).type
    where
      go : (t : ℕ) → length (map value (result_of t o)) ≤ 1
      go zero = omega arith
      go (suc t) = omega arith

  -- a number that names no op has none
  pub typed_low : (o : ℕ) → ¬ ((op_of F o).type ≡ 0) → o < length F.ops
  typed_low o n = go F.ops o n
    where
      go : (l : List Op) (o : ℕ) → ¬ ((get_or l o (record { attrs = 0; type = 0; kind = call 0; operands = [] })).type ≡ 0) → o < length l
      go [] o n = absurd (n refl)
      go (x ∷ l) zero n = omega arith
      go (x ∷ l) (suc o) n = omega (arith, go l o n)

  op_all : (P : Name → Type 0) → ((o : ℕ) → o < length F.ops → P (value (data_inst_output o))) → (o : ℕ) → All P (op_names F o)
  op_all P h o = go (op_of F o).type refl
    where
      go : (x : ℕ) → (op_of F o).type ≡ x → All P (map value (result_of x o))
      go zero e = tt
      go (suc x) e = (h o (typed_low o (λ z. omega (arith, e, z))), tt)

  -- what holds of the results
  pub all_results : (P : Name → Type 0) → ((o : ℕ) → o < length F.ops → P (value (data_inst_output o))) → (i : ℕ) → All P (result_names F i)
  all_results P h i = elim (gone_or (stands F i)) [
    | inl e ↦ subst (All P) (sym (result_none i e)) tt
    | inr n ↦ subst (All P) (sym (result_some i n))
        (all_up_to P (λ j. op_names F (get_or (visited_block F i).ops j 0)) (length (visited_block F i).ops) (λ j l. op_all P h (get_or (visited_block F i).ops j 0)))
  ]

-- ---- labels

module _ (F : Func) where
  part_head : (s : Status) (g : Bool) (x : CfgPoint × BlockLifting) → s ≡ starts → pass_part heads s g x ≡ x.0 ∷ []
  unfolding pass_part
  part_head gone g x e = absurd (let z : ◌≡◌ {A = ℕ} 0 1 = cc in omega arith)
  part_head starts true x e = ap (λ (l : List CfgPoint). x.0 ∷ (l ++ [])) (gather_none x.1.ops)
  part_head starts false x e = ap (λ (l : List CfgPoint). x.0 ∷ (l ++ [])) (gather_none x.1.ops)
  part_head (goes h) g x e = absurd (let z : ◌≡◌ {A = ℕ} 0 1 = cc in omega arith)

  part_tail : (s : Status) (g : Bool) (x : CfgPoint × BlockLifting) → ¬ (s ≡ starts) → pass_part heads s g x ≡ []
  unfolding pass_part
  part_tail gone g x n = refl
  part_tail starts g x n = absurd (n refl)
  part_tail (goes h) true x n = ap (λ (l : List CfgPoint). l ++ []) (gather_none x.1.ops)
  part_tail (goes h) false x n = ap (λ (l : List CfgPoint). l ++ []) (gather_none x.1.ops)

  pub label_one : (i : ℕ) → stands F i ≡ starts → label_names F i ≡ label (point_at F i) ∷ []
  unfolding part_at
  label_one i e = ap (λ (l : List CfgPoint). map label l) (part_head (stands F i) (absorbs_here (use_count (walk_of F)) (walk_of F) i) (get_or (walk_of F) i no_pair) e)

  pub label_none : (i : ℕ) → ¬ (stands F i ≡ starts) → label_names F i ≡ []
  unfolding part_at
  label_none i n = ap (λ (l : List CfgPoint). map label l) (part_tail (stands F i) (absorbs_here (use_count (walk_of F)) (walk_of F) i) (get_or (walk_of F) i no_pair) n)

  -- what holds of the label
  pub all_label : (P : Name → Type 0) (i : ℕ) → P (label (point_at F i)) → All P (label_names F i)
  all_label P i h = elim (starts_or (stands F i)) [
    | inl e ↦ subst (All P) (sym (label_one i e)) (h, tt)
    | inr n ↦ subst (All P) (sym (label_none i n)) tt
  ]

-- ---- how many, and that the tables have words for them

module _ {w : List ℕ} (t : Tables w) where
  abbrev F : Func
  F = func_of w

  pub few_ins : (r : ℕ) → r < length F.regions → length (region_of F r).ins ≤ 4095
  few_ins r h = omega (arith, list_count (region_ins t r h))

  pub few_outs : (n : ℕ) → n < length F.nodes → length (outs_of (node_of F n)) ≤ 4095
  few_outs n h = omega (arith, list_count (node_outs t n h))

  pub few_node_ops : (n : ℕ) → n < length F.nodes → length (block_ops (node_of F n)) ≤ 4095
  few_node_ops n h = omega (arith, list_count (node_ops t n h))

  run_few : {s : ℕ} {ks : List Value} → KeyRun F s ks → length (map value ks) ≤ 4095
  run_few no_keys_law = omega arith
  run_few (inputs {r} h e) = omega (arith, length_run (region_input r) (length (region_of F r).ins), few_ins r h)
  run_few (outputs {n} h e) = omega (arith, length_run (node_output n) (length (outs_of (node_of F n))), few_outs n h)

  run_fits : length F.regions ≤ 128 → {s : ℕ} {ks : List Value} → KeyRun F s ks → All NameFits (map value ks)
  run_fits few no_keys_law = tt
  run_fits few (inputs {r} h e) = all_run NameFits (region_input r) (length (region_of F r).ins) (λ i. omega arith)
  run_fits few (outputs {n} h e) = all_run NameFits (node_output n) (length (outs_of (node_of F n))) (λ i. omega (arith, few_nodes t))

  point_few : (p : CfgPoint) → InText F p → length (point_ops F p) ≤ 4095
  point_few (region_entry r) h = omega arith
  point_few (region_exit r) h = omega arith
  point_few (node_entry n) h = few_node_ops n h
  point_few (node_exit n) h = omega arith

  module _ (ok : Walkable F) (i : ℕ) (h : i < length (walk_of F)) where
    pub few_phis : length (phi_names F i) ≤ 4095
    few_phis = run_few (key_run F ok i h)

    pub few_results : length (result_names F i) ≤ 4095
    few_results = elim (gone_or (stands F i)) [
      | inl e ↦ omega (arith, ap length (result_none F i e))
      | inr n ↦ omega (
        arith,
        ap length (result_some F i n),
        length_up_to (λ j. op_names F (get_or (visited_block F i).ops j 0)) 1 (length (visited_block F i).ops) (λ j l. one_result F (get_or (visited_block F i).ops j 0)),
        ap length (ops_of_law F ok i h),
        point_few (point_at F i) (in_text_law F ok i h),
      )
    ]

    pub few_labels : length (label_names F i) ≤ 4095
    few_labels = elim (starts_or (stands F i)) [ inl e ↦ omega (arith, ap length (label_one F i e)) | inr n ↦ omega (arith, ap length (label_none F i n)) ]

    phis_fit : All NameFits (phi_names F i)
    phis_fit = run_fits ok.named.few (key_run F ok i h)

    results_fit : All NameFits (result_names F i)
    results_fit = all_results F NameFits (λ o l. omega (arith, few_ops t)) i

    labels_fit : All NameFits (label_names F i)
    labels_fit = all_label F NameFits i (small_text F ok.named.few (few_nodes t) (point_at F i) (in_text_law F ok i h))

  -- what holds at each position; an imported function has none
  at_each : AnyText F → (P : ℕ → Type 0) → ((ok : Walkable F) (i : ℕ) → i < length (walk_of F) → P i) → (i : ℕ) → i < length (walk_of F) → P i
  at_each (inl ok) P h i l = h ok i l
  at_each (inr e) P h i l = absurd (omega (arith, ap length e))

  few_points : AnyText F → length (walk_of F) ≤ 512
  few_points (inl ok) = omega (arith, walk_few F ok (few_nodes t), length_points (walk_of F))
  few_points (inr e) = omega (arith, ap length e)

  module _ (any : AnyText F) where
    abbrev m : ℕ
    m = length (walk_of F)

    pub names_fit : All NameFits (names_of F)
    names_fit = subst (All NameFits) (sym (names_flat F any refl))
        (all_append NameFits (first_names F) _ (tt, all_run NameFits (region_input 0) (length F.params) (λ i. omega arith))
        (all_append NameFits (up_to (phi_names F) m) _ (all_up_to NameFits (phi_names F) m (at_each any (λ i. All NameFits (phi_names F i)) phis_fit))
        (all_append NameFits (up_to (result_names F) m) _ (all_up_to NameFits (result_names F) m (at_each any (λ i. All NameFits (result_names F i)) results_fit))
        (all_up_to NameFits (label_names F) m (at_each any (λ i. All NameFits (label_names F i)) labels_fit)))))

    -- at most 65, and three times 4,095 for each of 512 points
    pub names_few : length (names_of F) ≤ 6289985
    names_few =
        let a = up_to (phi_names F) m in
        let b = up_to (result_names F) m in
        let c = up_to (label_names F) m in
        omega (
          arith,
          ap length (names_flat F any refl),
          length-append (first_names F) (a ++ (b ++ c)),
          length-append a (b ++ c),
          length-append b c,
          length_run (region_input 0) (length F.params),
          few_params t,
          length_up_to (phi_names F) 4095 m (at_each any (λ i. length (phi_names F i) ≤ 4095) few_phis),
          length_up_to (result_names F) 4095 m (at_each any (λ i. length (result_names F i) ≤ 4095) few_results),
          length_up_to (label_names F) 4095 m (at_each any (λ i. length (label_names F i) ≤ 4095) few_labels),
          few_points any,
        )

-- the first of no children, and the type of no op
pub first_child_none : (l : List ℕ) → length l ≡ 0 → 0 ≡ get_or l 0 0
first_child_none [] e = refl
first_child_none (x ∷ l) e = absurd (omega arith)

pub untyped : (F : Func) (o : ℕ) → length F.ops ≤ o → (op_of F o).type ≡ 0
untyped F o h = ap (λ (x : Op). x.type) (get_or-eq_default F.ops (record { attrs = 0; type = 0; kind = call 0; operands = [] }) h)
