-- Document 02, W4: nothing of a list but that word of each merge depends on control numbers: the list of a text, with the word cleared, is the list
-- of the function with 0 for each control number. So two texts that differ in control numbers only have lists that differ in these words only: ids,
-- blocks, their order and everything else are the same. Assumes nothing.
--     walk_clear, kept_clear     the walk and the kept blocks, with 0 for the number of each merge
--     list_clear                 the list
use Rattle.std.specs.Prelude.{◌≡◌, Bool, ℕ, zero, suc, ◌+◌, get_or, length}
use Rattle.std.proofs.Math.Path.{refl, sym, ap}
use Rattle.std.proofs.Common.{◌∙◌}
use Rattle.std.proofs.Math.Bool.{true, false}
use mathlib.Core.List.{List, [], ◌∷◌, ◌++◌, map, map-append}
use Rattle.std.proofs.Math.Option.{Option, none, some}
use Rattle.std.proofs.Math.Decide.{ℕ_discrete}
use Rattle.std.proofs.Math.ListN.{get_or-map}
use Rattle.opcodes.specs.Table.{opcode_of}
use Rattle.opcodes.specs.declared.InstKind.TheVariants.{Function, FunctionParameter, Label, LoopMerge, Phi, SelectionMerge}
use Rattle.general_laws.specs.Lists.{choose, gather, find}
use Rattle.lifting.specs.Ast.{ControlInst, Decl, Func, Node, Value, block, const, data_inst_output, exit, loop, node_output, region_input, select}
use Rattle.lifting.specs.Parts.{callee_ids, children_of, ctrl_of, has_body, node_of, op_of, region_of, vals_or}
use Rattle.lifting.specs.Order.{roots}
use Rattle.lifting.specs.Points.{BlockLifting, CfgPoint, Merge, Table, Terminator, block_at, block_or, eq_point, loop_merge, no_merge, node_entry, node_exit, plain, points, region_entry, region_exit, selection_merge}
use Rattle.lifting.specs.Walk.{Place, always, child_term, entry_block, exit_block, exit_term, in_block, in_node, loop_term, next_point, out_block, root_term, top, walk_kids, walk_node, walk_nodes, walk_of, walk_region, walk_roots}
use Rattle.lifting.specs.Absorb.{Absorbing, absorb, absorb_all, absorb_at, count_in, emptied, first_use, absorb_into, if_branch, if_empty, if_no_merge, if_no_phis, if_zero, joined, keep, keep_if, kept, labels, merge_labels, the_only, sole_target, try_target, use_count, uses}
use Rattle.lifting.specs.Ids.{Name, id_of, label, label_of, names, new_id, next_id, number_in, param_keys, result_of, the_function, value}
use Rattle.lifting.specs.Instructions.{Instruction, bare, block_insts, body_insts, end_inst, function_control, function_inst, if_used, instructions, label_inst, list_of, loop_control, merge_insts, op_imms, op_inst, op_opcode, pairs, param_inst, param_insts, phi_inst, phi_insts, result_id, selection_control, short, term_imms, term_inst, term_opcode}
use Rattle.lifting.specs.BlockRun.{is_merge}
use Rattle.general_laws.specs.Members.{All}
use Rattle.lifting_runs.specs.Each.{absorbed_by}
use Rattle.lifting_runs.specs.EmitRun.{BlockOk, Sound, free_of}
use Rattle.lifting_runs.specs.Listing.{all_phis, no_merges}
use Rattle.lifting_runs.specs.Controls.{controls_cleared, cleared_node}
use Rattle.lifting_blocks.specs.Cleared.{clear_if, cleared_inst}

-- ---- blocks with 0 for the number of each merge

abbrev clear_merge : Merge → Merge
clear_merge no_merge = no_merge
clear_merge (selection_merge a u) = selection_merge a 0
clear_merge (loop_merge a b u) = loop_merge a b 0

abbrev clear_term : Terminator → Terminator
clear_term t = record { attrs = t.attrs; kind = t.kind; ins = t.ins; targets = t.targets; vals = t.vals; merge = clear_merge t.merge }

abbrev clear_block : BlockLifting → BlockLifting
clear_block b = record { keys = b.keys; decls = b.decls; defaults = b.defaults; ops = b.ops; term = clear_term b.term }

abbrev clear_entry : CfgPoint × BlockLifting → CfgPoint × BlockLifting
clear_entry x = (x.0, clear_block x.1)

abbrev clear_table : Table → Table
clear_table = map clear_entry

-- ---- the walk

module _ (F : Func) where
  abbrev G : Func
  G = controls_cleared F

  node_is : (n : ℕ) → node_of G n ≡ cleared_node (node_of F n)
  node_is n = get_or-map cleared_node F.nodes n (block [])

  loop_clear : (b : Bool) (n : ℕ) (c : Value) (vs : List Value) → loop_term G b n c vs ≡ clear_term (loop_term F b n c vs)
  loop_clear true n c vs = refl
  loop_clear false n c vs = refl

  child_clear : (d : Node) (n : ℕ) (vs : List Value) → child_term G (cleared_node d) n vs ≡ clear_term (child_term F d n vs)
  child_clear (block is) n vs = refl
  child_clear (select k v cs ds u) n vs = refl
  child_clear (loop b c is u) n vs = loop_clear (always F c) n c vs
  child_clear (exit i ws) n vs = refl

  root_clear : (o : Option ControlInst) (r : ℕ) → root_term G o r ≡ clear_term (root_term F o r)
  root_clear none r = refl
  root_clear (some c) r = refl

  way_clear : (r : ℕ) (p : Place) → exit_term G r p ≡ clear_term (exit_term F r p)
  way_clear r top = root_clear (ctrl_of F r) r
  way_clear r (in_node n) = ap (λ (d : Node). child_term G d n (region_of F r).outs) (node_is n) ∙ child_clear (node_of F n) n (region_of F r).outs

  in_clear : (d : Node) (n : ℕ) → in_block G (cleared_node d) n ≡ clear_block (in_block F d n)
  in_clear (block is) n = refl
  in_clear (select k v cs ds u) n = refl
  in_clear (loop b c is u) n = refl
  in_clear (exit i vs) n = refl

  out_clear : (d : Node) (n : ℕ) (q : CfgPoint) → out_block G (cleared_node d) n q ≡ clear_block (out_block F d n q)
  out_clear (block is) n q = refl
  out_clear (select k v cs ds u) n q = refl
  out_clear (loop b c is u) n q = refl
  out_clear (exit i vs) n q = refl

  children_clear : (d : Node) → children_of (cleared_node d) ≡ children_of d
  children_clear (block is) = refl
  children_clear (select k v cs ds u) = refl
  children_clear (loop b c is u) = refl
  children_clear (exit i vs) = refl

  -- v walks a region as w does
  module _ (v w : ℕ → Place → Table) (h : (c : ℕ) (p : Place) → v c p ≡ clear_table (w c p)) where
    kids_clear : (n : ℕ) (cs : List ℕ) → walk_kids G v n cs ≡ clear_table (walk_kids F w n cs)
    kids_clear n [] = refl
    kids_clear n (c ∷ cs) = (λ i. h c (in_node n) i ++ kids_clear n cs i) ∙ sym (map-append clear_entry (w c (in_node n)) (walk_kids F w n cs))

    walk_node_law : (n : ℕ) (q : CfgPoint) → walk_node G v n q ≡ clear_table (walk_node F w n q)
    walk_node_law n q =
        let d = node_of F n in
        ap (λ (e : Node). (node_entry n, in_block G e n) ∷ (walk_kids G v n (children_of e) ++ ((node_exit n, out_block G e n q) ∷ []))) (node_is n)
        ∙ (λ i. (node_entry n, in_clear d n i) ∷ (walk_kids G v n (children_clear d i) ++ ((node_exit n, out_clear d n q i) ∷ [])))
        ∙ ap (λ (T : Table). (node_entry n, clear_block (in_block F d n)) ∷ T)
        (ap (λ (T : Table). T ++ clear_table ((node_exit n, out_block F d n q) ∷ [])) (kids_clear n (children_of d))
        ∙ sym (map-append clear_entry (walk_kids F w n (children_of d)) ((node_exit n, out_block F d n q) ∷ [])))

    nodes_clear : (r : ℕ) (ns : List ℕ) → walk_nodes G v r ns ≡ clear_table (walk_nodes F w r ns)
    nodes_clear r [] = refl
    nodes_clear r (n ∷ ns) = (λ i. walk_node_law n (next_point r ns) i ++ nodes_clear r ns i) ∙ sym (map-append clear_entry (walk_node F w n (next_point r ns)) (walk_nodes F w r ns))

  region_clear : (k r : ℕ) (p : Place) → walk_region G k r p ≡ clear_table (walk_region F k r p)
  region_clear zero r p = refl
  region_clear (suc k) r p =
      let ns = (region_of F r).nodes in
      let w : ℕ → Place → Table = λ c q. walk_region F k c q in
      ap (λ (T : Table). (region_entry r, entry_block G r p) ∷ T)
      ((λ i. nodes_clear (λ c q. walk_region G k c q) w (region_clear k) r ns i ++ ((region_exit r, plain (way_clear r p i)) ∷ [])) ∙ sym (map-append clear_entry (walk_nodes F w r ns) ((region_exit r, exit_block F r p) ∷ [])))

  roots_clear : (k : ℕ) (rs : List ℕ) → walk_roots G k rs ≡ clear_table (walk_roots F k rs)
  roots_clear k [] = refl
  roots_clear k (r ∷ rs) = (λ i. region_clear k r top i ++ roots_clear k rs i) ∙ sym (map-append clear_entry (walk_region F k r top) (walk_roots F k rs))

  pub walk_clear : walk_of (controls_cleared F) ≡ clear_table (walk_of F)
  unfolding walk_of roots
  walk_clear = by_body (has_body F.regions)
    where
      by_body : (b : Bool) → elim b as (λ x. Table) [ true ↦ walk_roots G (suc (length F.regions)) (roots F) | false ↦ [] ]
          ≡ clear_table (elim b as (λ x. Table) [ true ↦ walk_roots F (suc (length F.regions)) (roots F) | false ↦ [] ])
      by_body true = roots_clear (suc (length F.regions)) (roots F)
      by_body false = refl

-- ---- absorption

labels_clear : (t : Terminator) → labels (clear_term t) ≡ labels t
labels_clear t = ap (λ (l : List CfgPoint). l ++ t.targets) (of_merge t.merge)
  where
    of_merge : (m : Merge) → merge_labels (clear_merge m) ≡ merge_labels m
    of_merge no_merge = refl
    of_merge (selection_merge a u) = refl
    of_merge (loop_merge a b u) = refl

uses_clear : (T : Table) (q : CfgPoint) → uses (clear_table T) q ≡ uses T q
uses_clear [] q = refl
uses_clear (x ∷ T) q = λ i. count_in q (labels_clear x.1.term i) + uses_clear T q i

first_clear : (T : Table) (q : CfgPoint) → first_use (clear_table T) q ≡ first_use T q
first_clear [] q = refl
first_clear (x ∷ T) q = refl

count_clear : (T : Table) → use_count (clear_table T) ≡ use_count T
unfolding use_count
count_clear T = λ i q. first_clear T q i + uses_clear T q i

points_clear : (T : Table) → points (clear_table T) ≡ points T
points_clear [] = refl
points_clear (x ∷ T) = ap (λ (l : List CfgPoint). x.0 ∷ l) (points_clear T)

at_clear : (T : Table) (p : CfgPoint) → block_at (clear_table T) p ≡ clear_block (block_at T p)
at_clear [] p = refl
at_clear (x ∷ T) p = by_point (at_clear T p) (eq_point p x.0)
  where
    by_point : block_at (clear_table T) p ≡ clear_block (block_at T p) → (d : Dec (p ≡ x.0)) → block_or (choose d (some (clear_block x.1)) (find eq_point p (clear_table T))) ≡ clear_block (block_or (choose d (some x.1) (find eq_point p T)))
    by_point h (yes e) = refl
    by_point h (no e) = h

sole_clear : (t : Terminator) → sole_target (clear_term t) ≡ sole_target t
sole_clear t = ap (λ (o : Option CfgPoint). if_zero t.attrs (if_branch t.kind (if_empty t.ins (if_empty t.vals o)))) (of_merge t.merge (the_only t.targets))
  where
    of_merge : (m : Merge) (o : Option CfgPoint) → if_no_merge (clear_merge m) o ≡ if_no_merge m o
    of_merge no_merge o = refl
    of_merge (selection_merge a u) o = refl
    of_merge (loop_merge a b u) o = refl

absorb_cleared : (b t : CfgPoint) (c : BlockLifting) (T : Table) → absorb_into b t (clear_block c) (clear_table T) ≡ clear_table (absorb_into b t c T)
absorb_cleared b t c [] = refl
absorb_cleared b t c (x ∷ T) = λ i. (x.0, by_points (eq_point x.0 t) (eq_point x.0 b) i) ∷ absorb_cleared b t c T i
  where
    by_points : {P Q : Type 0} (d : Dec P) (e : Dec Q)
        → choose d (emptied (clear_block x.1)) (choose e (joined (clear_block x.1) (clear_block c)) (clear_block x.1)) ≡ clear_block (choose d (emptied x.1) (choose e (joined x.1 c) x.1))
    by_points (yes p) e = refl
    by_points (no p) (yes q) = refl
    by_points (no p) (no q) = refl

abbrev clear_state : Absorbing → Absorbing
clear_state s = record { table = clear_table s.table; counts = s.counts }

try_clear : (b : CfgPoint) (o : Option CfgPoint) (s : Absorbing) → try_target b o (clear_state s) ≡ clear_state (try_target b o s)
try_clear b none s = refl
try_clear b (some t) s = by_count_law (ℕ_discrete (s.counts t) 1)
  where
    by_keys : (ks : List Value) → if_no_phis ks (absorbed_by b t (clear_state s)) (clear_state s) ≡ clear_state (if_no_phis ks (absorbed_by b t s) s)
    by_keys [] = λ i. record { table = (ap (λ (c : BlockLifting). absorb_into b t c (clear_table s.table)) (at_clear s.table t) ∙ absorb_cleared b t (block_at s.table t) s.table) i; counts = (absorbed_by b t s).counts }
    by_keys (k ∷ ks) = refl

    by_count_law : (d : Dec (s.counts t ≡ 1)) → choose d (if_no_phis (block_at (clear_table s.table) t).keys (absorbed_by b t (clear_state s)) (clear_state s)) (clear_state s)
        ≡ clear_state (choose d (if_no_phis (block_at s.table t).keys (absorbed_by b t s) s) s)
    by_count_law (yes e) = ap (λ (c : BlockLifting). if_no_phis c.keys (absorbed_by b t (clear_state s)) (clear_state s)) (at_clear s.table t) ∙ by_keys (block_at s.table t).keys
    by_count_law (no e) = refl

turn_clear : (b : CfgPoint) (s : Absorbing) → absorb_at b (clear_state s) ≡ clear_state (absorb_at b s)
turn_clear b s =
    ap (λ (o : Option CfgPoint). try_target b o (clear_state s)) (ap (λ (c : BlockLifting). sole_target c.term) (at_clear s.table b) ∙ sole_clear (block_at s.table b).term)
    ∙ try_clear b (sole_target (block_at s.table b).term) s

all_clear : (l : List CfgPoint) (s : Absorbing) → absorb_all l (clear_state s) ≡ clear_state (absorb_all l s)
all_clear [] s = refl
all_clear (b ∷ l) s = ap (absorb_at b) (all_clear l s) ∙ turn_clear b (absorb_all l s)

absorb_clear : (T : Table) → absorb (clear_table T) ≡ clear_state (absorb T)
unfolding absorb
absorb_clear T =
    (λ i. absorb_all (points_clear T i) (record { table = clear_table T; counts = count_clear T i })) ∙ all_clear (points T) (record { table = T; counts = use_count T })

keep_clear : (c : CfgPoint → ℕ) (T : Table) → keep c (clear_table T) ≡ clear_table (keep c T)
keep_clear c [] = refl
keep_clear c (x ∷ T) = ap (keep_if (c x.0) (x.0, clear_block x.1)) (keep_clear c T) ∙ by_count_law (c x.0)
  where
    by_count_law : (n : ℕ) → keep_if n (x.0, clear_block x.1) (clear_table (keep c T)) ≡ clear_table (keep_if n x (keep c T))
    by_count_law zero = refl
    by_count_law (suc n) = refl

pub kept_clear : (T : Table) → kept (clear_table T) ≡ clear_table (kept T)
unfolding kept
kept_clear T = ap (λ (s : Absorbing). keep s.counts s.table) (absorb_clear T) ∙ keep_clear (absorb T).counts (absorb T).table

-- what is no merge stays
abbrev NoMerge : Instruction → Type 0
NoMerge i = is_merge i ≡ false

stays : (l : List Instruction) → All NoMerge l → map cleared_inst l ≡ l
stays [] h = refl
stays (i ∷ l) h = λ j. clear_if (h.0 j) i ∷ stays l h.1 j

gather_clear : {A : Type 0} (f : BlockLifting → List A) → ((b : BlockLifting) → f (clear_block b) ≡ f b) → (T : Table) → gather (λ (x : CfgPoint × BlockLifting). f x.1) (clear_table T) ≡ gather (λ (x : CfgPoint × BlockLifting). f x.1) T
gather_clear f h [] = refl
gather_clear f h (x ∷ T) = λ i. h x.1 i ++ gather_clear f h T i

module _ (F : Func) (first : ℕ) (T K : Table) where
  abbrev T0 : Table
  T0 = clear_table T

  abbrev K0 : Table
  K0 = clear_table K

  names_clear : names (controls_cleared F) T0 K0 ≡ names F T K
  unfolding names
  names_clear = λ i. the_function ∷ (map value (param_keys F ++ (gather_clear (λ b. b.keys) (λ b. refl) T i ++ gather_clear (λ b. gather (λ j. result_of (op_of F j).type j) b.ops) (λ b. refl) K i)) ++ map label (points_clear K i))

  new_clear : new_id (controls_cleared F) first T0 K0 ≡ new_id F first T K
  unfolding new_id
  new_clear = λ i x. number_in first x (names_clear i)

  id_clear : id_of (controls_cleared F) first T0 K0 ≡ id_of F first T K
  unfolding id_of
  id_clear = λ i v. by_value v i
    where
      by_value : (v : Value) → id_of (controls_cleared F) first T0 K0 v ≡ id_of F first T K v
      by_value (const n) = refl
      by_value (region_input r i) = ap (λ (f : Name → ℕ). f (value (region_input r i))) new_clear
      by_value (node_output n i) = ap (λ (f : Name → ℕ). f (value (node_output n i))) new_clear
      by_value (data_inst_output i) = ap (λ (f : Name → ℕ). f (value (data_inst_output i))) new_clear

  label_clear : label_of (controls_cleared F) first T0 K0 ≡ label_of F first T K
  unfolding label_of
  label_clear = λ i p. new_clear i (label p)

  pairs_clear : (L : Table) (q : CfgPoint) (j : ℕ) → pairs (controls_cleared F) first T0 K0 (clear_table L) q j ≡ pairs F first T K L q j
  unfolding pairs
  pairs_clear [] q j = refl
  pairs_clear (x ∷ L) q j = λ i.
      if_used (count_in q x.1.term.targets) (id_clear i (get_or (vals_or (find eq_point q x.1.term.vals) (at_clear K q i).defaults) j (const 0)) ∷ label_clear i x.0 ∷ []) ++ pairs_clear L q j i

  phis_clear : (q : CfgPoint) (ks : List Value) (ds : List Decl) (j : ℕ) → phi_insts (controls_cleared F) first T0 K0 q ks ds j ≡ phi_insts F first T K q ks ds j
  unfolding phi_insts phi_inst
  phis_clear q [] ds j = refl
  phis_clear q (k ∷ ks) ds j = λ i.
      record { opcode = opcode_of Phi; attrs = (get_or ds j (record { attrs = 0; type = 0 })).attrs; type = (get_or ds j (record { attrs = 0; type = 0 })).type; result = id_clear i k; imms = []; ids = pairs_clear K q j i }
      ∷ phis_clear q ks ds (suc j) i

  result_clear : (t j : ℕ) → result_id (controls_cleared F) first T0 K0 t j ≡ result_id F first T K t j
  result_clear zero j = refl
  result_clear (suc t) j = λ i. id_clear i (data_inst_output j)

  op_clear : op_inst (controls_cleared F) first T0 K0 ≡ op_inst F first T K
  unfolding op_inst
  op_clear = λ i j. record {
    opcode = op_opcode (op_of F j).kind;
    attrs = (op_of F j).attrs;
    type = (op_of F j).type;
    result = result_clear (op_of F j).type j i;
    imms = op_imms (op_of F j).kind;
    ids = callee_ids (op_of F j).kind ++ map (id_clear i) (op_of F j).operands;
  }

  term_clear : (t : Terminator) → term_inst (controls_cleared F) first T0 K0 (clear_term t) ≡ term_inst F first T K t
  unfolding term_inst
  term_clear t = λ i. record { opcode = term_opcode t.kind t.ins; attrs = t.attrs; type = 0; result = 0; imms = term_imms t.kind; ids = map (id_clear i) t.ins ++ map (label_clear i) t.targets }

  merge_clear : (m : Merge) → merge_insts (controls_cleared F) first T0 K0 (clear_merge m) ≡ map cleared_inst (merge_insts F first T K m)
  unfolding merge_insts
  merge_clear no_merge = refl
  merge_clear (selection_merge a u) = λ i. bare (opcode_of SelectionMerge) (short selection_control 0) (label_clear i a ∷ []) ∷ []
  merge_clear (loop_merge a b u) = λ i. bare (opcode_of LoopMerge) (short loop_control 0) (label_clear i a ∷ label_clear i b ∷ []) ∷ []

  module _ (ok : Sound F first T K) where
    phis_stay : (q : CfgPoint) (b : BlockLifting) → map cleared_inst (phi_insts F first T K q b.keys b.decls 0) ≡ phi_insts F first T K q b.keys b.decls 0
    unfolding phi_inst
    phis_stay q b = stays _ (all_phis F first T K NoMerge q (λ v d j. refl) b.keys b.decls 0)

    body_clear : (q : CfgPoint) (b : BlockLifting) → BlockOk F first T K b → body_insts (controls_cleared F) first T0 K0 q (clear_block b) ≡ map cleared_inst (body_insts F first T K q b)
    unfolding body_insts
    body_clear q b h =
        let others = no_merges F first T K b (free_of F first T K ok b h) in
        let phis = phi_insts F first T K q b.keys b.decls 0 in
        let ops = map (op_inst F first T K) b.ops in
        let merge = merge_insts F first T K b.term.merge in
        let way = term_inst F first T K b.term in
        (λ i. phis_clear q b.keys b.decls 0 i ++ (map (op_clear i) b.ops ++ (merge_clear b.term.merge i ++ (term_clear b.term i ∷ []))))
        ∙ sym (
        map-append cleared_inst phis (ops ++ (merge ++ (way ∷ [])))
        ∙ (λ i. phis_stay q b i ++ map-append cleared_inst ops (merge ++ (way ∷ [])) i)
        ∙ (λ i. phis ++ (stays ops others.0 i ++ map-append cleared_inst merge (way ∷ []) i))
        ∙ ap (λ (j : Instruction). phis ++ (ops ++ (map cleared_inst merge ++ (j ∷ [])))) (ap (λ (c : Bool). clear_if c way) others.1)
        )

    blocks_clear : (L : Table) → All (λ (x : CfgPoint × BlockLifting). BlockOk F first T K x.1) L → block_insts (controls_cleared F) first T0 K0 (clear_table L) ≡ map cleared_inst (block_insts F first T K L)
    unfolding block_insts label_inst
    blocks_clear [] h = refl
    blocks_clear (x ∷ L) h =
        let start : Instruction = label_inst F first T K x.0 in
        (λ i. record { opcode = opcode_of Label; attrs = 0; type = 0; result = label_clear i x.0; imms = []; ids = [] } ∷ (body_clear x.0 x.1 h.0 i ++ blocks_clear L h.1 i))
        ∙ ap (λ (l : List Instruction). start ∷ l) (sym (map-append cleared_inst (body_insts F first T K x.0 x.1) (block_insts F first T K L)))

    params_clear : (ds : List Decl) (j : ℕ) → param_insts (controls_cleared F) first T0 K0 ds j ≡ map cleared_inst (param_insts F first T K ds j)
    unfolding param_insts param_inst
    params_clear [] j = refl
    params_clear (d ∷ ds) j = λ i.
        record { opcode = opcode_of FunctionParameter; attrs = d.attrs; type = d.type; result = id_clear i (region_input 0 j); imms = []; ids = [] } ∷ params_clear ds (suc j) i

    pub list_clear : instructions (controls_cleared F) first T0 K0 ≡ map cleared_inst (instructions F first T K)
    unfolding instructions function_inst
    list_clear =
        (λ i. record { opcode = opcode_of Function; attrs = F.attrs; type = F.ret; result = new_clear i the_function; imms = short function_control F.control; ids = F.type ∷ [] }
        ∷ (params_clear F.params 0 i ++ (blocks_clear K ok.all_ok i ++ (end_inst F first T K ∷ []))))
        ∙ ap (λ (l : List Instruction). function_inst F first T K ∷ l)
        (sym (
        map-append cleared_inst (param_insts F first T K F.params 0) (block_insts F first T K K ++ (end_inst F first T K ∷ []))
        ∙ ap (λ (l : List Instruction). map cleared_inst (param_insts F first T K F.params 0) ++ l) (map-append cleared_inst (block_insts F first T K K) (end_inst F first T K ∷ []))
        ))

-- The list of the function with 0 for each number, and its next free id.
pub list_of_cleared : (F : Func) (first : ℕ) → Sound F first (walk_of F) (kept (walk_of F)) → list_of (controls_cleared F) first ≡ map cleared_inst (list_of F first)
unfolding list_of
list_of_cleared F first ok =
    ap (λ (U : Table). instructions (controls_cleared F) first U (kept U)) (walk_clear F)
    ∙ ap (instructions (controls_cleared F) first (clear_table (walk_of F))) (kept_clear (walk_of F))
    ∙ list_clear F first (walk_of F) (kept (walk_of F)) ok

pub next_of_cleared : (F : Func) (first : ℕ) → next_id (controls_cleared F) first (walk_of (controls_cleared F)) (kept (walk_of (controls_cleared F))) ≡ next_id F first (walk_of F) (kept (walk_of F))
unfolding next_id
next_of_cleared F first =
    ap (λ (U : Table). first + length (names (controls_cleared F) U (kept U))) (walk_clear F)
    ∙ ap (λ (L : Table). first + length (names (controls_cleared F) (clear_table (walk_of F)) L)) (kept_clear (walk_of F))
    ∙ ap (λ (l : List Name). first + length l) (names_clear F first (walk_of F) (kept (walk_of F)))
