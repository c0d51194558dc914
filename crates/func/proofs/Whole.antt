-- The whole text adds to each pool what `specs/Whole` says, from words whose pools are empty. Assumes nothing.
--     count_func     each pool's count is the size of its collection, up to one above the room
--     view_func      a pool of parts that is within its room holds its collection
--     most_func      the largest first word of a pool of parts is its collection's; most_entries and most_ctrls: of the regions named there
use Rattle.std.specs.Prelude.{◌≡◌, refl, Bool, true, false, List, [], ◌∷◌, ◌++◌, map, ℕ, zero, suc, ◌+◌, ◌-◌, ◌≤◌, ◌<◌, min, eqb, ltb, length, get_or, replicate}
use Rattle.std.proofs.Common.{sym, ap, subst, ◌∙◌, append-nil, arith, lit<, length-append, ne_eqb, ltb-true, ltb-false}
use Rattle.std.proofs.lemmas.List.{get_or-replicate, length-map}
use Rattle.std.proofs.lemmas.List.Edits.{sets}
use Rattle.std.proofs.Math.Seq.{length-sets}
use Rattle.general_laws.specs.Part.{at_after, part_at, part_same}
use Rattle.general_laws.specs.Tab.{tab}
use Rattle.general_laws.specs.Lists.{gather}
use Rattle.lifting.specs.Ast.{Value, Op, Decl, Node, Region, ControlInst, Const, Func}
use Rattle.lifting.specs.Parts as text
use Rattle.general_laws.specs.Gather.{map_append, map_gather, gather_none, gather_append, gather_gather, gather_single}
use Rattle.func.specs.Layout.{func_need, pool_total, consts, params, entries, regions, nodes, ops, ctrls, room, entry_room}
use Rattle.func.proofs.Pools.{entry_room_law}
use Rattle.func.specs.Store.{count, most, entry, view}
use Rattle.func.specs.Adds.{AddsReady, Adds, into_pool, grown, largest}
use Rattle.func.proofs.Adds.{ready_after, adds_then, adds_push, adds_folds, grown_gather, grown_length, grown_none, grown_largest}
use Rattle.func.specs.Lines.{Cell, keep_cells, row_of, gained, line_gain}
use Rattle.func.specs.Keep.{one_word, const_words, decl_words, imm_words, value_words, region_cells, node_cells, op_cells, entry_cells, ctrl_cells, keep_const, keep_param, keep_head, keep_region, keep_node, keep_op, keep_entry, ctrl_row, keep_ctrl, keep_func}
use Rattle.func.specs.Gains.{row_for, ctrl_row_of, gain, region_gain, node_gain, op_gain, entry_gain, entries_gain, ctrl_gain}
use Rattle.func.proofs.Gains.{const_wide, param_wide, entries_at, adds_region, adds_node, adds_op, adds_ctrl}
use Rattle.func.specs.Whole.{Clear, empty_pools, headed, with_consts, with_params, with_regions, with_nodes, with_ops, const_gain, param_gain, consts_gain, params_gain, regions_gain, nodes_gain, ops_gain, ctrls_gain, func_gain, Stages, collections, entry_list, sizes}

pub length_empty : (w : List ℕ) → length (empty_pools w) ≡ length w
unfolding empty_pools
length_empty w = length-sets w 0 (replicate 32 0)

pub clear_empty : (w : List ℕ) → func_need ≤ length w → Clear (empty_pools w)
unfolding empty_pools count most
clear_empty w h = record {
  size = omega (arith, length_empty w);
  empty = λ k l. low (4 + k) (omega arith);
  least = λ k l. low (18 + k) (omega arith);
}
  where
    low : (x : ℕ) → x < 32 → get_or (sets w 0 (replicate 32 0)) x 0 ≡ 0
    low x l =
        let e : x ≡ 0 + x = omega arith in
        ap (λ (y : ℕ). get_or (sets w 0 (replicate 32 0)) y 0) e
        ∙ sym (part_at 0 32 (sets w 0 (replicate 32 0)) x l)
        ∙ ap (λ (y : List ℕ). get_or y x 0) (part_same 0 32 (replicate 32 0) w refl (omega arith))
        ∙ get_or-replicate 32 x 0 0 l

pub clear_view : {w : List ℕ} → Clear w → (k : ℕ) → k < pool_total → view k w ≡ []
unfolding view tab
clear_view {w} c k l = let e : min (count k w) (room k) ≡ 0 = omega (arith, c.empty k l) in ap (λ (n : ℕ). tab n (entry k w)) e

pub ready_clear : {w : List ℕ} → Clear w → AddsReady w
ready_clear c = record { size = c.size; counts = λ k l. omega (arith, c.empty k l) }

pub clear_head : {w : List ℕ} (F : Func) → Clear w → Clear (headed F w)
unfolding headed keep_head count most
clear_head {w} F c = record {
  size = omega (arith, c.size, length-sets w 0 (F.attrs ∷ F.ret ∷ F.type ∷ F.control ∷ []));
  empty = λ k l. at_after w (F.attrs ∷ F.ret ∷ F.type ∷ F.control ∷ []) 0 (4 + k) (omega arith) ∙ c.empty k l;
  least = λ k l. at_after w (F.attrs ∷ F.ret ∷ F.type ∷ F.control ∷ []) 0 (18 + k) (omega arith) ∙ c.least k l;
}

pub stages : (F : Func) {w : List ℕ} → Clear w → Stages F w
unfolding with_consts with_params with_regions with_nodes with_ops keep_func headed consts_gain params_gain regions_gain nodes_gain ops_gain ctrls_gain const_gain param_gain
stages F {w} c =
    let r0 = ready_clear (clear_head F c) in
    let a = adds_folds keep_const const_gain (λ c w r. adds_push consts (const_words c) r (lit< tt) (const_wide c)) F.consts (headed F w) r0 in
    let r1 = ready_after r0 a in
    let b = adds_folds keep_param param_gain (λ d w r. adds_push params (decl_words d) r (lit< tt) (param_wide d)) F.params (with_consts F w) r1 in
    let r2 = ready_after r1 b in
    let g = adds_folds keep_region region_gain adds_region F.regions (with_params F w) r2 in
    let r3 = ready_after r2 g in
    let n = adds_folds keep_node node_gain adds_node F.nodes (with_regions F w) r3 in
    let r4 = ready_after r3 n in
    let o = adds_folds keep_op op_gain adds_op F.ops (with_nodes F w) r4 in
    record { const = a; param = b; region = g; node = n; op = o; ctrl = adds_folds keep_ctrl ctrl_gain adds_ctrl F.ctrls (with_ops F w) (ready_after r4 o) }

pub adds_func : (F : Func) {w : List ℕ} → Clear w → Adds (headed F w) (keep_func F w) (func_gain F w)
unfolding func_gain
adds_func F c =
    let s = stages F c in
    adds_then s.const (adds_then s.param (adds_then s.region (adds_then s.node (adds_then s.op s.ctrl))))

-- A pool of parts gains what each line holds of its kind.
plain : Func → ℕ → List (List ℕ)
unfolding into_pool gained
plain F j =
    gather (λ c. into_pool consts (const_words c ∷ []) j) F.consts
    ++ (gather (λ d. into_pool params (decl_words d ∷ []) j) F.params
    ++ (gather (λ r. gained (region_cells r) j) F.regions
    ++ (gather (λ n. gained (node_cells n) j) F.nodes
    ++ (gather (λ o. gained (op_cells o) j) F.ops
    ++ gather (λ c. gained (ctrl_cells c) j ++ gather (λ e. gained (entry_cells e) j) c.1.vals) F.ctrls))))

line_plain : {A : Type 0} (k : ℕ) (cells : A → List Cell) (j : ℕ) → (k ≡ j → ⊥) → (a : A) (w : List ℕ) → gain k cells a w j ≡ gained (cells a) j
unfolding gain line_gain
line_plain k cells j n a w = rw (ne_eqb k j n, line_gain)

ctrl_plain : (j : ℕ) → j < 9 → (c : ℕ × ControlInst) (w : List ℕ) → ctrl_gain c w j ≡ gained (ctrl_cells c) j ++ gather (λ e. gained (entry_cells e) j) c.1.vals
unfolding ctrl_gain
ctrl_plain j h c w =
    rw (ne_eqb ctrls j (λ e. omega arith), ctrl_gain)
    (ap (λ (x : List (List ℕ)). gained (ctrl_cells c) j ++ x) (entries_at j (λ e. gained (entry_cells e) j) (line_plain entries entry_cells j (λ e. omega arith)) c w))

gain_plain : (F : Func) (w : List ℕ) (j : ℕ) → j < 9 → func_gain F w j ≡ plain F j
unfolding func_gain plain consts_gain params_gain regions_gain nodes_gain ops_gain ctrls_gain const_gain param_gain
gain_plain F w j h =
    rw (
      grown_gather keep_const const_gain (λ c. into_pool consts (const_words c ∷ []) j) j (λ c w. refl) F.consts (headed F w),
      grown_gather keep_param param_gain (λ d. into_pool params (decl_words d ∷ []) j) j (λ d w. refl) F.params (with_consts F w),
      grown_gather keep_region region_gain (λ r. gained (region_cells r) j) j (line_plain regions region_cells j (λ e. omega arith)) F.regions (with_params F w),
      grown_gather keep_node node_gain (λ n. gained (node_cells n) j) j (line_plain nodes node_cells j (λ e. omega arith)) F.nodes (with_regions F w),
      grown_gather keep_op op_gain (λ o. gained (op_cells o) j) j (line_plain ops op_cells j (λ e. omega arith)) F.ops (with_nodes F w),
      grown_gather keep_ctrl ctrl_gain (λ c. gained (ctrl_cells c) j ++ gather (λ e. gained (entry_cells e) j) c.1.vals) j (ctrl_plain j h) F.ctrls (with_ops F w),
    )

-- a pool of parts gains its collection
collected : (F : Func) (k : ℕ) → k < 9 → plain F k ≡ get_or (collections F) k []
unfolding plain into_pool gained region_cells node_cells op_cells ctrl_cells entry_cells text.decls text.values text.insts text.immediates text.targets text.node_list text.op_list text.child_list
collected F zero h = simp (gather_none, gather_single, append-nil)
collected F (suc zero) h = simp (gather_none, gather_single, append-nil)
collected F (suc (suc zero)) h = simp (gather_none, append-nil, map_append, map_gather)
collected F (suc (suc (suc zero))) h = simp (gather_none, append-nil, map_append, map_gather)
collected F (suc (suc (suc (suc zero)))) h = simp (gather_none, append-nil, gather_append, gather_gather, map_append, map_gather)
collected F (suc (suc (suc (suc (suc zero))))) h = simp (gather_none, append-nil, map_gather)
collected F (suc (suc (suc (suc (suc (suc zero)))))) h = simp (gather_none, append-nil, map_gather)
collected F (suc (suc (suc (suc (suc (suc (suc zero))))))) h = simp (gather_none, append-nil, map_gather)
collected F (suc (suc (suc (suc (suc (suc (suc (suc zero)))))))) h = simp (gather_none, append-nil, map_gather)
collected F (suc (suc (suc (suc (suc (suc (suc (suc (suc k))))))))) h = absurd (omega arith)

-- How many entries each pool gains: a row counts for one, whatever it says.
ctrl_sized : ℕ → ℕ × ControlInst → List (List ℕ)
unfolding gained line_gain
ctrl_sized j c = elim (eqb ctrls j) [ true ↦ [] ∷ [] | false ↦ gained (ctrl_cells c) j ++ gather (λ e. line_gain entries (entry_cells e) [] j) c.1.vals ]

sized : Func → ℕ → List (List ℕ)
unfolding into_pool line_gain
sized F j =
    gather (λ c. into_pool consts (const_words c ∷ []) j) F.consts
    ++ (gather (λ d. into_pool params (decl_words d ∷ []) j) F.params
    ++ (gather (λ r. line_gain regions (region_cells r) [] j) F.regions
    ++ (gather (λ n. line_gain nodes (node_cells n) [] j) F.nodes
    ++ (gather (λ o. line_gain ops (op_cells o) [] j) F.ops
    ++ gather (ctrl_sized j) F.ctrls))))

line_sized : {A : Type 0} (k : ℕ) (cells : A → List Cell) (j : ℕ) (a : A) (w : List ℕ) → length (gain k cells a w j) ≡ length (line_gain k (cells a) [] j)
unfolding gain line_gain
line_sized k cells j a w = go (eqb k j) refl
  where
    go : (b : Bool) → eqb k j ≡ b → length (gain k cells a w j) ≡ length (line_gain k (cells a) [] j)
    go true e = rw (e, line_gain)
    go false e = rw (e, line_gain)

ctrl_sized_law : (j : ℕ) (c : ℕ × ControlInst) (w : List ℕ) → length (ctrl_gain c w j) ≡ length (ctrl_sized j c)
unfolding ctrl_gain ctrl_sized entries_gain
ctrl_sized_law j c w = go (eqb ctrls j) refl
  where
    inner : length (grown keep_entry entry_gain c.1.vals (keep_cells (ctrl_cells c) w) j) ≡ length (gather (λ e. line_gain entries (entry_cells e) [] j) c.1.vals)
    inner = grown_length keep_entry entry_gain (λ e. line_gain entries (entry_cells e) [] j) j (line_sized entries entry_cells j) c.1.vals (keep_cells (ctrl_cells c) w)

    go : (b : Bool) → eqb ctrls j ≡ b → length (ctrl_gain c w j) ≡ length (ctrl_sized j c)
    go true e = rw (e, ctrl_gain, ctrl_sized)
    go false e = rw (e, ctrl_gain, ctrl_sized) (simp length-append (omega (arith, inner)))

gain_sized : (F : Func) (w : List ℕ) (j : ℕ) → length (func_gain F w j) ≡ length (sized F j)
unfolding func_gain sized consts_gain params_gain regions_gain nodes_gain ops_gain ctrls_gain const_gain param_gain
gain_sized F w j =
    simp length-append
    (omega (
      arith,
      grown_length keep_const const_gain (λ c. into_pool consts (const_words c ∷ []) j) j (λ c w. refl) F.consts (headed F w),
      grown_length keep_param param_gain (λ d. into_pool params (decl_words d ∷ []) j) j (λ d w. refl) F.params (with_consts F w),
      grown_length keep_region region_gain (λ r. line_gain regions (region_cells r) [] j) j (line_sized regions region_cells j) F.regions (with_params F w),
      grown_length keep_node node_gain (λ n. line_gain nodes (node_cells n) [] j) j (line_sized nodes node_cells j) F.nodes (with_regions F w),
      grown_length keep_op op_gain (λ o. line_gain ops (op_cells o) [] j) j (line_sized ops op_cells j) F.ops (with_nodes F w),
      grown_length keep_ctrl ctrl_gain (ctrl_sized j) j (ctrl_sized_law j) F.ctrls (with_ops F w),
    ))

entries_sized : (cs : List (ℕ × ControlInst)) → length (gather (ctrl_sized entries) cs) ≡ length (gather (λ c. c.1.vals) cs)
unfolding ctrl_sized line_gain gained ctrl_cells
entries_sized [] = refl
entries_sized (c ∷ cs) =
    simp (length-append, gather_single, length-map) (omega (arith, entries_sized cs))

ctrls_none : (j : ℕ) → ((c : ℕ × ControlInst) → ctrl_sized j c ≡ []) → (cs : List (ℕ × ControlInst)) → length (gather (ctrl_sized j) cs) ≡ 0
ctrls_none j h [] = refl
ctrls_none j h (c ∷ cs) = rw (h c) (ctrls_none j h cs)

rows_sized : (F : Func) (k : ℕ) → k < 5 → length (sized F (9 + k)) ≡ get_or (sizes F) (9 + k) 0
unfolding sized ctrl_sized into_pool line_gain gained region_cells node_cells op_cells ctrl_cells entry_cells entry_list
rows_sized F zero h = simp (gather_none) (entries_sized F.ctrls)
rows_sized F (suc zero) h = simp (gather_none, append-nil, gather_single, length-append, length-map) (omega (arith, ctrls_none regions (λ c. gather_none c.1.vals) F.ctrls))
rows_sized F (suc (suc zero)) h = simp (gather_none, append-nil, gather_single, length-append, length-map) (omega (arith, ctrls_none nodes (λ c. gather_none c.1.vals) F.ctrls))
rows_sized F (suc (suc (suc zero))) h = simp (gather_none, append-nil, gather_single, length-append, length-map) (omega (arith, ctrls_none ops (λ c. gather_none c.1.vals) F.ctrls))
rows_sized F (suc (suc (suc (suc zero)))) h = simp (gather_none, append-nil, gather_single, length-map)
rows_sized F (suc (suc (suc (suc (suc k))))) h = absurd (omega arith)

parts_sized : (F : Func) (k : ℕ) → k < 9 → length (get_or (collections F) k []) ≡ get_or (sizes F) k 0
parts_sized F zero h = length-map F.consts const_words
parts_sized F (suc zero) h = length-map F.params decl_words
parts_sized F (suc (suc zero)) h = length-map (text.decls F) decl_words
parts_sized F (suc (suc (suc zero))) h = length-map (text.values F) value_words
parts_sized F (suc (suc (suc (suc zero)))) h = length-map (text.immediates F) imm_words
parts_sized F (suc (suc (suc (suc (suc zero))))) h = length-map (text.targets F) one_word
parts_sized F (suc (suc (suc (suc (suc (suc zero)))))) h = length-map (text.node_list F) one_word
parts_sized F (suc (suc (suc (suc (suc (suc (suc zero))))))) h = length-map (text.op_list F) one_word
parts_sized F (suc (suc (suc (suc (suc (suc (suc (suc zero)))))))) h = length-map (text.child_list F) one_word
parts_sized F (suc (suc (suc (suc (suc (suc (suc (suc (suc k))))))))) h = absurd (omega arith)

-- THE count law
pub count_func : (F : Func) {w : List ℕ} → Clear w → (k : ℕ) → k < pool_total → count k (keep_func F w) ≡ min (get_or (sizes F) k 0) (entry_room k + 1)
count_func F {w} c k l = omega (arith, (adds_func F c).counts k l, (clear_head F c).empty k l, size, entry_room_law k)
  where
    size : length (func_gain F w k) ≡ get_or (sizes F) k 0
    size = go (ltb k 9) refl
      where
        go : (b : Bool) → ltb k 9 ≡ b → length (func_gain F w k) ≡ get_or (sizes F) k 0
        go true e =
            let h = ltb-true k 9 e in
            ap length (gain_plain F w k h ∙ collected F k h) ∙ parts_sized F k h
        go false e =
            let h = ltb-false k 9 e in
            gain_sized F w k ∙ subst (λ (j : ℕ). length (sized F j) ≡ get_or (sizes F) j 0) (omega arith) (rows_sized F (k - 9) (omega arith))

-- THE view law
pub view_func : (F : Func) {w : List ℕ} → Clear w → (k : ℕ) → k < 9 → get_or (sizes F) k 0 ≤ entry_room k → view k (keep_func F w) ≡ get_or (collections F) k []
view_func F {w} c k l f =
    let a = adds_func F c in
    a.views k (omega arith) (omega (arith, count_func F c k (omega arith), entry_room_law k))
    ∙ ap (λ (x : List (List ℕ)). x ++ func_gain F w k) (clear_view (clear_head F c) k (omega arith))
    ∙ gain_plain F w k l
    ∙ collected F k l

-- A pool of rows gains the rows of its own lines.
ctrl_none : (k : ℕ) → ((c : ℕ × ControlInst) → gained (ctrl_cells c) k ≡ []) → ((e : ℕ × List Value) (w : List ℕ) → entry_gain e w k ≡ []) → (c : ℕ × ControlInst) (w : List ℕ)
    → gained (ctrl_cells c) k ++ entries_gain c w k ≡ []
ctrl_none k a b c w = rw (a c, entries_at k (λ e. []) b c w) (gather_none c.1.vals)

module _ (F : Func) (w : List ℕ) where
  const_rows : (k : ℕ) → ((c : Const) (w : List ℕ) → const_gain c w k ≡ []) → consts_gain F w k ≡ []
  unfolding consts_gain
  const_rows k h = grown_none keep_const const_gain k h F.consts (headed F w)

  param_rows : (k : ℕ) → ((d : Decl) (w : List ℕ) → param_gain d w k ≡ []) → params_gain F w k ≡ []
  unfolding params_gain
  param_rows k h = grown_none keep_param param_gain k h F.params (with_consts F w)

  region_rows : (k : ℕ) → ((r : Region) (w : List ℕ) → region_gain r w k ≡ []) → regions_gain F w k ≡ []
  unfolding regions_gain
  region_rows k h = grown_none keep_region region_gain k h F.regions (with_params F w)

  node_rows : (k : ℕ) → ((n : Node) (w : List ℕ) → node_gain n w k ≡ []) → nodes_gain F w k ≡ []
  unfolding nodes_gain
  node_rows k h = grown_none keep_node node_gain k h F.nodes (with_regions F w)

  op_rows : (k : ℕ) → ((o : Op) (w : List ℕ) → op_gain o w k ≡ []) → ops_gain F w k ≡ []
  unfolding ops_gain
  op_rows k h = grown_none keep_op op_gain k h F.ops (with_nodes F w)

  ctrl_rows : (k : ℕ) → ((c : ℕ × ControlInst) (w : List ℕ) → ctrl_gain c w k ≡ []) → ctrls_gain F w k ≡ []
  unfolding ctrls_gain
  ctrl_rows k h = grown_none keep_ctrl ctrl_gain k h F.ctrls (with_ops F w)

  gain_entries : func_gain F w entries ≡ ctrls_gain F w entries
  unfolding func_gain const_gain param_gain into_pool gain line_gain gained region_cells node_cells op_cells
  gain_entries =
      rw (const_rows entries (λ c w. refl), param_rows entries (λ d w. refl), region_rows entries (λ r w. refl), node_rows entries (λ n w. refl), op_rows entries (λ o w. refl))

  pub gain_regions : func_gain F w regions ≡ regions_gain F w regions
  unfolding func_gain const_gain param_gain into_pool gain line_gain gained node_cells op_cells entry_cells ctrl_cells ctrl_gain
  gain_regions =
      rw (
        const_rows regions (λ c w. refl),
        param_rows regions (λ d w. refl),
        node_rows regions (λ n w. refl),
        op_rows regions (λ o w. refl),
        ctrl_rows regions (ctrl_none regions (λ c. refl) (λ e w. refl)),
      )
      (append-nil (regions_gain F w regions))

  pub gain_nodes : func_gain F w nodes ≡ nodes_gain F w nodes
  unfolding func_gain const_gain param_gain into_pool gain line_gain gained region_cells op_cells entry_cells ctrl_cells ctrl_gain
  gain_nodes =
      rw (
        const_rows nodes (λ c w. refl),
        param_rows nodes (λ d w. refl),
        region_rows nodes (λ r w. refl),
        op_rows nodes (λ o w. refl),
        ctrl_rows nodes (ctrl_none nodes (λ c. refl) (λ e w. refl)),
      )
      (append-nil (nodes_gain F w nodes))

  pub gain_ops : func_gain F w ops ≡ ops_gain F w ops
  unfolding func_gain const_gain param_gain into_pool gain line_gain gained region_cells node_cells entry_cells ctrl_cells ctrl_gain
  gain_ops =
      rw (
        const_rows ops (λ c w. refl),
        param_rows ops (λ d w. refl),
        region_rows ops (λ r w. refl),
        node_rows ops (λ n w. refl),
        ctrl_rows ops (ctrl_none ops (λ c. refl) (λ e w. refl)),
      )
      (append-nil (ops_gain F w ops))

  pub gain_ctrls : func_gain F w ctrls ≡ ctrls_gain F w ctrls
  unfolding func_gain const_gain param_gain into_pool gain line_gain gained region_cells node_cells op_cells
  gain_ctrls =
      rw (const_rows ctrls (λ c w. refl), param_rows ctrls (λ d w. refl), region_rows ctrls (λ r w. refl), node_rows ctrls (λ n w. refl), op_rows ctrls (λ o w. refl))

-- THE largest-number law: of parts, of the regions that entries name, and of those that ctrl lines are for
pub most_func : (F : Func) {w : List ℕ} → Clear w → (k : ℕ) → k < 9 → most k (keep_func F w) ≡ largest (get_or (collections F) k [])
most_func F {w} c k l =
    omega (arith, (adds_func F c).mosts k (omega arith), (clear_head F c).least k (omega arith), ap largest (gain_plain F w k l ∙ collected F k l))

entry_regions : (c : ℕ × ControlInst) (w : List ℕ) → largest (ctrl_gain c w entries) ≡ largest (gather (λ e. one_word e.0 ∷ []) c.1.vals)
unfolding ctrl_gain gained ctrl_cells entries_gain gain line_gain row_for entry_cells row_of
entry_regions c w = grown_largest keep_entry entry_gain (λ e. one_word e.0 ∷ []) entries (λ e w. refl) c.1.vals (keep_cells (ctrl_cells c) w)

pub most_entries : (F : Func) {w : List ℕ} → Clear w → most entries (keep_func F w) ≡ largest (map (λ e. one_word e.0) (entry_list F))
unfolding ctrls_gain entry_list
most_entries F {w} c =
    let g : largest (func_gain F w entries) ≡ largest (map (λ e. one_word e.0) (entry_list F)) =
    ap largest (gain_entries F w)
    ∙ grown_largest keep_ctrl ctrl_gain (λ c. gather (λ e. one_word e.0 ∷ []) c.1.vals) entries entry_regions F.ctrls (with_ops F w)
    ∙ ap largest (sym (gather_gather (λ e. one_word e.0 ∷ []) (λ c. c.1.vals) F.ctrls) ∙ gather_single (λ e. one_word e.0) (gather (λ c. c.1.vals) F.ctrls)) in
    omega (arith, (adds_func F c).mosts entries (lit< tt), (clear_head F c).least entries (lit< tt))

pub most_ctrls : (F : Func) {w : List ℕ} → Clear w → most ctrls (keep_func F w) ≡ largest (map (λ c. one_word c.0) F.ctrls)
unfolding ctrls_gain ctrl_gain ctrl_row_of ctrl_row ctrl_cells row_of
most_ctrls F {w} c =
    let g : largest (func_gain F w ctrls) ≡ largest (map (λ c. one_word c.0) F.ctrls) =
    ap largest (gain_ctrls F w)
    ∙ grown_largest keep_ctrl ctrl_gain (λ c. one_word c.0 ∷ []) ctrls (λ c w. refl) F.ctrls (with_ops F w)
    ∙ ap largest (gather_single (λ c. one_word c.0) F.ctrls) in
    omega (arith, (adds_func F c).mosts ctrls (lit< tt), (clear_head F c).least ctrls (lit< tt))
