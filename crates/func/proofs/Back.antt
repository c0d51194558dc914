-- A text that was stored is read back: THE law of the function slice. Assumes nothing.
--     func_back      of a function within its limits, `func_of` of what was stored is that function
--     rows_func      the rows of the lines, which say what the lines say
use Rattle.std.specs.Prelude.{◌≡◌, refl, Bool, true, ℕ, zero, suc, ◌+◌, ◌*◌, ◌/◌, ◌%◌, ◌≤◌, ◌<◌, min, leb, length, get_or}
use Rattle.std.proofs.Common.{sym, subst, ◌∙◌, arith, lit<, leb-true, zero-add}
use Rattle.std.proofs.Math.Path.{ap}
use mathlib.Core.List.{List, [], ◌∷◌, ◌++◌, map, append-nil}
use Rattle.std.proofs.Math.ListN.{get_or-append}
use Rattle.std.proofs.lemmas.List.Edits.{sets}
use Rattle.general_laws.specs.Every.{every_parts, every_split, every_true}
use Rattle.general_laws.specs.Tests.{both}
use Rattle.general_laws.specs.Part.{part_same, part_at}
use Rattle.general_laws.specs.Lists.{every, gather}
use Rattle.lifting.specs.Limits.{max_regions, max_nodes, max_ops, max_consts, max_params, max_values, max_decls, max_immediates, max_targets, within_limits}
use Rattle.lifting.specs.Ast.{Value, const, region_input, node_output, data_inst_output, Imm, DataInstKind, inst, call, ext, Op, bool_cond, spv_inst, Decl, Node, block, select, loop, exit, Region, ControlInstKind, unreachable, return, branch, select_branch, exit_invocation, ControlInst, Func}
use Rattle.lifting.specs.Parts.{children_of, outs_of, node_control, node_values, node_insts, op_insts, ctrl_insts, block_ops, ctrl_values}
use Rattle.lifting.specs.Parts as text
use Rattle.general_laws.specs.Gather.{map_back}
use Rattle.func.specs.Layout.{pool_total, consts, params, decls, values, imms, targets, node_refs, op_refs, child_refs, entries, regions, nodes, ops, ctrls, entry_room}
use Rattle.func.proofs.Pools.{entry_room_law}
use Rattle.func.specs.Store.{count, view, folds}
use Rattle.func.specs.Adds.{AddsReady}
use Rattle.func.proofs.Adds.{ready_after, adds_none, adds_push}
use Rattle.func.specs.Lines.{num, pool_span, keep_cells, row_of, line_gain, length_row, pool_slice, Later, Piece, CellIs, Row}
use Rattle.func.proofs.Lines.{later_then, piece_back, agree, row_cells, line_back, each_back, rows_back}
use Rattle.func.specs.Keep.{one_word, const_words, decl_words, imm_words, pair_words, value_words, inst_imms, inst_opcode, node_number, op_number, op_first, op_second, ctrl_number, region_cells, node_cells, op_cells, entry_cells, ctrl_cells, keep_region, keep_node, keep_op, keep_entry, ctrl_row, keep_ctrl, keep_head, keep_func}
use Rattle.func.specs.Gains.{gain, row_for, region_gain, node_gain, op_gain, entry_gain, entries_gain, ctrl_row_of, ctrl_gain}
use Rattle.func.proofs.Gains.{region_line_law, node_line_law, op_line_law, entry_line, adds_region, adds_node, adds_op, adds_entry, ctrl_lists_law, adds_ctrl_cells, adds_entries, ctrl_wide, adds_ctrl}
use Rattle.func.specs.Whole.{Clear, headed, with_consts, with_params, with_regions, with_nodes, with_ops, regions_gain, nodes_gain, ops_gain, ctrls_gain, func_gain, sizes}
use Rattle.func.proofs.Whole.{clear_view, clear_head, stages, adds_func, gain_regions, gain_nodes, gain_ops, gain_ctrls, count_func, view_func, ready_clear}
use Rattle.func.specs.Decode.{decode_number, decode_const, decode_decl, decode_imm, value_from, value_of, decls_at, values_at, imms_at, numbers_at, inst_at, node_from, op_from, ctrl_from, region_at, node_at, op_at, entry_at, ctrl_at, func_of}
use Rattle.func.specs.Back.{lowered, first_fits, Fit, CtrlRow, RowFits, Limits, Rows}

pair_back : (k a b : ℕ) → value_of (pair_words k a b) ≡ value_from k (min a 65535) b
pair_back k a b =
    let kind : (k * 65536 + min a 65535) / 65536 ≡ k = omega arith in
    let first : (k * 65536 + min a 65535) % 65536 ≡ min a 65535 = omega arith in
    ap (λ (n : ℕ). value_from n ((k * 65536 + min a 65535) % 65536) b) kind ∙ ap (λ (n : ℕ). value_from k n b) first

pub value_lowered : (v : Value) → value_of (value_words v) ≡ lowered v
value_lowered (const n) = pair_back 0 n 0
value_lowered (region_input r i) = pair_back 1 r i
value_lowered (node_output n i) = pair_back 2 n i
value_lowered (data_inst_output i) = pair_back 3 i 0

pub value_back : (v : Value) → first_fits v ≡ true → value_of (value_words v) ≡ v
value_back (const n) e = value_lowered (const n) ∙ ap const (let h = leb-true n 65535 e in omega arith)
value_back (region_input r i) e = value_lowered (region_input r i) ∙ ap (λ (n : ℕ). region_input n i) (let h = leb-true r 65535 e in omega arith)
value_back (node_output n i) e = value_lowered (node_output n i) ∙ ap (λ (n : ℕ). node_output n i) (let h = leb-true n 65535 e in omega arith)
value_back (data_inst_output i) e = value_lowered (data_inst_output i) ∙ ap data_inst_output (let h = leb-true i 65535 e in omega arith)

-- lists of parts
pub values_back : (vs : List Value) → every first_fits vs ≡ true → map value_of (map value_words vs) ≡ vs
values_back vs h = map_back value_words value_of first_fits value_back vs h

always : {A : Type 0} → A → Bool
always a = true

pub back_all : {A : Type 0} (f : A → List ℕ) (g : List ℕ → A) → ((a : A) → g (f a) ≡ a) → (xs : List A) → map g (map f xs) ≡ xs
unfolding always
back_all f g h xs = map_back f g always (λ a e. h a) xs (every_true always (λ a. refl) xs)

pub decls_back : (ds : List Decl) → map decode_decl (map decl_words ds) ≡ ds
decls_back = back_all decl_words decode_decl (λ d. refl)

pub imms_back : (is : List Imm) → map decode_imm (map imm_words is) ≡ is
imms_back = back_all imm_words decode_imm (λ i. refl)

pub numbers_back : (ns : List ℕ) → map decode_number (map one_word ns) ≡ ns
numbers_back = back_all one_word decode_number (λ n. refl)

-- Lines: what a row decodes to, if it says what its line says.
region_back : {t : List ℕ} → Fit t → (e : List ℕ) (r : Region) → Row t e (region_cells r) → every first_fits r.outs ≡ true → region_at t e ≡ r
unfolding region_at region_cells
region_back {t} fit e r h k =
    let a : decls_at t (get_or e 0 0) ≡ r.ins = ap (map decode_decl) (h.cell 0 (lit< tt) (fit decls (lit< tt))).is ∙ decls_back r.ins in
    let b : numbers_at t node_refs (get_or e 1 0) ≡ r.nodes = ap (map decode_number) (h.cell 1 (lit< tt) (fit node_refs (lit< tt))).is ∙ numbers_back r.nodes in
    let c : values_at t (get_or e 2 0) ≡ r.outs = ap (map value_of) (h.cell 2 (lit< tt) (fit values (lit< tt))).is ∙ values_back r.outs k in
    λ i. record { ins = a i; nodes = b i; outs = c i }

-- a node from its parts
node_parts : (n : Node) → node_from (node_number n) (record { opcode = inst_opcode (node_insts n); imms = inst_imms (node_insts n) }) (node_values n) (block_ops n) (children_of n) (outs_of n) (node_control n) ≡ n
unfolding node_from
node_parts (block is) = refl
node_parts (select bool_cond v cs ds u) = refl
node_parts (select (spv_inst i) v cs ds u) = ap (λ (l : List Imm). select (spv_inst (record { opcode = i.opcode; imms = l })) v cs ds u) (append-nil i.imms)
node_parts (loop b c vs u) = refl
node_parts (exit i vs) = ap (λ (l : List Imm). exit (record { opcode = i.opcode; imms = l }) vs) (append-nil i.imms)

node_back : {t : List ℕ} → Fit t → (e : List ℕ) (n : Node) → Row t e (node_cells n) → every first_fits (node_values n) ≡ true → node_at t e ≡ n
unfolding node_at node_cells
node_back {t} fit e n h k =
    let is : imms_at t (get_or e 2 0) ≡ inst_imms (node_insts n) = ap (map decode_imm) (h.cell 2 (lit< tt) (fit imms (lit< tt))).is ∙ imms_back (inst_imms (node_insts n)) in
    let vs : values_at t (get_or e 3 0) ≡ node_values n = ap (map value_of) (h.cell 3 (lit< tt) (fit values (lit< tt))).is ∙ values_back (node_values n) k in
    let os : numbers_at t op_refs (get_or e 4 0) ≡ block_ops n = ap (map decode_number) (h.cell 4 (lit< tt) (fit op_refs (lit< tt))).is ∙ numbers_back (block_ops n) in
    let cs : numbers_at t child_refs (get_or e 5 0) ≡ children_of n = ap (map decode_number) (h.cell 5 (lit< tt) (fit child_refs (lit< tt))).is ∙ numbers_back (children_of n) in
    let ds : decls_at t (get_or e 6 0) ≡ outs_of n = ap (map decode_decl) (h.cell 6 (lit< tt) (fit decls (lit< tt))).is ∙ decls_back (outs_of n) in
    (λ i. node_from (h.cell 0 (lit< tt) i) (record { opcode = h.cell 1 (lit< tt) i; imms = is i }) (vs i) (os i) (cs i) (ds i) (h.cell 7 (lit< tt) i)) ∙ node_parts n

op_parts : (k : DataInstKind) → op_from (op_number k) (record { opcode = op_first k; imms = inst_imms (op_insts k) }) (op_second k) ≡ k
unfolding op_from
op_parts (inst i) = ap (λ (l : List Imm). inst (record { opcode = i.opcode; imms = l })) (append-nil i.imms)
op_parts (call f) = refl
op_parts (ext s n) = refl

op_back : {t : List ℕ} → Fit t → (e : List ℕ) (o : Op) → Row t e (op_cells o) → every first_fits o.operands ≡ true → op_at t e ≡ o
unfolding op_at op_cells
op_back {t} fit e o h k =
    let is : imms_at t (get_or e 5 0) ≡ inst_imms (op_insts o.kind) = ap (map decode_imm) (h.cell 5 (lit< tt) (fit imms (lit< tt))).is ∙ imms_back (inst_imms (op_insts o.kind)) in
    let vs : values_at t (get_or e 6 0) ≡ o.operands = ap (map value_of) (h.cell 6 (lit< tt) (fit values (lit< tt))).is ∙ values_back o.operands k in
    let kind : op_from (get_or e 2 0) (inst_at t (get_or e 3 0) (get_or e 5 0)) (get_or e 4 0) ≡ o.kind =
    (λ i. op_from (h.cell 2 (lit< tt) i) (record { opcode = h.cell 3 (lit< tt) i; imms = is i }) (h.cell 4 (lit< tt) i)) ∙ op_parts o.kind in
    λ i. record { attrs = h.cell 0 (lit< tt) i; type = h.cell 1 (lit< tt) i; kind = kind i; operands = vs i }

entry_back : {t : List ℕ} → Fit t → (e : List ℕ) (v : ℕ × List Value) → Row t e (entry_cells v) → every first_fits v.1 ≡ true → entry_at t e ≡ v
unfolding entry_at entry_cells
entry_back {t} fit e v h k =
    let vs : values_at t (get_or e 1 0) ≡ v.1 = ap (map value_of) (h.cell 1 (lit< tt) (fit values (lit< tt))).is ∙ values_back v.1 k in
    λ i. (h.cell 0 (lit< tt) i, vs i)

ctrl_parts : (k : ControlInstKind) → ctrl_from (ctrl_number k) (record { opcode = inst_opcode (ctrl_insts k); imms = inst_imms (ctrl_insts k) }) ≡ k
unfolding ctrl_from
ctrl_parts unreachable = refl
ctrl_parts return = refl
ctrl_parts branch = refl
ctrl_parts (select_branch bool_cond) = refl
ctrl_parts (select_branch (spv_inst i)) = ap (λ (l : List Imm). select_branch (spv_inst (record { opcode = i.opcode; imms = l }))) (append-nil i.imms)
ctrl_parts (exit_invocation i) = ap (λ (l : List Imm). exit_invocation (record { opcode = i.opcode; imms = l })) (append-nil i.imms)

ctrl_back : {t : List ℕ} → Fit t → (e : List ℕ) (c : ℕ × ControlInst) → CtrlRow t e c → every first_fits (ctrl_values c) ≡ true → ctrl_at t e ≡ c
unfolding ctrl_at ctrl_cells
ctrl_back {t} fit e c r k =
    let h = r.cells in
    let q = every_split first_fits c.1.ins (gather (λ e. e.1) c.1.vals) k in
    let is : imms_at t (get_or e 4 0) ≡ inst_imms (ctrl_insts c.1.kind) = ap (map decode_imm) (h.cell 4 (lit< tt) (fit imms (lit< tt))).is ∙ imms_back (inst_imms (ctrl_insts c.1.kind)) in
    let vs : values_at t (get_or e 5 0) ≡ c.1.ins = ap (map value_of) (h.cell 5 (lit< tt) (fit values (lit< tt))).is ∙ values_back c.1.ins q.0 in
    let to : numbers_at t targets (get_or e 6 0) ≡ c.1.to = ap (map decode_number) (h.cell 6 (lit< tt) (fit targets (lit< tt))).is ∙ numbers_back c.1.to in
    let vals : map (entry_at t) (pool_slice entries t (get_or e 7 0)) ≡ c.1.vals =
    ap (map (entry_at t)) (r.piece (fit entries (lit< tt))).is ∙ each_back (entry_at t) (λ e. every first_fits e.1) (entry_back fit) r.vals (every_parts first_fits (λ e. e.1) c.1.vals q.1) in
    let kind : ctrl_from (get_or e 2 0) (inst_at t (get_or e 3 0) (get_or e 4 0)) ≡ c.1.kind =
    (λ i. ctrl_from (h.cell 2 (lit< tt) i) (record { opcode = h.cell 3 (lit< tt) i; imms = is i })) ∙ ctrl_parts c.1.kind in
    λ i. (h.cell 0 (lit< tt) i, record { attrs = h.cell 1 (lit< tt) i; kind = kind i; ins = vs i; to = to i; vals = vals i })

pub limits_of : (F : Func) → within_limits F ≡ true → Limits F
unfolding within_limits
limits_of F e =
    let i = both _ (leb (length (text.targets F)) max_targets) e in
    let h = both _ (leb (length (text.immediates F)) max_immediates) i.0 in
    let g = both _ (leb (length (text.decls F)) max_decls) h.0 in
    let f = both _ (leb (length (text.values F)) max_values) g.0 in
    let d = both _ (leb (length F.params) max_params) f.0 in
    let c = both _ (leb (length F.consts) max_consts) d.0 in
    let b = both _ (leb (length F.ops) max_ops) c.0 in
    let a = both (leb (length F.regions) max_regions) (leb (length F.nodes) max_nodes) b.0 in
    record {
      regions = leb-true _ _ a.0;
      nodes = leb-true _ _ a.1;
      ops = leb-true _ _ b.1;
      consts = leb-true _ _ c.1;
      params = leb-true _ _ d.1;
      values = leb-true _ _ f.1;
      decls = leb-true _ _ g.1;
      imms = leb-true _ _ h.1;
      targets = leb-true _ _ i.1;
    }

pub fits_room : (F : Func) → RowFits F → (k : ℕ) → k < pool_total → get_or (sizes F) k 0 ≤ entry_room k
fits_room F f k l = go (limits_of F f.limits) k l
  where
    go : Limits F → (k : ℕ) → k < pool_total → get_or (sizes F) k 0 ≤ entry_room k
    go m zero l = m.consts
    go m (suc zero) l = m.params
    go m (suc (suc zero)) l = m.decls
    go m (suc (suc (suc zero))) l = m.values
    go m (suc (suc (suc (suc zero)))) l = m.imms
    go m (suc (suc (suc (suc (suc zero))))) l = m.targets
    go m (suc (suc (suc (suc (suc (suc zero)))))) l = f.node_refs
    go m (suc (suc (suc (suc (suc (suc (suc zero))))))) l = f.op_refs
    go m (suc (suc (suc (suc (suc (suc (suc (suc zero)))))))) l = f.child_refs
    go m (suc (suc (suc (suc (suc (suc (suc (suc (suc zero))))))))) l = f.entries
    go m (suc (suc (suc (suc (suc (suc (suc (suc (suc (suc zero)))))))))) l = m.regions
    go m (suc (suc (suc (suc (suc (suc (suc (suc (suc (suc (suc zero))))))))))) l = m.nodes
    go m (suc (suc (suc (suc (suc (suc (suc (suc (suc (suc (suc (suc zero)))))))))))) l = m.ops
    go m (suc (suc (suc (suc (suc (suc (suc (suc (suc (suc (suc (suc (suc zero))))))))))))) l = f.ctrls
    go m (suc (suc (suc (suc (suc (suc (suc (suc (suc (suc (suc (suc (suc (suc k)))))))))))))) l = absurd (omega arith)

-- Each line's row, at any later time.
region_row_law : {t : List ℕ} (r : Region) (w : List ℕ) → AddsReady w → Later (keep_region r w) t → Row t (row_for region_cells r w) (region_cells r)
unfolding keep_region row_for
region_row_law r w h l = line_back regions (region_cells r) (region_line_law r) h l

node_row_law : {t : List ℕ} (n : Node) (w : List ℕ) → AddsReady w → Later (keep_node n w) t → Row t (row_for node_cells n w) (node_cells n)
unfolding keep_node row_for
node_row_law n w h l = line_back nodes (node_cells n) (node_line_law n) h l

op_row_law : {t : List ℕ} (o : Op) (w : List ℕ) → AddsReady w → Later (keep_op o w) t → Row t (row_for op_cells o w) (op_cells o)
unfolding keep_op row_for
op_row_law o w h l = line_back ops (op_cells o) (op_line_law o) h l

entry_row_law : {t : List ℕ} (e : ℕ × List Value) (w : List ℕ) → AddsReady w → Later (keep_entry e w) t → Row t (row_for entry_cells e w) (entry_cells e)
unfolding keep_entry row_for
entry_row_law e w h l = line_back entries (entry_cells e) (entry_line e) h l

last : (c : ℕ × ControlInst) (w v : List ℕ) (x : ℕ) → x ≡ get_or (row_of (ctrl_cells c) w v ++ x ∷ []) 7 0
unfolding ctrl_cells row_of
last c w v x = refl

ctrl_row_law : {t : List ℕ} (c : ℕ × ControlInst) (w : List ℕ) → AddsReady w → Later (keep_ctrl c w) t → CtrlRow t (ctrl_row_of c w) c
unfolding keep_ctrl ctrl_row_of ctrl_row entries_gain gain line_gain
ctrl_row_law {t} c w r later =
    let a = adds_ctrl_cells c w r in
    let b = adds_entries c w r in
    let rv = ready_after r a in
    let lu = later_then (adds_push ctrls (ctrl_row_of c w) (ready_after rv b) (lit< tt) (ctrl_wide c w)) later in
    let h = row_cells a (later_then b lu) (ctrl_cells c) (agree (ctrl_cells c) (ctrl_lists_law c).0) in
    let v = keep_cells (ctrl_cells c) w in
    let x = pool_span (count entries v) (count entries (folds keep_entry c.1.vals v)) in
    record {
      cells = record {
        cell = λ j l.
            subst (λ (y : ℕ). CellIs t y (get_or (ctrl_cells c) j (num 0)))
            (sym (get_or-append (row_of (ctrl_cells c) w v) (x ∷ []) 0 j (omega (arith, length_row (ctrl_cells c) w v))))
            (h.cell j l);
      };
      rows = entries_gain c w entries;
      piece = λ f. subst (Piece entries (entries_gain c w entries) t) (last c w v x) (piece_back entries b lu (lit< tt) f);
      vals = rows_back entries keep_entry entry_gain adds_entry (row_for entry_cells) (λ e w. refl) (λ e v. Row t e (entry_cells v)) entry_row_law c.1.vals v rv lu;
    }

-- the words of the func line
heads : Func → List ℕ
heads F = F.attrs ∷ F.ret ∷ F.type ∷ F.control ∷ []

head_word : (w : List ℕ) → Clear w → (F : Func) (j : ℕ) → j < 4 → get_or (headed F w) j 0 ≡ get_or (heads F) j 0
unfolding headed keep_head heads
head_word w c F j l =
    let h : List ℕ = F.attrs ∷ F.ret ∷ F.type ∷ F.control ∷ [] in
    ap (λ (n : ℕ). get_or (sets w 0 h) n 0) (sym (zero-add j)) ∙ sym (part_at 0 4 (sets w 0 h) j l) ∙ ap (λ (x : List ℕ). get_or x j 0) (part_same 0 4 h w refl (omega (arith, c.size)))

-- the lines of a text whose values are all kept whole
pub kept_lines : (F : Func) → every first_fits (text.values F) ≡ true
    → (every (λ r. every first_fits r.outs) F.regions ≡ true) × (every (λ n. every first_fits (node_values n)) F.nodes ≡ true)
    × (every (λ o. every first_fits o.operands) F.ops ≡ true) × (every (λ c. every first_fits (ctrl_values c)) F.ctrls ≡ true)
unfolding text.values
kept_lines F e =
    let r = every_split first_fits (gather (λ r. r.outs) F.regions) _ e in
    let n = every_split first_fits (gather node_values F.nodes) _ r.1 in
    let o = every_split first_fits (gather (λ o. o.operands) F.ops) _ n.1 in (
      every_parts first_fits (λ r. r.outs) F.regions r.0,
      every_parts first_fits node_values F.nodes n.0,
      every_parts first_fits (λ o. o.operands) F.ops o.0,
      every_parts first_fits ctrl_values F.ctrls o.1,
    )

module _ (F : Func) {w : List ℕ} (c : Clear w) where
  row_view : (k : ℕ) → k < pool_total → count k (keep_func F w) ≤ entry_room k → view k (keep_func F w) ≡ func_gain F w k
  row_view k l f = (adds_func F c).views k l (omega (arith, entry_room_law k)) ∙ ap (λ (x : List (List ℕ)). x ++ func_gain F w k) (clear_view (clear_head F c) k l)

  ready_0 : AddsReady (headed F w)
  ready_0 = ready_clear (clear_head F c)

  -- whatever the text holds
  pub rows_func : Rows F (keep_func F w)
  unfolding gain line_gain ctrl_gain
  rows_func =
      let t = keep_func F w in
      let s = stages F c in
      let r2 = ready_after (ready_after ready_0 s.const) s.param in
      let r3 = ready_after r2 s.region in
      let r4 = ready_after r3 s.node in
      let r5 = ready_after r4 s.op in
      let l6 : Later t t = record { rest = λ k. []; adds = adds_none (ready_after r5 s.ctrl) } in
      let l5 = later_then s.ctrl l6 in
      let l4 = later_then s.op l5 in
      let l3 = later_then s.node l4 in
      record {
        regions = λ f. rw (row_view regions (lit< tt) f, gain_regions F w)
            (unfold regions_gain with_regions in rows_back regions keep_region region_gain adds_region (row_for region_cells) (λ r w. refl) (λ e r. Row t e (region_cells r)) {t = t} region_row_law F.regions (with_params F w) r2 l3);
        nodes = λ f. rw (row_view nodes (lit< tt) f, gain_nodes F w)
            (unfold nodes_gain with_nodes in rows_back nodes keep_node node_gain adds_node (row_for node_cells) (λ n w. refl) (λ e n. Row t e (node_cells n)) {t = t} node_row_law F.nodes (with_regions F w) r3 l4);
        ops = λ f. rw (row_view ops (lit< tt) f, gain_ops F w)
            (unfold ops_gain with_ops in rows_back ops keep_op op_gain adds_op (row_for op_cells) (λ o w. refl) (λ e o. Row t e (op_cells o)) {t = t} op_row_law F.ops (with_nodes F w) r4 l5);
        ctrls = λ f. rw (row_view ctrls (lit< tt) f, gain_ctrls F w)
            (unfold ctrls_gain keep_func headed with_consts with_params with_regions with_nodes with_ops in rows_back ctrls keep_ctrl ctrl_gain adds_ctrl ctrl_row_of (λ c w. refl) (CtrlRow t) {t = t} ctrl_row_law F.ctrls (with_ops F w) r5 l6);
      }

  -- the func line's words
  pub head_func : (j : ℕ) → j < 4 → get_or (keep_func F w) j 0 ≡ get_or (F.attrs ∷ F.ret ∷ F.type ∷ F.control ∷ []) j 0
  unfolding heads
  head_func j l = (adds_func F c).head j l ∙ head_word w c F j l

module _ (F : Func) {w : List ℕ} (c : Clear w) (f : RowFits F) where
  pub all_fit : Fit (keep_func F w)
  all_fit k l = omega (arith, count_func F c k l, fits_room F f k l)

  pub func_back : func_of (keep_func F w) ≡ F
  unfolding func_of heads
  func_back =
      let t = keep_func F w in
      let s = rows_func F c in
      let k = kept_lines F f.firsts in
      let a : map decode_const (view consts t) ≡ F.consts = ap (map decode_const) (view_func F c consts (lit< tt) (fits_room F f consts (lit< tt))) ∙ back_all const_words decode_const (λ x. refl) F.consts in
      let b : map decode_decl (view params t) ≡ F.params = ap (map decode_decl) (view_func F c params (lit< tt) (fits_room F f params (lit< tt))) ∙ decls_back F.params in
      let g : map (region_at t) (view regions t) ≡ F.regions = each_back (region_at t) (λ r. every first_fits r.outs) (region_back all_fit) (s.regions (all_fit regions (lit< tt))) k.0 in
      let n : map (node_at t) (view nodes t) ≡ F.nodes = each_back (node_at t) (λ n. every first_fits (node_values n)) (node_back all_fit) (s.nodes (all_fit nodes (lit< tt))) k.1 in
      let o : map (op_at t) (view ops t) ≡ F.ops = each_back (op_at t) (λ o. every first_fits o.operands) (op_back all_fit) (s.ops (all_fit ops (lit< tt))) k.2 in
      let m : map (ctrl_at t) (view ctrls t) ≡ F.ctrls = each_back (ctrl_at t) (λ c. every first_fits (ctrl_values c)) (ctrl_back all_fit) (s.ctrls (all_fit ctrls (lit< tt))) k.3 in
      λ i. record {
        attrs = head_func F c 0 (lit< tt) i;
        ret = head_func F c 1 (lit< tt) i;
        type = head_func F c 2 (lit< tt) i;
        control = head_func F c 3 (lit< tt) i;
        consts = a i;
        params = b i;
        regions = g i;
        nodes = n i;
        ops = o i;
        ctrls = m i;
      }
