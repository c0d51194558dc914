-- What the words say in which a function stands whole. Assumes nothing.
--     tables_func             what is stored of a function within its limits is so
--     node_in_law, node_at_law, ..    a row that may be read, and what its cells say
--     list_count, item_in, item_is, value_is     a list in a pool: its count, and its elements
--     value_count, value_at, ..     all values of the text, in one pool
--     node_values_law, ..         the lists of each kind of line
use Rattle.std.specs.Prelude.{◌≡◌, refl, true, drop}
use Rattle.std.proofs.Math.Path.{sym, ap}
use Rattle.std.proofs.Common.{subst, ◌∙◌, not-suc-le-zero, le_of_suc-le-suc, arith, length-take, length-drop, get_or-take}
use mathlib.Core.List.{List, [], ◌∷◌, map}
use Prim.Native.Nat.{ℕ, zero, suc, ◌+◌, ◌*◌, ◌/◌, ◌%◌, ◌≤◌, ◌<◌, min}
use Rattle.std.proofs.Math.Dec.{lit<}
use Rattle.std.proofs.Math.ListN.{length, get_or, length-map, get_or-map}
use Rattle.std.proofs.Math.Seq.{get_or-drop}
use Rattle.general_laws.specs.Every.{every_at, every_parts, every_split}
use Rattle.general_laws.specs.Part.{part_at}
use Rattle.general_laws.specs.Tab.{get_or_tab}
use Rattle.general_laws.specs.Lists.{every, gather}
use Rattle.lifting.specs.Ast.{Value, Op, Node, Region, ControlInst, Func}
use Rattle.lifting.specs.Parts.{node_values, node_insts, block_ops, children_of, outs_of, op_insts, ctrl_insts, ctrl_values}
use Rattle.lifting.specs.Parts as text
use Rattle.func.specs.Layout.{pool_total, consts, params, decls, values, imms, targets, node_refs, op_refs, child_refs, entries, regions, nodes, ops, ctrls, base, width, room, entry_room}
use Rattle.func.proofs.Pools.{entry_room_law}
use Rattle.func.specs.Store.{count, entry, view}
use Rattle.func.proofs.Store.{length_view}
use Rattle.func.specs.Lines.{pool_slice, Piece, Row}
use Rattle.func.proofs.Lines.{each_length, rows_each_at}
use Rattle.func.specs.Keep.{one_word, decl_words, imm_words, value_words, inst_imms, inst_opcode, node_number, region_cells, node_cells, op_cells, entry_cells, ctrl_cells, keep_func}
use Rattle.func.specs.Decode.{decode_const, decode_decl, value_of, func_of}
use Rattle.func.specs.Whole.{Clear}
use Rattle.func.proofs.Whole.{adds_func, clear_head, count_func, view_func}
use Rattle.func.specs.Back.{first_fits, CtrlRow, RowFits, Rows}
use Rattle.func.proofs.Back.{value_back, rows_func, func_back, all_fit, kept_lines}
use Rattle.func.specs.Tables.{Tables, Within, word, param_of, ctrl_line_of, entry_of, op_numbers, ctrl_numbers, Listed}

pub tables_func : (F : Func) {w : List ℕ} → Clear w → RowFits F → Tables (keep_func F w)
tables_func F {w} c f = record {
  size = omega (arith, (adds_func F c).len, (clear_head F c).size);
  counts = all_fit F c f;
  rows = subst (λ (G : Func). Rows G (keep_func F w)) (sym (func_back F c f)) (rows_func F c);
  firsts = subst (λ (G : Func). every first_fits (text.values G) ≡ true) (sym (func_back F c f)) f.firsts;
  pool = subst (λ (G : Func). view values (keep_func F w) ≡ map value_words (text.values G)) (sym (func_back F c f))
      (view_func F c values (lit< tt) (omega (arith, count_func F c values (lit< tt), all_fit F c f values (lit< tt))));
}

pub word_is : {k : ℕ} {w : List ℕ} {i : ℕ} → Within k w i → (j at : ℕ) → j < width k → at ≡ base k + i * width k → get_or w (at + j) 0 ≡ word k w i j
unfolding view entry
word_is {k} {w} {i} h j at l e =
    let b : i < min (count k w) (room k) = omega (arith, h.below, h.fits, entry_room_law k) in
    ap (λ (a : ℕ). get_or w (a + j) 0) e
    ∙ sym (part_at (base k + i * width k) (width k) w j l)
    ∙ ap (λ (x : List ℕ). get_or x j 0) (sym (get_or_tab (min (count k w) (room k)) (entry k w) i [] b))

pub whole_pool : (k : ℕ) (w : List ℕ) → count k w ≤ entry_room k → length (view k w) ≡ count k w
whole_pool k w f = omega (arith, length_view k w, entry_room_law k)

module _ {w : List ℕ} (t : Tables w) where
  pub length_held : (k : ℕ) → k < pool_total → length (view k w) ≡ count k w
  length_held k l = whole_pool k w (t.counts k l)

  pub within : (k i : ℕ) → k < pool_total → i < length (view k w) → Within k w i
  within k i l h = record { size = t.size; pool = l; fits = omega (arith, t.counts k l, entry_room_law k); below = omega (arith, length_held k l) }

  -- a constant and a parameter
  pub const_is : (i : ℕ) → text.const_of (func_of w) i ≡ decode_const (get_or (view consts w) i [])
  unfolding func_of
  const_is i = get_or-map decode_const (view consts w) i []

  pub param_row : (i : ℕ) → param_of (func_of w) i ≡ decode_decl (get_or (view params w) i [])
  unfolding func_of
  param_row i = get_or-map decode_decl (view params w) i []

  -- the lines that there are, and their rows
  pub const_total : length (func_of w).consts ≡ count consts w
  unfolding func_of
  const_total = length-map (view consts w) decode_const ∙ length_held consts (lit< tt)

  pub param_total : length (func_of w).params ≡ count params w
  unfolding func_of
  param_total = length-map (view params w) decode_decl ∙ length_held params (lit< tt)

  pub region_total : length (func_of w).regions ≡ count regions w
  region_total = sym (each_length (t.rows.regions (t.counts regions (lit< tt)))) ∙ length_held regions (lit< tt)

  pub node_total : length (func_of w).nodes ≡ count nodes w
  node_total = sym (each_length (t.rows.nodes (t.counts nodes (lit< tt)))) ∙ length_held nodes (lit< tt)

  pub op_total : length (func_of w).ops ≡ count ops w
  op_total = sym (each_length (t.rows.ops (t.counts ops (lit< tt)))) ∙ length_held ops (lit< tt)

  -- refusal 3's bounds
  pub few_params : length (func_of w).params ≤ 64
  few_params = omega (arith, param_total, t.counts params (lit< tt))

  pub few_ops : length (func_of w).ops ≤ 512
  few_ops = omega (arith, op_total, t.counts ops (lit< tt))

  pub ctrl_total : length (func_of w).ctrls ≡ count ctrls w
  ctrl_total = sym (each_length (t.rows.ctrls (t.counts ctrls (lit< tt)))) ∙ length_held ctrls (lit< tt)

  pub const_in : (i : ℕ) → i < length (func_of w).consts → Within consts w i
  const_in i h = record { size = t.size; pool = lit< tt; fits = omega (arith, t.counts consts (lit< tt), entry_room_law consts); below = omega (arith, const_total) }

  pub param_in_law : (i : ℕ) → i < length (func_of w).params → Within params w i
  param_in_law i h = record { size = t.size; pool = lit< tt; fits = omega (arith, t.counts params (lit< tt), entry_room_law params); below = omega (arith, param_total) }

  pub region_in : (r : ℕ) → r < length (func_of w).regions → Within regions w r
  region_in r h = within regions r (lit< tt) (omega (arith, each_length (t.rows.regions (t.counts regions (lit< tt)))))

  pub node_in_law : (n : ℕ) → n < length (func_of w).nodes → Within nodes w n
  node_in_law n h = within nodes n (lit< tt) (omega (arith, each_length (t.rows.nodes (t.counts nodes (lit< tt)))))

  pub op_in_law : (i : ℕ) → i < length (func_of w).ops → Within ops w i
  op_in_law i h = within ops i (lit< tt) (omega (arith, each_length (t.rows.ops (t.counts ops (lit< tt)))))

  pub ctrl_in : (i : ℕ) → i < length (func_of w).ctrls → Within ctrls w i
  ctrl_in i h = within ctrls i (lit< tt) (omega (arith, each_length (t.rows.ctrls (t.counts ctrls (lit< tt)))))

  pub region_at_law : (r : ℕ) → r < length (func_of w).regions → Row w (get_or (view regions w) r []) (region_cells (text.region_of (func_of w) r))
  region_at_law r h = rows_each_at (t.rows.regions (t.counts regions (lit< tt))) r _ h

  pub node_at_law : (n : ℕ) → n < length (func_of w).nodes → Row w (get_or (view nodes w) n []) (node_cells (text.node_of (func_of w) n))
  node_at_law n h = rows_each_at (t.rows.nodes (t.counts nodes (lit< tt))) n _ h

  pub op_at_law : (i : ℕ) → i < length (func_of w).ops → Row w (get_or (view ops w) i []) (op_cells (text.op_of (func_of w) i))
  op_at_law i h = rows_each_at (t.rows.ops (t.counts ops (lit< tt))) i _ h

  pub ctrl_at_law : (i : ℕ) → i < length (func_of w).ctrls → CtrlRow w (get_or (view ctrls w) i []) (ctrl_line_of (func_of w) i)
  ctrl_at_law i h = rows_each_at (t.rows.ctrls (t.counts ctrls (lit< tt))) i _ h

  -- every value is kept whole
  pub region_kept : (r : ℕ) → r < length (func_of w).regions → every first_fits (text.region_of (func_of w) r).outs ≡ true
  region_kept r h = every_at (λ (r : Region). every first_fits r.outs) (func_of w).regions (kept_lines (func_of w) t.firsts).0 r _ h

  pub node_kept : (n : ℕ) → n < length (func_of w).nodes → every first_fits (node_values (text.node_of (func_of w) n)) ≡ true
  node_kept n h = every_at (λ (n : Node). every first_fits (node_values n)) (func_of w).nodes (kept_lines (func_of w) t.firsts).1 n _ h

  pub op_kept : (i : ℕ) → i < length (func_of w).ops → every first_fits (text.op_of (func_of w) i).operands ≡ true
  op_kept i h = every_at (λ (o : Op). every first_fits o.operands) (func_of w).ops (kept_lines (func_of w) t.firsts).2 i _ h

  ctrl_kept : (i : ℕ) → i < length (func_of w).ctrls → every first_fits (ctrl_values (ctrl_line_of (func_of w) i)) ≡ true
  ctrl_kept i h = every_at (λ (c : ℕ × ControlInst). every first_fits (ctrl_values c)) (func_of w).ctrls (kept_lines (func_of w) t.firsts).3 i _ h

  pub ins_kept : (i : ℕ) → i < length (func_of w).ctrls → every first_fits (ctrl_line_of (func_of w) i).1.ins ≡ true
  ins_kept i h = let c = ctrl_line_of (func_of w) i in (every_split first_fits c.1.ins (gather (λ e. e.1) c.1.vals) (ctrl_kept i h)).0

-- A list in a pool, by its run.
get_or_mapped : {A B : Type 0} (f : A → B) (xs : List A) (i : ℕ) (a : A) (b : B) → i < length xs → get_or (map f xs) i b ≡ f (get_or xs i a)
get_or_mapped f [] i a b h = absurd (not-suc-le-zero h)
get_or_mapped f (x ∷ xs) zero a b h = refl
get_or_mapped f (x ∷ xs) (suc i) a b h = get_or_mapped f xs i a b (le_of_suc-le-suc h)

map_id : (es : List (List ℕ)) → map (λ e. e) es ≡ es
map_id [] = refl
map_id (e ∷ es) = ap (λ (l : List (List ℕ)). e ∷ l) (map_id es)

module _ {p : ℕ} {A : Type 0} {f : A → List ℕ} {xs : List A} {w : List ℕ} {x : ℕ} (s : Listed p f xs w x) where
  pub list_count : x % 4096 ≡ length xs
  unfolding pool_slice
  list_count =
      let a : length (pool_slice p w x) ≡ x % 4096 = simp (length-take, length-drop) (omega (arith, s.piece.within, whole_pool p w s.fits)) in
      sym a ∙ ap length s.piece.is ∙ length-map xs f

  pub item_low : (i : ℕ) → i < length xs → i ≤ 4095
  item_low i h = omega (arith, list_count)

  pub item_in : (i : ℕ) → i < length xs → {at : ℕ} → at ≡ x / 4096 + i → Within p w at
  item_in i h {at} e = record { size = s.size; pool = s.pool; fits = s.fits; below = omega (arith, s.piece.within, list_count) }

  pub item_is : (i : ℕ) → i < length xs → (d : A) {at : ℕ} → at ≡ x / 4096 + i → get_or (view p w) at [] ≡ f (get_or xs i d)
  unfolding pool_slice
  item_is i h d e =
      let k : i < x % 4096 = omega (arith, list_count) in
      ap (λ (n : ℕ). get_or (view p w) n []) e
      ∙ sym (get_or-take (x % 4096) (drop (x / 4096) (view p w)) i [] k ∙ get_or-drop (x / 4096) (view p w) i [])
      ∙ ap (λ (es : List (List ℕ)). get_or es i []) s.piece.is
      ∙ get_or_mapped f xs i d [] h

-- of values
pub value_is : {vs : List Value} {w : List ℕ} {x : ℕ} → Listed values value_words vs w x → every first_fits vs ≡ true → (i : ℕ) → i < length vs → (d : Value)
    → {at : ℕ} → at ≡ x / 4096 + i → value_of (get_or (view values w) at []) ≡ get_or vs i d
value_is {vs} s k i h d e = ap value_of (item_is s i h d e) ∙ value_back (get_or vs i d) (every_at first_fits vs k i d h)

-- all values of the text, in one pool
module _ {w : List ℕ} (t : Tables w) where
  pub value_count : count values w ≡ length (text.values (func_of w))
  value_count = omega (arith, length_view values w, ap length t.pool, length-map (text.values (func_of w)) value_words, t.counts values (lit< tt), entry_room_law values)

  pub value_within : (i : ℕ) → i < length (text.values (func_of w)) → Within values w i
  value_within i h = record { size = t.size; pool = lit< tt; fits = t.counts values (lit< tt); below = omega (arith, value_count) }

  pub value_at : (i : ℕ) → i < length (text.values (func_of w)) → (d : Value) → value_of (get_or (view values w) i []) ≡ get_or (text.values (func_of w)) i d
  value_at i h d =
      let vs : List Value = text.values (func_of w) in
      ap (λ (es : List (List ℕ)). value_of (get_or es i [])) t.pool ∙ ap value_of (get_or_mapped value_words vs i d [] h) ∙ value_back (get_or vs i d) (every_at first_fits vs t.firsts i d h)

-- The lists of each kind of line.
module _ {w : List ℕ} (t : Tables w) (r : ℕ) (h : r < length (func_of w).regions) where
  pub region_ins : Listed decls decl_words (text.region_of (func_of w) r).ins w (word regions w r 0)
  unfolding region_cells
  region_ins = record { size = t.size; fits = t.counts decls (lit< tt); pool = lit< tt; piece = (region_at_law t r h).cell 0 (lit< tt) (t.counts decls (lit< tt)) }

  pub region_nodes : Listed node_refs one_word (text.region_of (func_of w) r).nodes w (word regions w r 1)
  unfolding region_cells
  region_nodes = record { size = t.size; fits = t.counts node_refs (lit< tt); pool = lit< tt; piece = (region_at_law t r h).cell 1 (lit< tt) (t.counts node_refs (lit< tt)) }

  pub region_outs : Listed values value_words (text.region_of (func_of w) r).outs w (word regions w r 2)
  unfolding region_cells
  region_outs = record { size = t.size; fits = t.counts values (lit< tt); pool = lit< tt; piece = (region_at_law t r h).cell 2 (lit< tt) (t.counts values (lit< tt)) }

module _ {w : List ℕ} (t : Tables w) (n : ℕ) (h : n < length (func_of w).nodes) where
  pub node_number_is : word nodes w n 0 ≡ node_number (text.node_of (func_of w) n)
  unfolding node_cells
  node_number_is = (node_at_law t n h).cell 0 (lit< tt)

  pub node_opcode_is : word nodes w n 1 ≡ inst_opcode (node_insts (text.node_of (func_of w) n))
  unfolding node_cells
  node_opcode_is = (node_at_law t n h).cell 1 (lit< tt)

  pub node_control_is : word nodes w n 7 ≡ text.node_control (text.node_of (func_of w) n)
  unfolding node_cells
  node_control_is = (node_at_law t n h).cell 7 (lit< tt)

  pub node_imms : Listed imms imm_words (inst_imms (node_insts (text.node_of (func_of w) n))) w (word nodes w n 2)
  unfolding node_cells
  node_imms = record { size = t.size; fits = t.counts imms (lit< tt); pool = lit< tt; piece = (node_at_law t n h).cell 2 (lit< tt) (t.counts imms (lit< tt)) }

  pub node_values_law : Listed values value_words (node_values (text.node_of (func_of w) n)) w (word nodes w n 3)
  unfolding node_cells
  node_values_law = record { size = t.size; fits = t.counts values (lit< tt); pool = lit< tt; piece = (node_at_law t n h).cell 3 (lit< tt) (t.counts values (lit< tt)) }

  pub node_ops : Listed op_refs one_word (block_ops (text.node_of (func_of w) n)) w (word nodes w n 4)
  unfolding node_cells
  node_ops = record { size = t.size; fits = t.counts op_refs (lit< tt); pool = lit< tt; piece = (node_at_law t n h).cell 4 (lit< tt) (t.counts op_refs (lit< tt)) }

  pub node_children : Listed child_refs one_word (children_of (text.node_of (func_of w) n)) w (word nodes w n 5)
  unfolding node_cells
  node_children = record { size = t.size; fits = t.counts child_refs (lit< tt); pool = lit< tt; piece = (node_at_law t n h).cell 5 (lit< tt) (t.counts child_refs (lit< tt)) }

  pub node_outs : Listed decls decl_words (outs_of (text.node_of (func_of w) n)) w (word nodes w n 6)
  unfolding node_cells
  node_outs = record { size = t.size; fits = t.counts decls (lit< tt); pool = lit< tt; piece = (node_at_law t n h).cell 6 (lit< tt) (t.counts decls (lit< tt)) }

module _ {w : List ℕ} (t : Tables w) (i : ℕ) (h : i < length (func_of w).ops) where
  pub op_words_are : (j : ℕ) → j < 5 → word ops w i j ≡ get_or (op_numbers (text.op_of (func_of w) i)) j 0
  unfolding op_cells
  op_words_are zero l = (op_at_law t i h).cell 0 (lit< tt)
  op_words_are (suc zero) l = (op_at_law t i h).cell 1 (lit< tt)
  op_words_are (suc (suc zero)) l = (op_at_law t i h).cell 2 (lit< tt)
  op_words_are (suc (suc (suc zero))) l = (op_at_law t i h).cell 3 (lit< tt)
  op_words_are (suc (suc (suc (suc zero)))) l = (op_at_law t i h).cell 4 (lit< tt)
  op_words_are (suc (suc (suc (suc (suc j))))) l = absurd (omega arith)

  pub op_imms_law : Listed imms imm_words (inst_imms (op_insts (text.op_of (func_of w) i).kind)) w (word ops w i 5)
  unfolding op_cells
  op_imms_law = record { size = t.size; fits = t.counts imms (lit< tt); pool = lit< tt; piece = (op_at_law t i h).cell 5 (lit< tt) (t.counts imms (lit< tt)) }

  pub op_operands : Listed values value_words (text.op_of (func_of w) i).operands w (word ops w i 6)
  unfolding op_cells
  op_operands = record { size = t.size; fits = t.counts values (lit< tt); pool = lit< tt; piece = (op_at_law t i h).cell 6 (lit< tt) (t.counts values (lit< tt)) }

module _ {w : List ℕ} (t : Tables w) (i : ℕ) (h : i < length (func_of w).ctrls) where
  pub ctrl_words_are : (j : ℕ) → j < 4 → word ctrls w i j ≡ get_or (ctrl_numbers (ctrl_line_of (func_of w) i)) j 0
  unfolding ctrl_cells
  ctrl_words_are zero l = (ctrl_at_law t i h).cells.cell 0 (lit< tt)
  ctrl_words_are (suc zero) l = (ctrl_at_law t i h).cells.cell 1 (lit< tt)
  ctrl_words_are (suc (suc zero)) l = (ctrl_at_law t i h).cells.cell 2 (lit< tt)
  ctrl_words_are (suc (suc (suc zero))) l = (ctrl_at_law t i h).cells.cell 3 (lit< tt)
  ctrl_words_are (suc (suc (suc (suc j)))) l = absurd (omega arith)

  pub ctrl_imms : Listed imms imm_words (inst_imms (ctrl_insts (ctrl_line_of (func_of w) i).1.kind)) w (word ctrls w i 4)
  unfolding ctrl_cells
  ctrl_imms = record { size = t.size; fits = t.counts imms (lit< tt); pool = lit< tt; piece = (ctrl_at_law t i h).cells.cell 4 (lit< tt) (t.counts imms (lit< tt)) }

  pub ctrl_ins : Listed values value_words (ctrl_line_of (func_of w) i).1.ins w (word ctrls w i 5)
  unfolding ctrl_cells
  ctrl_ins = record { size = t.size; fits = t.counts values (lit< tt); pool = lit< tt; piece = (ctrl_at_law t i h).cells.cell 5 (lit< tt) (t.counts values (lit< tt)) }

  pub ctrl_targets : Listed targets one_word (ctrl_line_of (func_of w) i).1.to w (word ctrls w i 6)
  unfolding ctrl_cells
  ctrl_targets = record { size = t.size; fits = t.counts targets (lit< tt); pool = lit< tt; piece = (ctrl_at_law t i h).cells.cell 6 (lit< tt) (t.counts targets (lit< tt)) }

  -- the entries: their rows stand in their pool
  ctrl_entries : Listed entries (λ e. e) (ctrl_at_law t i h).rows w (word ctrls w i 7)
  ctrl_entries = record { size = t.size; fits = t.counts entries (lit< tt); pool = lit< tt; piece = subst (λ es. Piece entries es w (word ctrls w i 7)) (sym (map_id (ctrl_at_law t i h).rows)) ((ctrl_at_law t i h).piece (t.counts entries (lit< tt))) }

  pub entry_count : word ctrls w i 7 % 4096 ≡ length (ctrl_line_of (func_of w) i).1.vals
  entry_count = list_count ctrl_entries ∙ each_length (ctrl_at_law t i h).vals

  module _ (e : ℕ) (l : e < length (ctrl_line_of (func_of w) i).1.vals) where
    entry_below : e < length (ctrl_at_law t i h).rows
    entry_below = omega (arith, each_length (ctrl_at_law t i h).vals)

    pub entry_few : e ≤ 4095
    entry_few = item_low ctrl_entries e entry_below

    pub entry_within : {at : ℕ} → at ≡ word ctrls w i 7 / 4096 + e → Within entries w at
    entry_within q = item_in ctrl_entries e entry_below q

    entry_at_law : (at : ℕ) → at ≡ word ctrls w i 7 / 4096 + e → Row w (get_or (view entries w) at []) (entry_cells (entry_of (func_of w) i e))
    entry_at_law at q =
        subst (λ x. Row w x (entry_cells (entry_of (func_of w) i e))) (sym (item_is ctrl_entries e entry_below [] q))
        (rows_each_at (ctrl_at_law t i h).vals e (0, []) l)

    pub entry_region_is : (at : ℕ) → at ≡ word ctrls w i 7 / 4096 + e → word entries w at 0 ≡ (entry_of (func_of w) i e).0
    unfolding entry_cells
    entry_region_is at q = (entry_at_law at q).cell 0 (lit< tt)

    pub entry_values : (at : ℕ) → at ≡ word ctrls w i 7 / 4096 + e → Listed values value_words (entry_of (func_of w) i e).1 w (word entries w at 1)
    unfolding entry_cells
    entry_values at q = record { size = t.size; fits = t.counts values (lit< tt); pool = lit< tt; piece = (entry_at_law at q).cell 1 (lit< tt) (t.counts values (lit< tt)) }

    pub entry_kept : every first_fits (entry_of (func_of w) i e).1 ≡ true
    entry_kept =
        let c = ctrl_line_of (func_of w) i in
        every_at (λ (v : ℕ × List Value). every first_fits v.1) c.1.vals
        (every_parts first_fits (λ e. e.1) c.1.vals (every_split first_fits c.1.ins (gather (λ e. e.1) c.1.vals) (ctrl_kept t i h)).1)
        e
        (0, [])
        l
