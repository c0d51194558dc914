-- What is stored of any text, whole or not. Assumes nothing.
--     stored_func                      what is stored of any function is as `Stored` says
--     stored_nodes, stored_children      the nodes of a region and the child regions of a node
--     ins_count, outs_count, ..        how many elements a list of a region or of a node has
--     stored_kind, op_type               the number of a node's kind, and an op's result type
use Rattle.std.specs.Prelude.{◌≡◌, refl, List, [], ◌∷◌, map, ℕ, ◌%◌, ◌≤◌, ◌<◌, length, get_or}
use Rattle.std.proofs.Common.{ap, arith}
use Rattle.std.proofs.Math.Dec.{lit<}
use Rattle.lifting.specs.Ast.{Func}
use Rattle.lifting.specs.Parts.{children_of, node_values, outs_of}
use Rattle.lifting.specs.Parts as text
use Rattle.func.specs.Layout.{decls, values, node_refs, child_refs, regions, nodes, ops, entry_room}
use Rattle.func.specs.Store.{count, view}
use Rattle.func.specs.Lines.{Row}
use Rattle.func.proofs.Lines.{rows_each_at, each_length}
use Rattle.func.specs.Keep.{one_word, decl_words, value_words, node_number, region_cells, node_cells, op_cells, keep_func}
use Rattle.func.specs.Decode.{decode_number}
use Rattle.func.specs.Whole.{Clear}
use Rattle.func.proofs.Whole.{adds_func, clear_head, count_func, view_func, most_func, most_entries, most_ctrls}
use Rattle.func.proofs.Back.{rows_func, head_func}
use Rattle.func.specs.Tables.{Listed, word, Within}
use Rattle.func.proofs.Tables.{list_count, whole_pool}
use Rattle.func.specs.Stored.{Stored}

pub stored_func : (F : Func) {w : List ℕ} → Clear w → Stored F (keep_func F w)
stored_func F c = record {
  size = omega (arith, (adds_func F c).len, (clear_head F c).size);
  head = head_func F c;
  counts = count_func F c;
  views = view_func F c;
  mosts = most_func F c;
  entry_most = most_entries F c;
  ctrl_most = most_ctrls F c;
  rows = rows_func F c;
}

module _ {F : Func} {w : List ℕ} (s : Stored F w) where
  module _ (f : count regions w ≤ entry_room regions) (r : ℕ) (h : r < length F.regions) where
    pub region_in : Within regions w r
    region_in = record { size = s.size; pool = lit< tt; fits = f; below = omega (arith, each_length (s.rows.regions f), whole_pool regions w f) }

    region_at_law : Row w (get_or (view regions w) r []) (region_cells (text.region_of F r))
    region_at_law = rows_each_at (s.rows.regions f) r _ h

    pub ins_count : count decls w ≤ entry_room decls → word regions w r 0 % 4096 ≡ length (text.region_of F r).ins
    unfolding region_cells
    ins_count g = list_count {f = decl_words} {xs = (text.region_of F r).ins} (record { size = s.size; fits = g; pool = lit< tt; piece = region_at_law.cell 0 (lit< tt) g })

    pub stored_nodes : count node_refs w ≤ entry_room node_refs → Listed node_refs one_word (text.region_of F r).nodes w (word regions w r 1)
    unfolding region_cells
    stored_nodes g = record { size = s.size; fits = g; pool = lit< tt; piece = region_at_law.cell 1 (lit< tt) g }

    pub results_count : count values w ≤ entry_room values → word regions w r 2 % 4096 ≡ length (text.region_of F r).outs
    unfolding region_cells
    results_count g = list_count {f = value_words} {xs = (text.region_of F r).outs} (record { size = s.size; fits = g; pool = lit< tt; piece = region_at_law.cell 2 (lit< tt) g })

  module _ (f : count nodes w ≤ entry_room nodes) (n : ℕ) (h : n < length F.nodes) where
    pub node_in_law : Within nodes w n
    node_in_law = record { size = s.size; pool = lit< tt; fits = f; below = omega (arith, each_length (s.rows.nodes f), whole_pool nodes w f) }

    node_at_law : Row w (get_or (view nodes w) n []) (node_cells (text.node_of F n))
    node_at_law = rows_each_at (s.rows.nodes f) n _ h

    pub stored_kind : word nodes w n 0 ≡ node_number (text.node_of F n)
    unfolding node_cells
    stored_kind = node_at_law.cell 0 (lit< tt)

    pub values_count : count values w ≤ entry_room values → word nodes w n 3 % 4096 ≡ length (node_values (text.node_of F n))
    unfolding node_cells
    values_count g = list_count {f = value_words} {xs = node_values (text.node_of F n)} (record { size = s.size; fits = g; pool = lit< tt; piece = node_at_law.cell 3 (lit< tt) g })

    pub stored_children : count child_refs w ≤ entry_room child_refs → Listed child_refs one_word (children_of (text.node_of F n)) w (word nodes w n 5)
    unfolding node_cells
    stored_children g = record { size = s.size; fits = g; pool = lit< tt; piece = node_at_law.cell 5 (lit< tt) g }

    pub outs_count : count decls w ≤ entry_room decls → word nodes w n 6 % 4096 ≡ length (outs_of (text.node_of F n))
    unfolding node_cells
    outs_count g = list_count {f = decl_words} {xs = outs_of (text.node_of F n)} (record { size = s.size; fits = g; pool = lit< tt; piece = node_at_law.cell 6 (lit< tt) g })

  module _ (f : count ops w ≤ entry_room ops) (i : ℕ) (h : i < length F.ops) where
    pub op_in_law : Within ops w i
    op_in_law = record { size = s.size; pool = lit< tt; fits = f; below = omega (arith, each_length (s.rows.ops f), whole_pool ops w f) }

    pub op_type : word ops w i 1 ≡ (text.op_of F i).type
    unfolding op_cells
    op_type = (rows_each_at (s.rows.ops f) i _ h).cell 1 (lit< tt)

-- the numbers of a pool of references, taken back out of their entries
pub unsingle : (l : List ℕ) → map decode_number (map one_word l) ≡ l
unsingle [] = refl
unsingle (x ∷ l) = ap (λ (m : List ℕ). x ∷ m) (unsingle l)
