-- What each function of a node or an op cites: what stands before the row, and the row from the marks that were taken where the line began.
-- Assumes nothing.
use Rattle.std.specs.Prelude.{◌≡◌, List, ℕ}
use Rattle.std.specs.Prelude as code
use Rattle.std.proofs.Math.Path.{ap, subst⁻¹}
use Rattle.std.proofs.Common.{sym, ◌∙◌, refl}
use Rattle.lifting.specs.Digits.{Reading}
use Rattle.lifting.specs.Codec.{then, up, seq}
use Rattle.lifting.specs.Ast.{Value, Imm, Decl, block, call, ext, bool_cond}
use Rattle.lifting.specs.Grammar.{field, numbers_codec, imms_codec, values_codec}
use Rattle.read_cursor.specs.Answers.{Reached, Missed}
use Rattle.read_cursor.specs.Chains.{seq_misses, seq_open, seq_reads}
use Rattle.read_cursor.specs.declared.Cursor.{Cursor}
use Rattle.read_insts.specs.Heads.{inst_head, selection_head}
use Rattle.func.specs.declared.OpKind.{OpKind}
use Rattle.func.specs.declared.OpKind.TheVariants as op
use Rattle.read_insts.specs.declared.Selection.{Selection}
use Rattle.read_insts.specs.declared.Selection.TheVariants as sel
use Rattle.func.specs.declared.Marks.{Marks}
use Rattle.func.specs.Store.{folds}
use Rattle.func.specs.Keep.{keep_op_ref, keep_imm, keep_value, keep_child, keep_region, keep_node, keep_op}
use Rattle.func.specs.Rows.{marks_of, region_row, node_row, op_row}
use Rattle.read_lines.specs.Stores.{Stores, Stored, up_missed, up_reached, head_open, head_reached, waits_missed, waits_open, waits_reached, stored_both}
use Rattle.read_lines.specs.Tails.{ended_by, region_lists, region_tail, to_region, block_tail, control, controlled, loop_lists, loop_rest, loop_tail, to_loop, inst_values, exit_tail, to_exit, select_lists, select_rest, select_tail, to_select, to_select_inst, op_rest, op_of_tail, to_op_inst}
use Rattle.read_lines.specs.Keepers.{keep_region_lists, keep_loop_lists, keep_inst_values, keep_select_lists, keep_node_lists, keep_op_lists, region_row_law, block_row, loop_row, exit_row, select_number, select_opcode, select_bool, select_inst, rest_row, op_inst_law, op_row_law}

-- a reader that goes by what is known to be this
pub as_told : {A X S : Type 0} (tail : X → List ℕ → Reading A) (f : A → S → S) (c : Cursor) (found : code.Option Cursor) (w v : S) {x y : X} → x ≡ y
    → Stores (tail y) f c found w v → Stores (tail x) f c found w v
as_told {X = X} tail f c found w v e s = subst⁻¹ (λ (z : X). Stores (tail z) f c found w v) e s

module _ {c d : Cursor} {r : ℕ} (t : Reached field.read c r d) where
  pub loop_missed : Missed loop_lists.read d → Missed loop_tail c
  loop_missed s = head_open field.read (λ r t. controlled (loop_rest r t)) t (waits_missed control (loop_rest r) (up_missed loop_lists.read (to_loop r) s))

  pub loop_open : {e : Cursor} {w u : List ℕ} → Stored loop_lists.read keep_loop_lists d e w u → Missed control.read e → Missed loop_tail c
  loop_open s q = head_open field.read (λ r t. controlled (loop_rest r t)) t (waits_open control (loop_rest r) (up_reached loop_lists.read (to_loop r) s.reached) q)

module _ {c d : Cursor} {k : Selection} (t : Reached selection_head.read c k d) where
  pub select_missed : Missed (select_rest k) d → Missed select_tail c
  select_missed s = head_open selection_head.read (λ k t. controlled (select_rest k t)) t (waits_missed control (select_rest k) s)

  pub select_open : {e : Cursor} {w u : List ℕ} → Stored (select_rest k) keep_node_lists d e w u → Missed control.read e → Missed select_tail c
  select_open s q = head_open selection_head.read (λ k t. controlled (select_rest k t)) t (waits_open control (select_rest k) s.reached q)

module _ {c d : Cursor} {w u v : List ℕ} {m : Marks} (e : m ≡ marks_of w) where
  pub region_stored : Stored region_lists.read keep_region_lists c d w u → v ≡ region_row m u → Stored region_tail keep_region c d w v
  region_stored s q = record {
    value = to_region s.value;
    reached = up_reached region_lists.read to_region s.reached;
    kept = q ∙ ap (λ (m : Marks). region_row m u) e ∙ ap (region_row (marks_of w)) s.kept ∙ sym (region_row_law w s.value);
  }

  pub block_stored : Stored (ended_by numbers_codec).read (folds keep_op_ref) c d w u → v ≡ node_row m 0 0 0 u → Stored block_tail keep_node c d w v
  block_stored s q = record {
    value = block s.value;
    reached = up_reached (ended_by numbers_codec).read block s.reached;
    kept = q ∙ ap (λ (m : Marks). node_row m 0 0 0 u) e ∙ ap (node_row (marks_of w) 0 0 0) s.kept ∙ sym (block_row w s.value);
  }

  -- the body is kept behind the values
  pub loop_stored : {b f : Cursor} {r n : ℕ} {z : List ℕ} → Reached field.read b r c → Stored loop_lists.read keep_loop_lists c d w u
      → Reached control.read d n f → z ≡ keep_child r u → v ≡ node_row m 3 0 n z → Stored loop_tail keep_node b f w v
  loop_stored {r = r} {n} {z} t s p k q = record {
    value = to_loop r s.value n;
    reached = head_reached field.read (λ r t. controlled (loop_rest r t)) t (waits_reached control (loop_rest r) (up_reached loop_lists.read (to_loop r) s.reached) p);
    kept =
        q
        ∙ ap (λ (m : Marks). node_row m 3 0 n z) e
        ∙ ap (node_row (marks_of w) 3 0 n) (k ∙ ap (keep_child r) s.kept)
        ∙ sym (loop_row w r s.value n);
  }

  pub exit_stored : {b : Cursor} {n : ℕ} → Reached inst_head.read b n c → Stored inst_values.read keep_inst_values c d w u → v ≡ node_row m 4 n 0 u → Stored exit_tail keep_node b d w v
  exit_stored {n = n} t s q = record {
    value = to_exit (n, s.value);
    reached = up_reached (seq inst_head inst_values).read to_exit (seq_reads inst_head inst_values t s.reached);
    kept = q ∙ ap (λ (m : Marks). node_row m 4 n 0 u) e ∙ ap (node_row (marks_of w) 4 n 0) s.kept ∙ sym (exit_row w n s.value);
  }

  pub select_stored : {b f : Cursor} {k : Selection} {n : ℕ} → Reached selection_head.read b k c → Stored (select_rest k) keep_node_lists c d w u
      → Reached control.read d n f → v ≡ node_row m (select_number k) (select_opcode k) n u → Stored select_tail keep_node b f w v
  select_stored {k = k} {n} t s p q =
      let r = rest_row k s p (q ∙ ap (λ (m : Marks). node_row m (select_number k) (select_opcode k) n u) e) in
      record { value = r.value; reached = head_reached selection_head.read (λ k t. controlled (select_rest k t)) t r.reached; kept = r.kept }

  pub op_stored : (a t : ℕ) (k : OpKind) → Stored (op_rest a t k) keep_op_lists c d w u → v ≡ op_row m a t k u → Stored (op_rest a t k) keep_op c d w v
  op_stored a t k s q = op_row_law a t k s (q ∙ ap (λ (m : Marks). op_row m a t k u) e)

-- lists that are read as a part of what a line is read as, and kept alike
pub up_lists : {A B : Type 0} (read : List ℕ → Reading A) (f : A → B) (k : A → List ℕ → List ℕ) (l : B → List ℕ → List ℕ) (c : Cursor) (found : code.Option Cursor) (w v : List ℕ)
    → ((a : A) → l (f a) w ≡ k a w) → Stores read k c found w v → Stores (λ t. then (read t) (up f)) l c found w v
up_lists read f k l c code.None w v e s = up_missed read f s
up_lists read f k l c (code.Some d) w v e s = record { value = f s.value; reached = up_reached read f s.reached; kept = s.kept ∙ sym (e s.value) }

-- what follows the kind of a select
module _ {k : Selection} (c : Cursor) where
  pub bool_lists : (found : code.Option Cursor) (w v : List ℕ) → k ≡ sel.Bool → Stores select_lists.read keep_select_lists c found w v → Stores (select_rest k) keep_node_lists c found w v
  bool_lists found w v e s = as_told select_rest keep_node_lists c found w v e (up_lists select_lists.read (to_select bool_cond) keep_select_lists keep_node_lists c found w v (select_bool w) s)

  module _ {n : ℕ} (e : k ≡ sel.Inst n) where
    pub inst_missed : Missed imms_codec.read c → Missed (select_rest k) c
    inst_missed s = subst⁻¹ (λ (z : Selection). Missed (select_rest z) c) e (up_missed (seq imms_codec select_lists).read (to_select_inst n) (seq_misses imms_codec select_lists s))

    abbrev keep_both : List Imm × (Value × (List ℕ × List Decl)) → List ℕ → List ℕ
    keep_both x w = keep_select_lists x.1 (folds keep_imm x.0 w)

    both : {d : Cursor} (found : code.Option Cursor) {w u : List ℕ} (v : List ℕ) → Stored imms_codec.read (folds keep_imm) c d w u → Stores select_lists.read keep_select_lists d found u v
        → Stores (seq imms_codec select_lists).read keep_both c found w v
    both code.None v s r = seq_open imms_codec select_lists s.reached r
    both (code.Some f) v s r = stored_both imms_codec select_lists keep_select_lists s r

    pub inst_lists : {d : Cursor} (found : code.Option Cursor) {w u : List ℕ} (v : List ℕ) → Stored imms_codec.read (folds keep_imm) c d w u
        → Stores select_lists.read keep_select_lists d found u v → Stores (select_rest k) keep_node_lists c found w v
    inst_lists found {w} v s r =
        as_told select_rest keep_node_lists c found w v e
        (up_lists (seq imms_codec select_lists).read (to_select_inst n) keep_both keep_node_lists c found w v (λ x. select_inst w n x.0 x.1) (both found v s r))

pub row_by_kind : (m : Marks) (c : ℕ) (u : List ℕ) {k j : Selection} {v : List ℕ} → k ≡ j → v ≡ node_row m (select_number j) (select_opcode j) c u → v ≡ node_row m (select_number k) (select_opcode k) c u
row_by_kind m c u {v = v} e q = subst⁻¹ (λ (j : Selection). v ≡ node_row m (select_number j) (select_opcode j) c u) e q

-- what follows the kind of an op
module _ (a t : ℕ) {k : OpKind} (c : Cursor) (found : code.Option Cursor) (w v : List ℕ) where
  pub inst_op : {n : ℕ} → k ≡ op.Inst n → Stores inst_values.read keep_inst_values c found w v → Stores (op_rest a t k) keep_op_lists c found w v
  inst_op {n} e s = as_told (op_rest a t) keep_op_lists c found w v e (up_lists inst_values.read (to_op_inst a t n) keep_inst_values keep_op_lists c found w v (op_inst_law w a t n) s)

  pub call_op : {n : ℕ} → k ≡ op.Call n → Stores (ended_by values_codec).read (folds keep_value) c found w v → Stores (op_rest a t k) keep_op_lists c found w v
  unfolding folds
  call_op {n} e s = as_told (op_rest a t) keep_op_lists c found w v e (up_lists (ended_by values_codec).read (op_of_tail a t (call n)) (folds keep_value) keep_op_lists c found w v (λ x. refl) s)

  pub ext_op : {i n : ℕ} → k ≡ op.Ext i n → Stores (ended_by values_codec).read (folds keep_value) c found w v → Stores (op_rest a t k) keep_op_lists c found w v
  unfolding folds
  ext_op {i} {n} e s = as_told (op_rest a t) keep_op_lists c found w v e (up_lists (ended_by values_codec).read (op_of_tail a t (ext i n)) (folds keep_value) keep_op_lists c found w v (λ x. refl) s)
