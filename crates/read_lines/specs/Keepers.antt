-- What each part of a line stores, and a line's row behind its lists, by the heads that the code goes by. Assumes nothing.
--     keep_region_lists, keep_inst_values, ..     the lists of a line, in the order in which the text has them
--     region_row_law, block_row, ..               what a line stores is its lists and then its row
use Rattle.std.specs.Prelude.{◌≡◌, refl, List, ℕ}
use Rattle.std.proofs.Common.{ap, sym, ◌∙◌, append-nil}
use Rattle.lifting.specs.Ast
use Rattle.lifting.specs.Ast.{Value, Imm, Decl, Node, block, call, ext, bool_cond}
use Rattle.lifting.specs.Digits.{Reading}
use Rattle.lifting.specs.Codec.{then, up, seq}
use Rattle.lifting.specs.Grammar.{imms_codec, values_codec}
use Rattle.lifting.specs.Parts.{children_of, outs_of, node_values, node_insts, op_insts, block_ops}
use Rattle.read_cursor.specs.Answers.{Reached}
use Rattle.read_cursor.specs.declared.Cursor.{Cursor}
use Rattle.read_insts.specs.declared.Selection.{Selection}
use Rattle.read_insts.specs.declared.Selection.TheVariants as sel
use Rattle.func.specs.declared.OpKind.{OpKind}
use Rattle.func.specs.declared.OpKind.TheVariants as op
use Rattle.func.specs.Store.{folds}
use Rattle.func.specs.Keep.{inst_imms, keep_head, keep_decl, keep_value, keep_imm, keep_node_ref, keep_op_ref, keep_child, keep_region, keep_node, keep_op}
use Rattle.func.specs.Rows.{marks_of, region_row, node_row, op_row, keep_region_is, keep_node_is, keep_op_is}
use Rattle.read_lines.specs.Stores.{Stored, up_back, up_reached, waits_row}
use Rattle.read_lines.specs.Tails.{to_region, control, controlled, to_loop, to_exit, ended_by, inst_values, select_lists, to_select, to_select_inst, select_rest, op_of_tail, to_op_inst, op_rest}

abbrev pub keep_func_line : ℕ × (ℕ × (ℕ × ℕ)) → List ℕ → List ℕ
keep_func_line x w = keep_head x.0 x.1.0 x.1.1.0 x.1.1.1 w

abbrev pub keep_region_rest : List ℕ × List Value → List ℕ → List ℕ
keep_region_rest x w = folds keep_value x.1 (folds keep_node_ref x.0 w)

abbrev pub keep_region_lists : List Decl × (List ℕ × List Value) → List ℕ → List ℕ
keep_region_lists x w = keep_region_rest x.1 (folds keep_decl x.0 w)

abbrev pub keep_inst_values : List Imm × List Value → List ℕ → List ℕ
keep_inst_values x w = folds keep_value x.1 (folds keep_imm x.0 w)

abbrev pub keep_loop_lists : Value × List Value → List ℕ → List ℕ
keep_loop_lists x w = folds keep_value x.1 (keep_value x.0 w)

abbrev pub keep_select_rest : List ℕ × List Decl → List ℕ → List ℕ
keep_select_rest x w = folds keep_decl x.1 (folds keep_child x.0 w)

abbrev pub keep_select_lists : Value × (List ℕ × List Decl) → List ℕ → List ℕ
keep_select_lists x w = keep_select_rest x.1 (keep_value x.0 w)

-- the lists of any node, and of any op; which control number a node waits for makes no difference to its lists
abbrev pub keep_node_lists : (ℕ → Node) → List ℕ → List ℕ
keep_node_lists g w =
    let n = g 0 in
    folds keep_decl (outs_of n) (folds keep_child (children_of n) (folds keep_op_ref (block_ops n) (folds keep_value (node_values n) (folds keep_imm (inst_imms (node_insts n)) w))))

abbrev pub keep_op_lists : Ast.Op → List ℕ → List ℕ
keep_op_lists o w = folds keep_value o.operands (folds keep_imm (inst_imms (op_insts o.kind)) w)

-- the rows
pub region_row_law : (w : List ℕ) (x : List Decl × (List ℕ × List Value)) → keep_region (to_region x) w ≡ region_row (marks_of w) (keep_region_lists x w)
region_row_law w x = keep_region_is (to_region x) w

pub block_row : (w is : List ℕ) → keep_node (block is) w ≡ node_row (marks_of w) 0 0 0 (folds keep_op_ref is w)
unfolding folds
block_row w is = keep_node_is (block is) w

pub loop_row : (w : List ℕ) (r : ℕ) (x : Value × List Value) (u : ℕ) → keep_node (to_loop r x u) w ≡ node_row (marks_of w) 3 0 u (keep_child r (keep_loop_lists x w))
unfolding folds
loop_row w r x u = keep_node_is (to_loop r x u) w

pub exit_row : (w : List ℕ) (n : ℕ) (x : List Imm × List Value) → keep_node (to_exit (n, x)) w ≡ node_row (marks_of w) 4 n 0 (keep_inst_values x w)
unfolding folds
exit_row w n x =
    keep_node_is (to_exit (n, x)) w ∙ ap (λ (is : List Imm). node_row (marks_of w) 4 n 0 (folds keep_value x.1 (folds keep_imm is w))) (append-nil x.0)

-- the row of a select goes by its kind
abbrev pub select_number : Selection → ℕ
select_number sel.Bool = 1
select_number (sel.Inst n) = 2

abbrev pub select_opcode : Selection → ℕ
select_opcode sel.Bool = 0
select_opcode (sel.Inst n) = n

pub select_bool : (w : List ℕ) (x : Value × (List ℕ × List Decl)) → keep_node_lists (to_select bool_cond x) w ≡ keep_select_lists x w
unfolding folds
select_bool w x = refl

pub select_inst : (w : List ℕ) (n : ℕ) (is : List Imm) (x : Value × (List ℕ × List Decl))
    → keep_node_lists (to_select_inst n (is, x)) w ≡ keep_select_lists x (folds keep_imm is w)
unfolding folds
select_inst w n is x = ap (λ (is : List Imm). keep_select_lists x (folds keep_imm is w)) (append-nil is)

pub rest_row : (k : Selection) {c d e : Cursor} {n : ℕ} {w u v : List ℕ} → Stored (select_rest k) keep_node_lists c d w u → Reached control.read d n e
    → v ≡ node_row (marks_of w) (select_number k) (select_opcode k) n u → Stored (λ t. controlled (select_rest k t)) keep_node c e w v
rest_row sel.Bool {n = n} {w = w} s t q = waits_row select_lists.read (to_select bool_cond) control (node_row (marks_of w) 1 0) (λ x. keep_node_is (to_select bool_cond x n) w) s t q
rest_row (sel.Inst m) {n = n} {w = w} s t q =
    waits_row (seq imms_codec select_lists).read (to_select_inst m) control (node_row (marks_of w) 2 m) (λ x. keep_node_is (to_select_inst m x n) w) s t q

-- the row of an op goes by its head
pub op_inst_law : (w : List ℕ) (a t n : ℕ) (x : List Imm × List Value) → keep_op_lists (to_op_inst a t n x) w ≡ keep_inst_values x w
op_inst_law w a t n x = ap (λ (is : List Imm). folds keep_value x.1 (folds keep_imm is w)) (append-nil x.0)

row : {A : Type 0} (a t : ℕ) (k : OpKind) (read : List ℕ → Reading A) (f : A → Ast.Op) (is : (x : A) (w : List ℕ) → keep_op (f x) w ≡ op_row (marks_of w) a t k (keep_op_lists (f x) w))
    {c d : Cursor} {w u v : List ℕ} → Stored (λ r. then (read r) (up f)) keep_op_lists c d w u → v ≡ op_row (marks_of w) a t k u → Stored (λ r. then (read r) (up f)) keep_op c d w v
row a t k read f is {w = w} s e =
    let x = up_back read f s.reached in
    record { value = f x.0; reached = up_reached read f x.2; kept = e ∙ ap (op_row (marks_of w) a t k) (s.kept ∙ ap (λ (o : Ast.Op). keep_op_lists o w) x.1) ∙ sym (is x.0 w) }

pub op_row_law : (a t : ℕ) (k : OpKind) {c d : Cursor} {w u v : List ℕ} → Stored (op_rest a t k) keep_op_lists c d w u → v ≡ op_row (marks_of w) a t k u → Stored (op_rest a t k) keep_op c d w v
op_row_law a t (op.Inst n) s e = row a t (op.Inst n) inst_values.read (to_op_inst a t n) (λ x w. keep_op_is (to_op_inst a t n x) w) s e
op_row_law a t (op.Call n) s e = row a t (op.Call n) (ended_by values_codec).read (op_of_tail a t (call n)) (λ x w. keep_op_is (op_of_tail a t (call n) x) w) s e
op_row_law a t (op.Ext m n) s e = row a t (op.Ext m n) (ended_by values_codec).read (op_of_tail a t (ext m n)) (λ x w. keep_op_is (op_of_tail a t (ext m n) x) w) s e
