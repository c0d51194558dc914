-- The rows of lines, from the marks that were taken where a line began: what the code pushes, and what a reader's proofs cite. Assumes nothing.
--     keep_region_is, keep_node_is, keep_op_is, keep_entry_is, keep_ctrl_is     a line is its lists, one after the other, and its row
use Rattle.std.specs.Prelude.{◌≡◌, refl, List, [], ◌∷◌, map, ℕ}
use Rattle.lifting.specs.Ast.{Value, Op, Node, Region, ControlInst}
use Rattle.lifting.specs.Parts.{children_of, outs_of, node_control, node_values, node_insts, op_insts, ctrl_insts, block_ops}
use Rattle.func.specs.declared.OpKind.{OpKind}
use Rattle.func.specs.declared.Marks.{Marks}
use Rattle.func.specs.Layout.{decls, values, imms, targets, node_refs, op_refs, child_refs, entries, regions, nodes, ops, ctrls}
use Rattle.func.specs.Store.{count, push, folds}
use Rattle.func.specs.Lines.{pool_span, keep_cells, row_of, keep_row}
use Rattle.func.specs.Keep.{inst_imms, inst_opcode, node_number, ctrl_number, region_cells, node_cells, op_cells, entry_cells, ctrl_cells, keep_decl, keep_value, keep_imm, keep_target, keep_node_ref, keep_op_ref, keep_child, keep_region, keep_node, keep_op, keep_entry, ctrl_row, keep_ctrl}
use Rattle.func.specs.Kinds.{kind_of_op, op_kind_number, op_kind_first, op_kind_second, op_number_law, op_first_law, op_second_law}

-- the counts where a line begins
abbrev pub marks_of : List ℕ → Marks
marks_of w = record {
  decls = count decls w;
  values = count values w;
  imms = count imms w;
  targets = count targets w;
  nodes = count node_refs w;
  ops = count op_refs w;
  children = count child_refs w;
  entries = count entries w;
}

-- the rows
unfoldable pub region_row : Marks → List ℕ → List ℕ
region_row m v = push regions (pool_span m.decls (count decls v) ∷ pool_span m.nodes (count node_refs v) ∷ pool_span m.values (count values v) ∷ []) v

unfoldable pub node_row : Marks → ℕ → ℕ → ℕ → List ℕ → List ℕ
node_row m kind opcode control v =
    push nodes
    (kind
    ∷ opcode
    ∷ pool_span m.imms (count imms v)
    ∷ pool_span m.values (count values v)
    ∷ pool_span m.ops (count op_refs v)
    ∷ pool_span m.children (count child_refs v)
    ∷ pool_span m.decls (count decls v)
    ∷ control
    ∷ [])
    v

unfoldable pub op_row : Marks → ℕ → ℕ → OpKind → List ℕ → List ℕ
op_row m attrs type kind v =
    push ops
    (attrs ∷ type ∷ op_kind_number kind ∷ op_kind_first kind ∷ op_kind_second kind ∷ pool_span m.imms (count imms v) ∷ pool_span m.values (count values v) ∷ [])
    v

unfoldable pub entry_row : Marks → ℕ → List ℕ → List ℕ
entry_row m region v = push entries (region ∷ pool_span m.values (count values v) ∷ []) v

unfoldable pub ctrl_row_from : Marks → Marks → ℕ → ℕ → ℕ → ℕ → List ℕ → List ℕ
ctrl_row_from m n region attrs kind opcode u =
    push ctrls
    (region
    ∷ attrs
    ∷ kind
    ∷ opcode
    ∷ pool_span m.imms n.imms
    ∷ pool_span m.values n.values
    ∷ pool_span m.targets n.targets
    ∷ pool_span n.entries (count entries u)
    ∷ [])
    u

-- a list of parts, kept one after the other
folds_map : {A : Type 0} (k : ℕ) (f : A → List ℕ) (xs : List A) (w : List ℕ) → folds (push k) (map f xs) w ≡ folds (λ a. push k (f a)) xs w
unfolding folds
folds_map k f [] w = refl
folds_map k f (x ∷ xs) w = folds_map k f xs (push k (f x) w)

pub keep_region_is : (r : Region) (w : List ℕ) → keep_region r w ≡ region_row (marks_of w) (folds keep_value r.outs (folds keep_node_ref r.nodes (folds keep_decl r.ins w)))
unfolding keep_region keep_row region_cells keep_cells row_of region_row
keep_region_is r w = simp folds_map

pub keep_node_is : (n : Node) (w : List ℕ) → keep_node n w ≡ node_row (marks_of w) (node_number n) (inst_opcode (node_insts n)) (node_control n)
    (folds keep_decl (outs_of n) (folds keep_child (children_of n) (folds keep_op_ref (block_ops n) (folds keep_value (node_values n) (folds keep_imm (inst_imms (node_insts n)) w)))))
unfolding keep_node keep_row node_cells keep_cells row_of node_row
keep_node_is n w = simp folds_map

pub keep_op_is : (o : Op) (w : List ℕ) → keep_op o w ≡ op_row (marks_of w) o.attrs o.type (kind_of_op o.kind) (folds keep_value o.operands (folds keep_imm (inst_imms (op_insts o.kind)) w))
unfolding keep_op keep_row op_cells keep_cells row_of op_row
keep_op_is o w = simp (folds_map, op_number_law, op_first_law, op_second_law)

pub keep_entry_is : (e : ℕ × List Value) (w : List ℕ) → keep_entry e w ≡ entry_row (marks_of w) e.0 (folds keep_value e.1 w)
unfolding keep_entry keep_row entry_cells keep_cells row_of entry_row
keep_entry_is e w = simp folds_map

-- a ctrl line's own lists, and its row
abbrev pub keep_ctrl_lists : ControlInst → List ℕ → List ℕ
keep_ctrl_lists c w = folds keep_target c.to (folds keep_value c.ins (folds keep_imm (inst_imms (ctrl_insts c.kind)) w))

pub keep_ctrl_is : (c : ℕ × ControlInst) (w : List ℕ) → keep_ctrl c w ≡ ctrl_row_from (marks_of w) (marks_of (keep_ctrl_lists c.1 w)) c.0 c.1.attrs (ctrl_number c.1.kind) (inst_opcode (ctrl_insts c.1.kind))
    (folds keep_entry c.1.vals (keep_ctrl_lists c.1 w))
unfolding keep_ctrl ctrl_row ctrl_cells keep_cells row_of ctrl_row_from
keep_ctrl_is c w = simp folds_map
