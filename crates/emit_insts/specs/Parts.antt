-- An instruction as the emitter writes it: what stands before its ids, then the ids, run by run. Assumes nothing.
--     up_to_gather, loop_gather     a loop over a list appends what each element gives
--     op_is, term_is, label_is, merge_none, merge_one, merge_two, phi_is     each instruction by its runs
use Rattle.std.specs.Prelude.{◌≡◌, ℕ, zero, suc, ◌+◌, ◌≤◌, get_or}
use Rattle.std.proofs.Math.Path.{refl, sym, ap, ap₂}
use Rattle.std.proofs.Common.{◌∙◌, arith, length-append}
use mathlib.Core.List.{List, [], ◌∷◌, ◌++◌, map, append_assoc, append-nil}
use Rattle.std.proofs.Math.ListN.{length}
use Rattle.std.proofs.lemmas.List.{length-map}
use Rattle.general_laws.specs.Gather.{map_append}
use Rattle.opcodes.specs.Table.{opcode_of}
use Rattle.opcodes.specs.declared.InstKind.TheVariants.{Label, LoopMerge, Phi, SelectionMerge}
use Rattle.general_laws.specs.Lists.{gather}
use Rattle.lifting.specs.Ast.{Decl, Func, Imm, Value}
use Rattle.lifting.specs.Parts.{callee_ids, op_of}
use Rattle.lifting.specs.Points.{CfgPoint, Merge, Table, Terminator, loop_merge, no_merge, region_entry, selection_merge}
use Rattle.lifting.specs.Walk.{walk_of}
use Rattle.lifting.specs.Absorb.{kept, merge_labels}
use Rattle.lifting.specs.Ids.{id_of, label_of}
use Rattle.lifting.specs.Instructions.{Instruction, bare, label_inst, loop_control, merge_insts, op_imms, op_inst, op_opcode, pairs, phi_inst, result_id, selection_control, short, term_imms, term_inst, term_opcode}
use Rattle.lifting.specs.Words.{imms_words}
use Rattle.lifting_blocks.specs.Flat.{up_to}
use Rattle.terminators.specs.Kinds.{merge_control}
use Rattle.emit_words.specs.declared.Writer.{Writer}
use Rattle.emit_words.specs.Put.{Item, id, word}
use Rattle.emit_words.specs.Writes.{Loop, Writes, loop_end, writes_same}
use Rattle.emit_words.specs.Items.{head_items, inst_items, list_items}

-- ---- a list, element by element

pub up_to_front : {A : Type 0} (f : ℕ → List A) (n : ℕ) → up_to f (suc n) ≡ f 0 ++ up_to (λ k. f (suc k)) n
unfolding up_to
up_to_front f zero = sym (append-nil (f 0))
up_to_front f (suc n) = ap (λ l. l ++ f (suc n)) (up_to_front f n) ∙ append_assoc (f 0) (up_to (λ k. f (suc k)) n) (f (suc n))

pub up_to_gather : {A B : Type 0} (f : A → List B) (l : List A) (d : A) → up_to (λ k. f (get_or l k d)) (length l) ≡ gather f l
unfolding up_to
up_to_gather f [] d = refl
up_to_gather f (x ∷ l) d = up_to_front (λ k. f (get_or (x ∷ l) k d)) (length l) ∙ ap (λ t. f x ++ t) (up_to_gather f l d)

-- what a loop over a list has appended at its end
pub loop_gather : {A : Type 0} (f : A → List Item) (l : List A) (d : A) {a b : Writer} {k : ℕ}
    → Loop (λ j. f (get_or l j d)) (length l) a k b → length l ≤ k → Writes a (gather f l) b
loop_gather f l d p h = writes_same (loop_end p h) (up_to_gather f l d)

-- ---- what stands before the ids

abbrev pub imm_items : Imm → List Item
imm_items m = word m.kind ∷ word m.operand ∷ word m.word ∷ []

-- the head, the immediates, and the count of ids
unfoldable pub front_items : ℕ → ℕ → ℕ → ℕ → List Imm → ℕ → List Item
front_items o a t r l n = head_items o a t r (length l) ++ (gather imm_items l ++ (word n ∷ []))

pub front_same : {o p a b t u r s : ℕ} {k l : List Imm} (n : ℕ) → o ≡ p → a ≡ b → t ≡ u → r ≡ s → k ≡ l → front_items o a t r k n ≡ front_items p b u s l n
front_same n eo ea et er el = cc

-- one id for each element
abbrev pub id_each : {A : Type 0} → (A → ℕ) → List A → List Item
id_each f l = gather (λ x. id (f x) ∷ []) l

imms_each : (l : List Imm) → map word (imms_words l) ≡ gather imm_items l
imms_each [] = refl
imms_each (m ∷ l) = ap (λ (t : List Item). word m.kind ∷ word m.operand ∷ word m.word ∷ t) (imms_each l)

pub ids_each : {A : Type 0} (f : A → ℕ) (l : List A) → map id (map f l) ≡ id_each f l
ids_each f [] = refl
ids_each f (x ∷ l) = ap (λ (t : List Item). id (f x) ∷ t) (ids_each f l)

pub inst_front : (i : Instruction) → inst_items i ≡ front_items i.opcode i.attrs i.type i.result i.imms (length i.ids) ++ map id i.ids
unfolding inst_items front_items
inst_front i =
    let h : List Item = head_items i.opcode i.attrs i.type i.result (length i.imms) in
    let w : List Item = word (length i.ids) ∷ [] in
    ap (λ (t : List Item). h ++ (t ++ (w ++ map id i.ids))) (imms_each i.imms)
    ∙ ap (λ (t : List Item). h ++ t) (sym (append_assoc (gather imm_items i.imms) w (map id i.ids)))
    ∙ sym (append_assoc h (gather imm_items i.imms ++ w) (map id i.ids))

-- the ids in two runs
two_runs : {A B : Type 0} (o a t r : ℕ) (l : List Imm) (f : A → ℕ) (g : B → ℕ) (xs : List A) (ys : List B)
    → inst_items (record { opcode = o; attrs = a; type = t; result = r; imms = l; ids = map f xs ++ map g ys })
    ≡ front_items o a t r l (length xs + length ys) ++ (id_each f xs ++ id_each g ys)
two_runs o a t r l f g xs ys =
    inst_front (record { opcode = o; attrs = a; type = t; result = r; imms = l; ids = map f xs ++ map g ys })
    ∙ ap₂ (λ (n : ℕ) (z : List Item). front_items o a t r l n ++ z)
    (length-append (map f xs) (map g ys) ∙ ap₂ (λ (x y : ℕ). x + y) (length-map xs f) (length-map ys g))
    (map_append id (map f xs) (map g ys) ∙ ap₂ (λ (x y : List Item). x ++ y) (ids_each f xs) (ids_each g ys))

map_same : (l : List ℕ) → map (λ x. x) l ≡ l
map_same [] = refl
map_same (x ∷ l) = ap (λ (t : List ℕ). x ∷ t) (map_same l)

module _ (F : Func) (first : ℕ) (T K : Table) where
  abbrev pub value_items : List Value → List Item
  value_items vs = id_each (id_of F first T K) vs

  abbrev pub label_items : List CfgPoint → List Item
  label_items ps = id_each (label_of F first T K) ps

  -- an op: the callee's id, if any, and the operands
  abbrev pub op_front : ℕ → ℕ → List Item
  op_front i n =
      front_items (op_opcode (op_of F i).kind) (op_of F i).attrs (op_of F i).type (result_id F first T K (op_of F i).type i) (op_imms (op_of F i).kind) n

  pub op_is : (i n : ℕ) (l : List ℕ) → n ≡ length l + length (op_of F i).operands → l ≡ callee_ids (op_of F i).kind
      → op_front i n ++ (id_each (λ x. x) l ++ value_items (op_of F i).operands) ≡ inst_items (op_inst F first T K i)
  unfolding op_inst
  op_is i n l e z =
      ap₂ (λ (k : ℕ) (is : List ℕ). op_front i k ++ (id_each (λ x. x) is ++ value_items (op_of F i).operands))
      (e ∙ ap (λ (is : List ℕ). length is + length (op_of F i).operands) z) z
      ∙ sym (two_runs _ _ _ _ _ (λ x. x) (id_of F first T K) (callee_ids (op_of F i).kind) (op_of F i).operands)
      ∙ ap (λ (is : List ℕ). inst_items (record {
        opcode = op_opcode (op_of F i).kind;
        attrs = (op_of F i).attrs;
        type = (op_of F i).type;
        result = result_id F first T K (op_of F i).type i;
        imms = op_imms (op_of F i).kind;
        ids = is ++ map (id_of F first T K) (op_of F i).operands;
      })) (map_same (callee_ids (op_of F i).kind))

  -- a way out: its inputs and its targets
  pub term_is : (t : Terminator) (o a n : ℕ) (is : List Imm) (vs : List Value) → o ≡ term_opcode t.kind t.ins → a ≡ t.attrs → is ≡ term_imms t.kind → vs ≡ t.ins
      → n ≡ length vs + length t.targets → front_items o a 0 0 is n ++ (value_items vs ++ label_items t.targets) ≡ inst_items (term_inst F first T K t)
  unfolding term_inst
  term_is t o a n is vs eo ea ei ev en =
      ap₂ (λ (us : List Value) (k : ℕ). front_items o a 0 0 is k ++ (value_items us ++ label_items t.targets)) ev
      (en ∙ ap (λ (us : List Value). length us + length t.targets) ev)
      ∙ ap (λ (f : List Item). f ++ (value_items t.ins ++ label_items t.targets)) (front_same _ eo ea refl refl ei)
      ∙ sym (two_runs _ _ _ _ _ (id_of F first T K) (label_of F first T K) t.ins t.targets)

  pub label_is : (p : CfgPoint) → inst_items (label_inst F first T K p) ≡ front_items (opcode_of Label) 0 0 (label_of F first T K p) [] 0
  unfolding label_inst
  label_is p = inst_front (label_inst F first T K p) ∙ append-nil _

  -- no merge, that of a select, and that of a loop, by the count of labels
  pub merge_none : (g : Merge) → length (merge_labels g) ≡ 0 → [] ≡ list_items (merge_insts F first T K g)
  unfolding merge_insts list_items
  merge_none no_merge e = refl
  merge_none (selection_merge a u) e = absurd (omega arith)
  merge_none (loop_merge a b u) e = absurd (omega arith)

  pub merge_one : (g : Merge) → length (merge_labels g) ≡ 1
      → front_items (opcode_of SelectionMerge) 0 0 0 (short selection_control (merge_control g)) 1 ++ label_items (get_or (merge_labels g) 0 (region_entry 0) ∷ []) ≡ list_items (merge_insts F first T K g)
  unfolding merge_insts list_items
  merge_one no_merge e = absurd (omega arith)
  merge_one (selection_merge a u) e = sym (append-nil _ ∙ inst_front (bare (opcode_of SelectionMerge) (short selection_control u) (label_of F first T K a ∷ [])))
  merge_one (loop_merge a b u) e = absurd (omega arith)

  pub merge_two : (g : Merge) → ¬ (length (merge_labels g) ≡ 0) → ¬ (length (merge_labels g) ≡ 1)
      → front_items (opcode_of LoopMerge) 0 0 0 (short loop_control (merge_control g)) 2
      ++ (label_items (get_or (merge_labels g) 0 (region_entry 0) ∷ []) ++ label_items (get_or (merge_labels g) 1 (region_entry 0) ∷ []))
      ≡ list_items (merge_insts F first T K g)
  unfolding merge_insts list_items
  merge_two no_merge z o = absurd (z refl)
  merge_two (selection_merge a u) z o = absurd (o refl)
  merge_two (loop_merge a b u) z o = sym (append-nil _ ∙ inst_front (bare (opcode_of LoopMerge) (short loop_control u) (label_of F first T K a ∷ label_of F first T K b ∷ [])))

  pub phi_is : (q : CfgPoint) (v : Value) (d : Decl) (j : ℕ)
      → front_items (opcode_of Phi) d.attrs d.type (id_of F first T K v) [] (length (pairs F first T K K q j)) ++ map id (pairs F first T K K q j) ≡ inst_items (phi_inst F first T K q v d j)
  unfolding phi_inst
  phi_is q v d j = sym (inst_front _)

-- ---- by a function's own walk

module _ (F : Func) (first : ℕ) where
  abbrev pub items_of_values : List Value → List Item
  items_of_values vs = value_items F first (walk_of F) (kept (walk_of F)) vs

  abbrev pub items_of_labels : List CfgPoint → List Item
  items_of_labels ps = label_items F first (walk_of F) (kept (walk_of F)) ps

  abbrev pub op_in : ℕ → List Item
  op_in i = inst_items (op_inst F first (walk_of F) (kept (walk_of F)) i)

  abbrev pub merge_in : Merge → List Item
  merge_in g = list_items (merge_insts F first (walk_of F) (kept (walk_of F)) g)

  abbrev pub term_in : Terminator → List Item
  term_in t = inst_items (term_inst F first (walk_of F) (kept (walk_of F)) t)

  abbrev pub start_in : CfgPoint → List Item
  start_in p = inst_items (label_inst F first (walk_of F) (kept (walk_of F)) p)
