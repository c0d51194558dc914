-- How each line goes on behind its head, as the code reads it: one thing after the other, and the end of the line last. Assumes nothing.
--     const_tail, region_tail, ..         what follows the head
--     const_begins, region_begins, ..   the grammar's line is its head and what follows
use Rattle.std.specs.Prelude.{◌≡◌, refl, List, [], ◌∷◌, ◌++◌, Bool, true, false, ℕ, eqb}
use Rattle.std.proofs.Common.{sym, ◌∙◌}
use Rattle.std.proofs.Math.Option.{Option, none, some}
use Prim.Native.String.{String}
use Rattle.lifting.specs.Bytes.{bytes}
use Rattle.lifting.specs.Digits.{Reading}
use Rattle.lifting.specs.Codec.{Codec, Led, then, then_then, both_of, second, up, strip, lit, seq, view_as, same}
use Rattle.lifting.specs.Ast
use Rattle.lifting.specs.Ast.{Value, Imm, DataInstKind, SelectionKind, inst, call, ext, bool_cond, spv_inst, Decl, Node, block, select, loop, exit, Region, Const}
use Rattle.lifting.specs.Grammar.{before, after_word, sub, closed, line, field, two, numbers_codec, decl_codec, decls_codec, value_codec, values_codec, imms_codec, func_line, const_line, param_line, region_line, op_line}
use Rattle.read_cursor.specs.Begins.{go_on, Begins, then_nothing}
use Rattle.read_insts.specs.Heads as heads
use Rattle.read_insts.specs.Heads.{inst_head, op_head, op_begins, selection_head}
use Rattle.read_lines.specs.Stores.{waits}
use Rattle.func.specs.declared.OpKind.{OpKind}
use Rattle.func.specs.declared.OpKind.TheVariants as op
use Rattle.read_insts.specs.declared.Op.{Op}
use Rattle.read_insts.specs.declared.Selection.{Selection}
use Rattle.read_insts.specs.declared.Selection.TheVariants as sel

-- `)` and the end of the line, as one word
strip_end : (t : List ℕ) → strip (bytes ")\n") t ≡ then (strip (bytes ")") t) (strip (bytes "\n"))
unfolding strip
strip_end [] = refl
strip_end (b ∷ t) = by_byte (eqb 41 b)
  where
    by_byte : (q : Bool) → ◌≡◌ {A = Option (List ℕ)} (elim q as (λ x. Option (List ℕ)) [ true ↦ strip (bytes "\n") t | false ↦ none ])
        (then (elim q as (λ x. Option (List ℕ)) [ true ↦ some t | false ↦ none ]) (strip (bytes "\n")))
    by_byte true = refl
    by_byte false = refl

-- what ends a line: its bracket and byte 10, or byte 10 alone behind a bracket of the form itself
unfoldable pub last_form : {A : Type 0} → Codec A → Codec A
last_form C = after_word C (bytes ")\n") refl

unfoldable pub ended_by : {A : Type 0} → Codec A → Codec A
ended_by C = after_word C (bytes "\n") refl

-- formats that read alike: with two literals after, or one; with the literal after both, or after the second
pub last_alike : {A : Type 0} (C : Codec A) (t : List ℕ) → (ended_by (closed C)).read t ≡ (last_form C).read t
unfolding ended_by last_form closed after_word lit seq same view_as
last_alike C t = simp (strip_end, then_then)

after_seq : {A B : Type 0} (C : Codec A) (D : Codec B) (s : List ℕ) (h : Led s) (t : List ℕ) → (after_word (seq C D) s h).read t ≡ (seq C (after_word D s h)).read t
unfolding after_word lit seq same view_as
after_seq {A} {B} C D s h t = go (C.read t)
  where
    by_strip : (x : A × B) (o : Option (List ℕ)) → ◌≡◌ {A = Reading (A × B)} (then (then (then {B = Unit {0} × List ℕ} o (λ r. some (tt, r))) (both_of x)) (up (λ x. x.0)))
        (then (then (then (then {B = Unit {0} × List ℕ} o (λ r. some (tt, r))) (both_of x.1)) (up (λ x. x.0))) (both_of x.0))
    by_strip x none = refl
    by_strip x (some r) = refl

    by_second : (a : A) (o : Reading B) → ◌≡◌ {A = Reading (A × B)} (then (then (then o (both_of a)) (second (seq C D) (lit s h))) (up (λ x. x.0)))
        (then (then (then o (second D (lit s h))) (up (λ x. x.0))) (both_of a))
    by_second a none = refl
    by_second a (some y) = by_strip (a, y.0) (strip s y.1)

    go : (o : Reading A) → then (then (then o (second C D)) (second (seq C D) (lit s h))) (up (λ x. x.0)) ≡ then o (second C (after_word D s h))
    go none = refl
    go (some a) = by_second a.0 (D.read a.1)

pub last_seq : {A B : Type 0} (C : Codec A) (D : Codec B) (t : List ℕ) → (last_form (seq C D)).read t ≡ (seq C (last_form D)).read t
unfolding last_form
last_seq C D t = after_seq C D (bytes ")\n") refl t

pub ended_seq : {A B : Type 0} (C : Codec A) (D : Codec B) (t : List ℕ) → (ended_by (seq C D)).read t ≡ (seq C (ended_by D)).read t
unfolding ended_by
ended_seq C D t = after_seq C D (bytes "\n") refl t

pub second_alike : {A B : Type 0} (C : Codec A) (D E : Codec B) → ((t : List ℕ) → D.read t ≡ E.read t) → (t : List ℕ) → (seq C D).read t ≡ (seq C E).read t
unfolding seq
second_alike {A} C D E e t = go (C.read t)
  where
    go : (o : Reading A) → then o (second C D) ≡ then o (second C E)
    go none = refl
    go (some a) = rw (e a.1)

-- a line begins with its opening word
pub begins_line : {A : Type 0} (s : String) (C : Codec A) → Begins (line s C) (lit (bytes "(" ++ bytes s) refl) (λ u. (ended_by C).read)
unfolding line ended_by before lit seq same view_as
begins_line s C = record { is = λ t. simp (then_then, then_nothing) }

module _ {A X : Type 0} {C : Codec A} {H : Codec X} {k : X → List ℕ → Reading A} (b : Begins C H k) where
  pub begins_up : {B : Type 0} (f : A → B) (g : B → A) (fg : (b : B) → f (g b) ≡ b) (gf : (a : A) → g (f a) ≡ a) → Begins (same C f g fg gf) H (λ x t. then (k x t) (up f))
  unfolding same view_as
  begins_up f g fg gf = record { is = λ t. simp (then_then, b.is) }

  pub begins_alike : {l : X → List ℕ → Reading A} → ((x : X) (t : List ℕ) → k x t ≡ l x t) → Begins C H l
  begins_alike e = record { is = λ t. simp (b.is, e) }

-- `(const ID OP)`
abbrev pub const_tail : List ℕ → Reading Const
const_tail t = then ((ended_by two).read t) (up (λ x. record { id = x.0; opcode = x.1 }))

pub const_begins : Begins const_line (lit (bytes "(const") refl) (λ u. const_tail)
unfolding const_line
const_begins = begins_up (begins_line "const" two) _ _ _ _

-- `(param A T)`
abbrev pub param_tail : List ℕ → Reading Decl
param_tail t = then ((ended_by two).read t) (up (λ x. record { attrs = x.0; type = x.1 }))

pub param_begins : Begins param_line (lit (bytes "(param") refl) (λ u. param_tail)
unfolding param_line decl_codec
param_begins = begins_up (begins_line "param" two) _ _ _ _

-- `(region (in (A T)..) (nodes N..) (out V..))`
unfoldable pub region_forms : Codec (List ℕ × List Value)
region_forms = seq (sub "nodes" numbers_codec) (last_form (sub "out" values_codec))

unfoldable pub region_lists : Codec (List Decl × (List ℕ × List Value))
region_lists = seq decls_codec region_forms

abbrev pub to_region : List Decl × (List ℕ × List Value) → Region
to_region x = record { ins = x.0; nodes = x.1.0; outs = x.1.1 }

abbrev pub region_tail : List ℕ → Reading Region
region_tail t = then (region_lists.read t) (up to_region)

region_lists_law : (t : List ℕ) → (ended_by (closed (seq decls_codec (seq (sub "nodes" numbers_codec) (sub "out" values_codec))))).read t ≡ region_lists.read t
unfolding region_lists region_forms
region_lists_law t =
    last_alike (seq decls_codec (seq (sub "nodes" numbers_codec) (sub "out" values_codec))) t
    ∙ last_seq decls_codec (seq (sub "nodes" numbers_codec) (sub "out" values_codec)) t
    ∙ second_alike decls_codec _ _ (last_seq (sub "nodes" numbers_codec) (sub "out" values_codec)) t

pub region_begins : Begins region_line (lit (bytes "(region (in") refl) (λ u. region_tail)
unfolding region_line
region_begins =
    begins_up (begins_alike (begins_line "region (in" (closed (seq decls_codec (seq (sub "nodes" numbers_codec) (sub "out" values_codec))))) (λ u. region_lists_law)) _ _ _ _

-- `(func A R F C)`
unfoldable pub func_tail : Codec (ℕ × (ℕ × (ℕ × ℕ)))
func_tail = seq field (seq field (ended_by two))

func_fields : (t : List ℕ) → (ended_by (closed (seq field (seq field (seq field field))))).read t ≡ func_tail.read t
unfolding func_tail
func_fields t =
    last_alike (seq field (seq field (seq field field))) t
    ∙ last_seq field (seq field (seq field field)) t
    ∙ second_alike field _ _ (λ t. last_seq field (seq field field) t ∙ second_alike field _ _ (λ t. sym (two_alike t)) t) t
  where
    two_alike : (t : List ℕ) → (ended_by two).read t ≡ (last_form (seq field field)).read t
    two_alike t = unfold two in last_alike (seq field field) t

pub func_begins : Begins func_line (lit (bytes "(func") refl) (λ u. func_tail.read)
unfolding func_line
func_begins = begins_alike (begins_line "func" (closed (seq field (seq field (seq field field))))) (λ u. func_fields)

-- `(block I..)`
abbrev pub block_tail : List ℕ → Reading Node
block_tail t = then ((ended_by numbers_codec).read t) (up block)

-- ` U)`, which ends the line of a select and of a loop; a node that waits for it, and then the node
unfoldable pub control : Codec ℕ
control = last_form field

abbrev pub controlled : Reading (ℕ → Node) → Reading Node
controlled = waits control

-- `(loop R V (init V..) U)`
unfoldable pub loop_lists : Codec (Value × List Value)
loop_lists = seq value_codec (sub "init" values_codec)

abbrev pub to_loop : ℕ → Value × List Value → ℕ → Node
to_loop r x = loop r x.0 x.1

abbrev pub loop_rest : ℕ → List ℕ → Reading (ℕ → Node)
loop_rest r t = then (loop_lists.read t) (up (to_loop r))

abbrev pub loop_tail : List ℕ → Reading Node
loop_tail t = go_on (field.read t) (λ r t. controlled (loop_rest r t))

-- `(exit INST V..)`: the opcode, the immediates, the values
unfoldable pub inst_values : Codec (List Imm × List Value)
inst_values = seq imms_codec (ended_by values_codec)

abbrev pub to_exit : ℕ × (List Imm × List Value) → Node
to_exit x = exit (record { opcode = x.0; imms = x.1.0 }) x.1.1

abbrev pub exit_tail : List ℕ → Reading Node
exit_tail t = then ((seq inst_head inst_values).read t) (up to_exit)

-- `(select K V (cases R..) (outs (A T)..) U)`: the immediates, if K has any, then the rest
unfoldable pub select_forms : Codec (List ℕ × List Decl)
select_forms = seq (sub "cases" numbers_codec) (sub "outs" decls_codec)

unfoldable pub select_lists : Codec (Value × (List ℕ × List Decl))
select_lists = seq value_codec select_forms

abbrev pub to_select : SelectionKind → Value × (List ℕ × List Decl) → ℕ → Node
to_select k x = select k x.0 x.1.0 x.1.1

abbrev pub to_select_inst : ℕ → List Imm × (Value × (List ℕ × List Decl)) → ℕ → Node
to_select_inst n x = to_select (spv_inst (record { opcode = n; imms = x.0 })) x.1

abbrev pub select_rest : Selection → List ℕ → Reading (ℕ → Node)
select_rest sel.Bool t = then (select_lists.read t) (up (to_select bool_cond))
select_rest (sel.Inst n) t = then ((seq imms_codec select_lists).read t) (up (to_select_inst n))

abbrev pub select_tail : List ℕ → Reading Node
select_tail t = go_on (selection_head.read t) (λ k t. controlled (select_rest k t))

-- `(op A T X V..)`: the immediates, if X has any, then the operands
abbrev pub op_of_tail : ℕ → ℕ → DataInstKind → List Value → Ast.Op
op_of_tail a t k vs = record { attrs = a; type = t; kind = k; operands = vs }

abbrev pub to_op_inst : ℕ → ℕ → ℕ → List Imm × List Value → Ast.Op
to_op_inst a t n x = op_of_tail a t (inst (record { opcode = n; imms = x.0 })) x.1

abbrev pub op_rest : ℕ → ℕ → OpKind → List ℕ → Reading Ast.Op
op_rest a t (op.Inst n) u = then (inst_values.read u) (up (to_op_inst a t n))
op_rest a t (op.Call f) u = then ((ended_by values_codec).read u) (up (op_of_tail a t (call f)))
op_rest a t (op.Ext s n) u = then ((ended_by values_codec).read u) (up (op_of_tail a t (ext s n)))

abbrev pub op_tail : Op → List ℕ → Reading Ast.Op
op_tail o = op_rest o.attrs o.ty o.kind

pub op_line_begins : Begins op_line op_head op_tail
op_line_begins = begins_alike op_begins (λ o t. go o.attrs o.ty o.kind t)
  where
    go : (a y : ℕ) (k : OpKind) (t : List ℕ) → heads.op_rest (record { attrs = a; ty = y; kind = k }) t ≡ op_rest a y k t
    go a y (op.Inst n) t = unfold inst_values ended_by after_word lit seq same view_as in simp then_then
    go a y (op.Call f) t = unfold ended_by after_word lit seq same view_as in simp then_then
    go a y (op.Ext s n) t = unfold ended_by after_word lit seq same view_as in simp then_then
