-- The heads of the forms that hold an INST. Each ends behind the opcode, before the immediates, so that a line's reader takes these one
-- by one, as it takes any list. Assumes nothing.
--     inst_head, op_kind_head, op_head, selection_head, control_head       the heads
--     inst_rest, op_kind_rest, op_rest, selection_rest, control_rest       what follows a head, by what the head found
--     inst_begins, op_kind_begins, op_begins, ..                      the grammar's form is the head and what follows
use Rattle.std.specs.Prelude.{◌≡◌, refl, List, ◌++◌, ◌⊎◌, ℕ}
use Rattle.std.proofs.Math.Option.{none, some}
use Rattle.std.proofs.Common.{inl, inr}
use Rattle.lifting.specs.Bytes.{bytes}
use Rattle.lifting.specs.Digits.{Reading}
use Rattle.lifting.specs.Codec.{Codec, then, then_then, strip, lit, both_of, seq, view_as, same, alt}
use Rattle.lifting.specs.Ast
use Rattle.lifting.specs.Ast.{Inst, DataInstKind, inst, call, ext, SelectionKind, bool_cond, spv_inst, ControlInstKind, unreachable, return, branch, select_branch, exit_invocation}
use Rattle.lifting.specs.Grammar.{before, after_word, keyword, sub, closed, line, field, one_codec, two, values_codec, imms_codec, inst_form, op_kind_codec, op_kind_form, sel_kind, sel_kind_form, kind, plain_form, plain_apart, op_line}
use Rattle.lifting.proofs.Codec.{Inverse, alt_inverse, same_inverse, seq_inverse}
use Rattle.lifting.proofs.Grammar.{before_inverse, field_inverse, keyword_inverse, one_codec_inverse, sub_inverse, two_inverse}
use Rattle.read_cursor.specs.Begins.{go_on, Begins, nothing, begins_self, begins_before, begins_after, begins_first, begins_second, one_rest, begins_alt}
use Rattle.func.specs.declared.OpKind.{OpKind}
use Rattle.func.specs.declared.OpKind.TheVariants as op
use Rattle.read_insts.specs.declared.Op.{Op}
use Rattle.read_insts.specs.declared.Selection.{Selection}
use Rattle.read_insts.specs.declared.Selection.TheVariants as sel
use Rattle.read_insts.specs.declared.Control.{Control}
use Rattle.read_insts.specs.declared.Control.TheVariants as ctrl

-- ` (inst OP`, and then the immediates with the closing bracket
unfoldable pub inst_head : Codec ℕ
inst_head = sub "inst" field

pub inst_head_inverse : Inverse inst_head
unfolding inst_head
inst_head_inverse = sub_inverse "inst" field_inverse

abbrev pub inst_rest : ℕ → List ℕ → Reading Inst
inst_rest n u = then (imms_codec.read u) (λ x. some (record { opcode = n; imms = x.0 }, x.1))

pub inst_begins : Begins inst_form inst_head inst_rest
unfolding inst_form inst_head sub before lit seq same view_as
inst_begins = record { is = λ t. simp then_then }

-- ` (inst OP`, ` (call ID)` or ` (ext ID N)`
abbrev to_op_kind : (ℕ ⊎ ℕ) ⊎ (ℕ × ℕ) → OpKind
to_op_kind (inl (inl n)) = op.Inst n
to_op_kind (inl (inr n)) = op.Call n
to_op_kind (inr x) = op.Ext x.0 x.1

abbrev of_op_kind : OpKind → (ℕ ⊎ ℕ) ⊎ (ℕ × ℕ)
of_op_kind (op.Inst n) = inl (inl n)
of_op_kind (op.Call n) = inl (inr n)
of_op_kind (op.Ext m n) = inr (m, n)

pub op_kind_to_of : (k : OpKind) → to_op_kind (of_op_kind k) ≡ k
op_kind_to_of (op.Inst n) = refl
op_kind_to_of (op.Call n) = refl
op_kind_to_of (op.Ext m n) = refl

pub op_kind_of_to : (x : (ℕ ⊎ ℕ) ⊎ (ℕ × ℕ)) → of_op_kind (to_op_kind x) ≡ x
op_kind_of_to (inl (inl n)) = refl
op_kind_of_to (inl (inr n)) = refl
op_kind_of_to (inr x) = refl

unfoldable pub op_kind_head_form : Codec ((ℕ ⊎ ℕ) ⊎ (ℕ × ℕ))
unfolding inst_head sub before lit seq same view_as alt strip
op_kind_head_form = alt (alt inst_head (sub "call" one_codec) (λ b r. refl)) (sub "ext" two) (λ b r. refl)

unfoldable pub op_kind_head : Codec OpKind
op_kind_head = same op_kind_head_form to_op_kind of_op_kind op_kind_to_of op_kind_of_to

pub op_kind_head_inverse : Inverse op_kind_head
unfolding op_kind_head op_kind_head_form inst_head sub before lit seq same view_as alt strip
op_kind_head_inverse =
    same_inverse (alt_inverse (alt_inverse inst_head_inverse (sub_inverse "call" one_codec_inverse) (λ b r. refl)) (sub_inverse "ext" two_inverse) (λ b r. refl))
    to_op_kind of_op_kind op_kind_to_of op_kind_of_to

abbrev pub op_kind_rest : OpKind → List ℕ → Reading DataInstKind
op_kind_rest (op.Inst n) u = then (inst_rest n u) (λ x. some (inst x.0, x.1))
op_kind_rest (op.Call n) u = some (call n, u)
op_kind_rest (op.Ext m n) u = some (ext m n, u)

op_kind_form_begins : Begins op_kind_form op_kind_head_form (one_rest (one_rest inst_rest nothing) nothing)
unfolding op_kind_form op_kind_head_form inst_head sub before lit seq same view_as alt strip
op_kind_form_begins =
    begins_alt (λ b r. refl) (λ b r. refl) (alt_inverse inst_head_inverse (sub_inverse "call" one_codec_inverse) (λ b r. refl))
    (begins_alt (λ b r. refl) (λ b r. refl) inst_head_inverse inst_begins (begins_self (sub "call" one_codec)) (λ x r. refl))
    (begins_self (sub "ext" two)) other
  where
    other : (x : ℕ ⊎ ℕ) (r : List ℕ) → (sub "ext" two).read ((alt inst_head (sub "call" one_codec) (λ b r. refl)).print x ++ r) ≡ none
    other (inl n) r = refl
    other (inr n) r = refl

pub op_kind_begins : Begins op_kind_codec op_kind_head op_kind_rest
unfolding op_kind_codec op_kind_head same view_as
op_kind_begins = record { is = λ t. go t (op_kind_head_form.read t) refl }
  where
    go : (t : List ℕ) (o : Reading ((ℕ ⊎ ℕ) ⊎ (ℕ × ℕ))) → op_kind_head_form.read t ≡ o → op_kind_codec.read t ≡ go_on (op_kind_head.read t) op_kind_rest
    go t none e = rw (op_kind_form_begins.is t, e)
    go t (some (inl (inl n), u)) e = rw (op_kind_form_begins.is t, e) (simp then_then)
    go t (some (inl (inr n), u)) e = rw (op_kind_form_begins.is t, e)
    go t (some (inr x, u)) e = rw (op_kind_form_begins.is t, e)

-- `(op A T X`, with X as far as its head goes
unfoldable pub op_head_form : Codec (ℕ × (ℕ × OpKind))
op_head_form = before (bytes "(op") refl (seq field (seq field op_kind_head))

abbrev pub to_op : ℕ × (ℕ × OpKind) → Op
to_op x = record { attrs = x.0; ty = x.1.0; kind = x.1.1 }

unfoldable pub op_head : Codec Op
op_head = same op_head_form to_op (λ o. (o.attrs, (o.ty, o.kind))) (λ o. refl) (λ x. refl)

pub op_head_inverse : Inverse op_head
unfolding op_head op_head_form
op_head_inverse =
    same_inverse (before_inverse (bytes "(op") refl (seq_inverse field_inverse (seq_inverse field_inverse op_kind_head_inverse)))
    to_op (λ o. (o.attrs, (o.ty, o.kind))) (λ o. refl) (λ x. refl)

-- the rest of X, the operands and the end of the line
abbrev pub op_rest : Op → List ℕ → Reading Ast.Op
op_rest o u =
    then (op_kind_rest o.kind u)
    (λ k. then (values_codec.read k.1)
    (λ v. then (strip (bytes "\n") v.1) (λ r. some (record { attrs = o.attrs; type = o.ty; kind = k.0; operands = v.0 }, r))))

-- the same of the fields alone
abbrev op_form_rest : ℕ × (ℕ × OpKind) → List ℕ → Reading (ℕ × (ℕ × (DataInstKind × List Ast.Value)))
op_form_rest x u =
    then (then (then (then (op_kind_rest x.1.1 u) (λ k. then (values_codec.read k.1) (both_of k.0))) (both_of x.1.0)) (both_of x.0))
    (λ y. then (strip (bytes "\n") y.1) (λ r. some (y.0, r)))

op_form_begins : Begins (line "op" (seq field (seq field (seq op_kind_codec values_codec)))) op_head_form op_form_rest
unfolding line op_head_form
op_form_begins =
    begins_before (bytes "(op") refl
    (begins_after (bytes "\n") refl (begins_second field (begins_second field (begins_first values_codec op_kind_begins))))

pub op_begins : Begins op_line op_head op_rest
unfolding op_line op_head same view_as
op_begins = record { is = λ t. go t (op_head_form.read t) refl }
  where
    go : (t : List ℕ) (o : Reading (ℕ × (ℕ × OpKind))) → op_head_form.read t ≡ o → op_line.read t ≡ go_on (op_head.read t) op_rest
    go t none e = rw (op_form_begins.is t, e)
    go t (some x) e = rw (op_form_begins.is t, e) (simp then_then)

-- K of a select: ` bool` or ` (inst OP`
abbrev to_selection : Unit {0} ⊎ ℕ → Selection
to_selection (inl _) = sel.Bool
to_selection (inr n) = sel.Inst n

abbrev of_selection : Selection → Unit {0} ⊎ ℕ
of_selection sel.Bool = inl tt
of_selection (sel.Inst n) = inr n

pub selection_to_of : (k : Selection) → to_selection (of_selection k) ≡ k
selection_to_of sel.Bool = refl
selection_to_of (sel.Inst n) = refl

pub selection_of_to : (x : Unit {0} ⊎ ℕ) → of_selection (to_selection x) ≡ x
selection_of_to (inl _) = refl
selection_of_to (inr n) = refl

unfoldable pub selection_head_form : Codec (Unit {0} ⊎ ℕ)
unfolding inst_head keyword sub before lit seq same view_as strip
selection_head_form = alt (keyword "bool") inst_head (λ b r. refl)

unfoldable pub selection_head : Codec Selection
selection_head = same selection_head_form to_selection of_selection selection_to_of selection_of_to

pub selection_head_inverse : Inverse selection_head
unfolding selection_head selection_head_form inst_head keyword sub before lit seq same view_as strip
selection_head_inverse =
    same_inverse (alt_inverse (keyword_inverse "bool") inst_head_inverse (λ b r. refl)) to_selection of_selection selection_to_of selection_of_to

abbrev pub selection_rest : Selection → List ℕ → Reading SelectionKind
selection_rest sel.Bool u = some (bool_cond, u)
selection_rest (sel.Inst n) u = then (inst_rest n u) (λ x. some (spv_inst x.0, x.1))

sel_kind_form_begins : Begins sel_kind_form selection_head_form (one_rest nothing inst_rest)
unfolding sel_kind_form selection_head_form inst_form keyword sub before lit seq same view_as strip
sel_kind_form_begins = begins_alt (λ b r. refl) (λ b r. refl) (keyword_inverse "bool") (begins_self (keyword "bool")) inst_begins (λ x r. refl)

pub selection_begins : Begins sel_kind selection_head selection_rest
unfolding sel_kind selection_head same view_as
selection_begins = record { is = λ t. go t (selection_head_form.read t) refl }
  where
    go : (t : List ℕ) (o : Reading (Unit {0} ⊎ ℕ)) → selection_head_form.read t ≡ o → sel_kind.read t ≡ go_on (selection_head.read t) selection_rest
    go t none e = rw (sel_kind_form_begins.is t, e)
    go t (some (inl _, u)) e = rw (sel_kind_form_begins.is t, e)
    go t (some (inr n, u)) e = rw (sel_kind_form_begins.is t, e) (simp then_then)

-- K of a ctrl: ` unreachable`, ` return`, ` branch`, ` (exit (inst OP`, or that of a selection
abbrev PlainHead : Type 0
PlainHead = ((Unit {0} ⊎ Unit {0}) ⊎ Unit {0}) ⊎ ℕ

abbrev to_control : PlainHead ⊎ Selection → Control
to_control (inl (inl (inl (inl _)))) = ctrl.Unreachable
to_control (inl (inl (inl (inr _)))) = ctrl.Return
to_control (inl (inl (inr _))) = ctrl.Branch
to_control (inl (inr n)) = ctrl.Exit n
to_control (inr k) = ctrl.Select k

abbrev of_control : Control → PlainHead ⊎ Selection
of_control ctrl.Unreachable = inl (inl (inl (inl tt)))
of_control ctrl.Return = inl (inl (inl (inr tt)))
of_control ctrl.Branch = inl (inl (inr tt))
of_control (ctrl.Exit n) = inl (inr n)
of_control (ctrl.Select k) = inr k

pub control_to_of : (k : Control) → to_control (of_control k) ≡ k
control_to_of ctrl.Unreachable = refl
control_to_of ctrl.Return = refl
control_to_of ctrl.Branch = refl
control_to_of (ctrl.Exit n) = refl
control_to_of (ctrl.Select k) = refl

pub control_of_to : (x : PlainHead ⊎ Selection) → of_control (to_control x) ≡ x
control_of_to (inl (inl (inl (inl _)))) = refl
control_of_to (inl (inl (inl (inr _)))) = refl
control_of_to (inl (inl (inr _))) = refl
control_of_to (inl (inr n)) = refl
control_of_to (inr k) = refl

unfoldable pub words : Codec ((Unit {0} ⊎ Unit {0}) ⊎ Unit {0})
unfolding keyword lit alt strip
words = alt (alt (keyword "unreachable") (keyword "return") (λ b r. refl)) (keyword "branch") (λ b r. refl)

pub words_inverse : Inverse words
unfolding words keyword lit alt strip
words_inverse =
    alt_inverse (alt_inverse (keyword_inverse "unreachable") (keyword_inverse "return") (λ b r. refl)) (keyword_inverse "branch") (λ b r. refl)

unfoldable pub plain_head : Codec PlainHead
unfolding words inst_head keyword sub before lit seq same view_as alt strip
plain_head = alt words (sub "exit" inst_head) (λ b r. refl)

pub plain_head_inverse : Inverse plain_head
unfolding plain_head words inst_head keyword sub before lit seq same view_as alt strip
plain_head_inverse = alt_inverse words_inverse (sub_inverse "exit" inst_head_inverse) (λ b r. refl)

pub plain_head_apart : (k : Selection) (r : List ℕ) → plain_head.read (selection_head.print k ++ r) ≡ none
unfolding plain_head words selection_head selection_head_form inst_head keyword sub before lit seq same view_as alt strip
plain_head_apart sel.Bool r = refl
plain_head_apart (sel.Inst n) r = refl

unfoldable pub control_head_form : Codec (PlainHead ⊎ Selection)
control_head_form = alt plain_head selection_head plain_head_apart

unfoldable pub control_head : Codec Control
control_head = same control_head_form to_control of_control control_to_of control_of_to

pub control_head_inverse : Inverse control_head
unfolding control_head control_head_form
control_head_inverse =
    same_inverse (alt_inverse plain_head_inverse selection_head_inverse plain_head_apart) to_control of_control control_to_of control_of_to

-- what is in the brackets of an exit, and its closing bracket
abbrev pub exit_rest : ℕ → List ℕ → Reading Inst
exit_rest n u = then (inst_rest n u) (λ x. then (strip (bytes ")") x.1) (λ r. some (x.0, r)))

abbrev pub control_rest : Control → List ℕ → Reading ControlInstKind
control_rest ctrl.Unreachable u = some (unreachable, u)
control_rest ctrl.Return u = some (return, u)
control_rest ctrl.Branch u = some (branch, u)
control_rest (ctrl.Exit n) u = then (exit_rest n u) (λ x. some (exit_invocation x.0, x.1))
control_rest (ctrl.Select k) u = then (selection_rest k u) (λ x. some (select_branch x.0, x.1))

plain_form_begins : Begins plain_form plain_head (one_rest nothing exit_rest)
unfolding plain_form plain_head words inst_form inst_head closed after_word keyword sub before lit seq same view_as alt strip
plain_form_begins =
    begins_alt (λ b r. refl) (λ b r. refl) words_inverse (begins_self words) (begins_before (bytes " (exit") refl (begins_after (bytes ")") refl inst_begins)) other
  where
    other : (x : (Unit {0} ⊎ Unit {0}) ⊎ Unit {0}) (r : List ℕ) → (sub "exit" (closed inst_form)).read (words.print x ++ r) ≡ none
    other (inl (inl _)) r = refl
    other (inl (inr _)) r = refl
    other (inr _) r = refl

kind_form_begins : Begins (alt plain_form sel_kind plain_apart) control_head_form (one_rest (one_rest nothing exit_rest) selection_rest)
unfolding control_head_form plain_head words sel_kind sel_kind_form inst_form inst_head keyword sub before lit seq same view_as alt strip
kind_form_begins = begins_alt plain_apart plain_head_apart plain_head_inverse plain_form_begins selection_begins other
  where
    other : (x : PlainHead) (r : List ℕ) → sel_kind.read (plain_head.print x ++ r) ≡ none
    other (inl (inl (inl _))) r = refl
    other (inl (inl (inr _))) r = refl
    other (inl (inr _)) r = refl
    other (inr n) r = refl

pub control_begins : Begins kind control_head control_rest
unfolding kind control_head same view_as
control_begins = record { is = λ t. go t (control_head_form.read t) refl }
  where
    go : (t : List ℕ) (o : Reading (PlainHead ⊎ Selection)) → control_head_form.read t ≡ o → kind.read t ≡ go_on (control_head.read t) control_rest
    go t none e = rw (kind_form_begins.is t, e)
    go t (some (inl (inl (inl (inl _))), u)) e = rw (kind_form_begins.is t, e)
    go t (some (inl (inl (inl (inr _))), u)) e = rw (kind_form_begins.is t, e)
    go t (some (inl (inl (inr _)), u)) e = rw (kind_form_begins.is t, e)
    go t (some (inl (inr n), u)) e = rw (kind_form_begins.is t, e) (simp then_then)
    go t (some (inr k, u)) e = rw (kind_form_begins.is t, e) (simp then_then)
