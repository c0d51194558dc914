-- A ctrl line, as the code reads it: `(ctrl R A K` up to K's opcode, the rest of K and the line's lists, its entries. Assumes nothing.
--     ctrl_head, ctrl_tail     the head, and what follows it
--     ctrl_begins            the grammar's line is the one and then the other
--     ctrl_line_kind              so a ctrl line is told by its head
use Rattle.std.specs.Prelude.{◌≡◌, refl, List, ℕ}
use Rattle.std.proofs.Common.{◌∙◌}
use Rattle.std.proofs.Math.Option.{none, some}
use Rattle.lifting.specs.Bytes.{bytes}
use Rattle.lifting.specs.Digits.{Reading}
use Rattle.lifting.specs.Codec.{Codec, then, then_then, both_of, strip, lit, seq, view_as, same}
use Rattle.lifting.specs.Whole.{end}
use Rattle.lifting.specs.Ast.{Value, ControlInstKind, ControlInst}
use Rattle.lifting.specs.Grammar.{before, spaced, sub, closed, line, field, numbers_codec, values_codec, kind, entry_codec, entries_codec, ctrl_line, ctrl_lines}
use Rattle.lifting.proofs.Codec.{Inverse, same_inverse, seq_inverse}
use Rattle.lifting.proofs.Grammar.{before_inverse, ctrl_line_inverse, entry_codec_inverse, field_inverse}
use Rattle.read_cursor.specs.Begins.{go_on, Begins, begins_before, begins_first, begins_second}
use Rattle.read_insts.specs.Heads.{control_head, control_rest, control_begins, control_head_inverse}
use Rattle.read_insts.specs.declared.Control.{Control}
use Rattle.read_lines.specs.Stores.{Listing}
use Rattle.read_lines.specs.Elements.{list_listing}
use Rattle.read_lines.specs.Lines.{Kind, kind_of_law}
use Rattle.read_lines.specs.Tails.{last_form, ended_by, last_alike, last_seq, second_alike}
use Rattle.read_ctrls.specs.declared.CtrlHead.{CtrlHead}

pub entries_listing : Listing entry_codec (bytes ")") entries_codec
unfolding entries_codec entry_codec spaced before lit seq same view_as strip
entries_listing = list_listing entry_codec_inverse (bytes ")") refl (λ r. refl)

-- `(ctrl R A K`, with K as far as its head goes
unfoldable pub ctrl_head_form : Codec (ℕ × (ℕ × Control))
ctrl_head_form = before (bytes "(ctrl") refl (seq field (seq field control_head))

unfoldable pub ctrl_head : Codec CtrlHead
ctrl_head = same ctrl_head_form (λ x. record { region = x.0; attrs = x.1.0; kind = x.1.1 }) (λ h. (h.region, (h.attrs, h.kind))) (λ h. refl) (λ x. refl)

pub ctrl_head_inverse : Inverse ctrl_head
unfolding ctrl_head ctrl_head_form
ctrl_head_inverse =
    same_inverse (before_inverse (bytes "(ctrl") refl (seq_inverse field_inverse (seq_inverse field_inverse control_head_inverse)))
    (λ x. record { region = x.0; attrs = x.1.0; kind = x.1.1 }) (λ h. (h.region, (h.attrs, h.kind))) (λ h. refl) (λ x. refl)

-- ` (ins V..) (to R..)`
unfoldable pub ctrl_lists : Codec (List Value × List ℕ)
ctrl_lists = seq (sub "ins" values_codec) (sub "to" numbers_codec)

-- ` (vals (R V..)..)`, which ends its line
unfoldable pub edges_form : Codec (List (ℕ × List Value))
edges_form = last_form (sub "vals" entries_codec)

-- the rest of K, and the lists
abbrev pub ctrl_rest : Control → List ℕ → Reading (ControlInstKind × (List Value × List ℕ))
ctrl_rest k u = then (control_rest k u) (λ x. then (ctrl_lists.read x.1) (both_of x.0))

abbrev pub to_ctrl : CtrlHead → ControlInstKind × (List Value × List ℕ) → List (ℕ × List Value) → ℕ × ControlInst
to_ctrl h x es = (h.region, record { attrs = h.attrs; kind = x.0; ins = x.1.0; to = x.1.1; vals = es })

abbrev pub ctrl_tail : CtrlHead → List ℕ → Reading (ℕ × ControlInst)
ctrl_tail h u = then (ctrl_rest h.kind u) (λ x. then (edges_form.read x.1) (λ y. some (to_ctrl h x.0 y.0, y.1)))

-- the fields of a line
abbrev pub Forms : Type 0
Forms = List Value × (List ℕ × List (ℕ × List Value))

abbrev pub rest_forms : Codec Forms
rest_forms = seq (sub "ins" values_codec) (seq (sub "to" numbers_codec) edges_form)

fields_are : (t : List ℕ) → (ended_by (closed (seq field (seq field (seq kind (seq (sub "ins" values_codec) (seq (sub "to" numbers_codec) (sub "vals" entries_codec)))))))).read t
    ≡ (seq field (seq field (seq kind rest_forms))).read t
unfolding edges_form
fields_are t =
    let v = sub "vals" entries_codec in
    let m = seq (sub "to" numbers_codec) v in
    let n = seq (sub "ins" values_codec) m in
    last_alike (seq field (seq field (seq kind n))) t
    ∙ last_seq field (seq field (seq kind n)) t
    ∙ second_alike field _ _
    (λ t. last_seq field (seq kind n) t
    ∙ second_alike field _ _
    (λ t. last_seq kind n t
    ∙ second_alike kind _ _ (λ t. last_seq (sub "ins" values_codec) m t ∙ second_alike (sub "ins" values_codec) _ _ (last_seq (sub "to" numbers_codec) v) t) t)
    t)
    t

abbrev form_rest : ℕ × (ℕ × Control) → List ℕ → Reading (ℕ × (ℕ × (ControlInstKind × Forms)))
form_rest x u = then (then (then (control_rest x.1.1 u) (λ k. then (rest_forms.read k.1) (both_of k.0))) (both_of x.1.0)) (both_of x.0)

form_begins : Begins (line "ctrl" (closed (seq field (seq field (seq kind (seq (sub "ins" values_codec) (seq (sub "to" numbers_codec) (sub "vals" entries_codec)))))))) ctrl_head_form form_rest
unfolding line ended_by ctrl_head_form
form_begins =
    begins_before (bytes "(ctrl") refl
    (record { is = λ t. fields_are t ∙ (begins_second field (begins_second field (begins_first rest_forms control_begins))).is t })

pub ctrl_begins : Begins ctrl_line ctrl_head ctrl_tail
unfolding ctrl_line ctrl_head ctrl_lists same view_as
ctrl_begins = record { is = λ t. go t (ctrl_head_form.read t) refl }
  where
    go : (t : List ℕ) (o : Reading (ℕ × (ℕ × Control))) → ctrl_head_form.read t ≡ o → ctrl_line.read t ≡ go_on (ctrl_head.read t) ctrl_tail
    go t none e = rw (form_begins.is t, e)
    go t (some x) e = rw (form_begins.is t, e) (unfold seq in simp then_then)

pub ctrl_line_kind : Kind ctrl_lines end ctrl_head.read ctrl_tail
unfolding ctrl_lines ctrl_head ctrl_head_form before lit seq same view_as strip end
ctrl_line_kind = kind_of_law ctrl_line_inverse end (λ b r. refl) ctrl_head_inverse ctrl_begins (λ h r. refl)
