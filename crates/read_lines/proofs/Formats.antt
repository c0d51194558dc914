-- The laws of the formats that lines are read by: what each reads is what it prints, and what it prints is read. Assumes nothing.
--     last_form_inverse, region_forms_inverse, ..     of what follows a line's head
--     word_form_inverse                               of a node's opening word
--     element_of_inverse, element_list_inverse        of an element and of a list of them, by the kind of element
--     kind_lines_inverse, rest_of_inverse             of the lines of a kind and of what follows them, by the kind of line
use Rattle.std.specs.Prelude.{refl}
use Rattle.lifting.specs.Bytes.{bytes}
use Rattle.lifting.specs.Codec.{Codec, strip, lit, alt}
use Rattle.lifting.proofs.Codec.{Inverse, lit_inverse, seq_inverse, alt_inverse}
use Rattle.lifting.proofs.Grammar.{after_word_inverse, sub_inverse, field_inverse, two_inverse, numbers_codec_inverse, decl_inverse, decls_codec_inverse, value_codec_inverse, values_codec_inverse, imm_codec_inverse, imms_codec_inverse}
use Rattle.lifting.proofs.Grammar.{ctrl_lines_inverse, op_lines_inverse, node_lines_inverse, region_lines_inverse, rest_lines_inverse, param_lines_inverse, const_lines_inverse}
use Rattle.read_lines.specs.declared.Element.{Element}
use Rattle.read_lines.specs.declared.Element.TheVariants.{Number, Value, Decl, Imm}
use Rattle.read_lines.specs.declared.LineKind.{LineKind}
use Rattle.read_lines.specs.declared.LineKind.TheVariants as kinds
use Rattle.read_lines.specs.Elements.{element_of, element_list}
use Rattle.read_lines.specs.Tails.{last_form, ended_by, region_forms, region_lists, func_tail, control, loop_lists, inst_values, select_forms, select_lists}
use Rattle.read_lines.specs.Nodes.{word_form}
use Rattle.read_lines.specs.Kinds.{kind_lines, rest_of}

pub last_form_inverse : {A : Type 0} {C : Codec A} → Inverse C → Inverse (last_form C)
unfolding last_form
last_form_inverse c = after_word_inverse c (bytes ")\n") refl

pub ended_by_inverse : {A : Type 0} {C : Codec A} → Inverse C → Inverse (ended_by C)
unfolding ended_by
ended_by_inverse c = after_word_inverse c (bytes "\n") refl

pub region_forms_inverse : Inverse region_forms
unfolding region_forms
region_forms_inverse = seq_inverse (sub_inverse "nodes" numbers_codec_inverse) (last_form_inverse (sub_inverse "out" values_codec_inverse))

pub region_lists_inverse : Inverse region_lists
unfolding region_lists
region_lists_inverse = seq_inverse decls_codec_inverse region_forms_inverse

pub func_tail_inverse : Inverse func_tail
unfolding func_tail
func_tail_inverse = seq_inverse field_inverse (seq_inverse field_inverse (ended_by_inverse two_inverse))

pub control_inverse : Inverse control
unfolding control
control_inverse = last_form_inverse field_inverse

pub loop_lists_inverse : Inverse loop_lists
unfolding loop_lists
loop_lists_inverse = seq_inverse value_codec_inverse (sub_inverse "init" values_codec_inverse)

pub inst_values_inverse : Inverse inst_values
unfolding inst_values
inst_values_inverse = seq_inverse imms_codec_inverse (ended_by_inverse values_codec_inverse)

pub select_forms_inverse : Inverse select_forms
unfolding select_forms
select_forms_inverse = seq_inverse (sub_inverse "cases" numbers_codec_inverse) (sub_inverse "outs" decls_codec_inverse)

pub select_lists_inverse : Inverse select_lists
unfolding select_lists
select_lists_inverse = seq_inverse value_codec_inverse select_forms_inverse

pub word_form_inverse : Inverse word_form
unfolding word_form lit alt strip
word_form_inverse =
    alt_inverse (alt_inverse (alt_inverse (lit_inverse (bytes "(block") refl) (lit_inverse (bytes "(select") refl) (λ b r. refl)) (lit_inverse (bytes "(loop") refl) (λ b r. refl)) (lit_inverse (bytes "(exit") refl) (λ b r. refl)

pub element_of_inverse : (e : Element) → Inverse (element_of e)
element_of_inverse (Number k) = field_inverse
element_of_inverse Value = value_codec_inverse
element_of_inverse Decl = decl_inverse
element_of_inverse Imm = imm_codec_inverse

pub element_list_inverse : (e : Element) → Inverse (element_list e)
element_list_inverse (Number k) = numbers_codec_inverse
element_list_inverse Value = values_codec_inverse
element_list_inverse Decl = decls_codec_inverse
element_list_inverse Imm = imms_codec_inverse

pub kind_lines_inverse : (k : LineKind) → Inverse (kind_lines k)
kind_lines_inverse kinds.Const = const_lines_inverse
kind_lines_inverse kinds.Param = param_lines_inverse
kind_lines_inverse kinds.Region = region_lines_inverse
kind_lines_inverse kinds.Node = node_lines_inverse
kind_lines_inverse kinds.Op = op_lines_inverse

pub rest_of_inverse : (k : LineKind) → Inverse (rest_of k)
rest_of_inverse kinds.Const = param_lines_inverse
rest_of_inverse kinds.Param = rest_lines_inverse
rest_of_inverse kinds.Region = node_lines_inverse
rest_of_inverse kinds.Node = op_lines_inverse
rest_of_inverse kinds.Op = ctrl_lines_inverse
